-- A text has one cut into lexemes, which ends at its one bad offset or at the end.
use Rattle.std.proofs.Common.{◌≡◌, inl, inr, ℕ, ◌≤◌, List, [], ◌∷◌, ◌++◌, length, refl, sym, ap, ◌∙◌, subst, arith, length-append, false}
use Rattle.go_syntax.specs.declared.token.TokenValue.{TokenValue}
use Rattle.go_syntax.specs.declared.token.LexemeKind.{LexemeKind}
use Rattle.go_syntax.specs.lexical.Lexemes.{IsLexeme, opens_comment, comment_kind, Lexeme, Stands, Begins, BeginsLongest, BeginsNone, CutTo, here, next}
use Rattle.go_lex.specs.inner.Starts.{start_of}
use Rattle.go_lex.proofs.Escapes.{head_same, tail_same}
use Rattle.go_lex.proofs.LexemeClasses.{Class, classed}
use Rattle.go_lex.proofs.LongestByClass.{comment_opens}
use Rattle.go_lex.proofs.OneMeaning.{class_once, nothing_begins}

same_fronts : (xs ys us vs : List ℕ) → length xs ≡ length ys → xs ++ us ≡ ys ++ vs → (xs ≡ ys) × (us ≡ vs)
same_fronts [] [] us vs l e = (refl, e)
same_fronts [] (y ∷ ys) us vs l e = absurd (omega arith)
same_fronts (x ∷ xs) [] us vs l e = absurd (omega arith)
same_fronts (x ∷ xs) (y ∷ ys) us vs l e =
    let rest = same_fronts xs ys us vs (omega arith) (tail_same x y (xs ++ us) (ys ++ vs) e) in
    let head = head_same x y (xs ++ us) (ys ++ vs) e in
    (cc, rest.1)

-- a lexeme of some bytes says one thing
one_meaning : (bytes : List ℕ) (k j : LexemeKind) (v w : TokenValue) (x y us vs : List ℕ) → IsLexeme k v x → IsLexeme j w y → opens_comment bytes ≡ false → bytes ≡ x ++ us → bytes ≡ y ++ vs → x ≡ y → (k ≡ j) × (v ≡ w)
one_meaning bytes k j v w x y us vs p q closed e f same =
    let a : Class (start_of bytes) bytes k v x = subst (λ (xs : List ℕ). Class (start_of xs) xs k v x) (sym e) (classed k v x us p (subst (λ (xs : List ℕ). opens_comment xs ≡ false) e closed)) in
    let b : Class (start_of bytes) bytes j w y = subst (λ (xs : List ℕ). Class (start_of xs) xs j w y) (sym f) (classed j w y vs q (subst (λ (xs : List ℕ). opens_comment xs ≡ false) f closed)) in
    class_once (start_of bytes) bytes x k j v w a (subst (λ (xs : List ℕ). Class (start_of bytes) bytes j w xs) (sym same) b)

same_lexeme : (x y : Lexeme) → x.kind ≡ y.kind → x.value ≡ y.value → x.text ≡ y.text → x ≡ y
same_lexeme x y a b c = λ i. record { kind = a i; value = b i; text = c i }

stands_once : (bytes : List ℕ) (x y : Lexeme) (us vs : List ℕ) → Stands bytes x → Stands bytes y → bytes ≡ x.text ++ us → bytes ≡ y.text ++ vs → x.text ≡ y.text → x ≡ y
stands_once bytes x y us vs p q e f same =
    elim p [
      | inl c ↦ elim q [
        | inl d ↦ same_lexeme x y (c.kind_is ∙ ap comment_kind same ∙ sym d.kind_is) (c.silent ∙ sym d.silent) same
        | inr d ↦ absurd (let opened = comment_opens bytes (length x.text) c.len in let closed = d.0 in cc)
      ]
      | inr c ↦ elim q [
        | inl d ↦ absurd (let opened = comment_opens bytes (length y.text) d.len in let closed = c.0 in cc)
        | inr d ↦ (let one = one_meaning bytes x.kind y.kind x.value y.value x.text y.text us vs c.1 d.1 c.0 e f same in same_lexeme x y one.0 one.1 same)
      ]
    ]

-- the longest lexeme of some bytes is one
same_longest : (bytes : List ℕ) (x y : Lexeme) (us vs : List ℕ) → BeginsLongest bytes x us → BeginsLongest bytes y vs → (x ≡ y) × (us ≡ vs)
same_longest bytes x y us vs p q =
    let a = p.longest y vs q.begins in
    let b = q.longest x us p.begins in
    let same = same_fronts x.text y.text us vs (omega arith) (sym p.begins.joined ∙ q.begins.joined) in
    (stands_once bytes x y us vs p.begins.stands q.begins.stands p.begins.joined q.begins.joined same.0, same.1)

no_more : (bytes : List ℕ) (x : Lexeme) (us : List ℕ) → Begins bytes x us → bytes ≡ [] → ⊥
no_more bytes x us p e = nothing_begins x us (subst (λ (xs : List ℕ). Begins xs x us) e p)

cut_shorter : (bytes rest : List ℕ) (xs : List Lexeme) → CutTo bytes xs rest → length rest ≤ length bytes
cut_shorter bytes rest xs here = omega arith
cut_shorter bytes rest xs (next {x = x} {after = us} p cut) = omega (arith, cut_shorter us rest _ cut, ap length p.begins.joined, length-append x.text us)

-- where no lexeme begins, no other cut has come further
pub no_further : (b c : List ℕ) (xs ys : List Lexeme) (r s : List ℕ) → CutTo b xs r → CutTo c ys s → b ≡ c → BeginsNone r → length r ≤ length s
no_further b c xs ys r s here here e none = omega (arith, ap length e)
no_further b c xs ys r s here (next {x = x} {after = us} p cut) e none = absurd (none x us (subst (λ (bytes : List ℕ). Begins bytes x us) (sym e) p.begins))
no_further b c xs ys r s (next p cut) here e none = omega (arith, cut_shorter b r _ (next p cut), ap length e)
no_further b c xs ys r s (next {x = x} {after = us} p cut) (next {x = y} {after = vs} q other) e none =
    let same = same_longest b x y us vs p (subst (λ (bytes : List ℕ). BeginsLongest bytes y vs) (sym e) q) in
    no_further us vs _ _ r s cut other same.1 none

pub one_cut : (b c : List ℕ) (xs ys : List Lexeme) → CutTo b xs [] → CutTo c ys [] → b ≡ c → xs ≡ ys
one_cut b c xs ys here here e = refl
one_cut b c xs ys here (next {x = x} {after = us} p cut) e = absurd (no_more c x us p.begins (sym e))
one_cut b c xs ys (next {x = x} {after = us} p cut) here e = absurd (no_more b x us p.begins e)
one_cut b c xs ys (next {x = x} {after = us} {lexemes = as'} p cut) (next {x = y} {after = vs} {lexemes = bs} q other) e =
    let same = same_longest b x y us vs p (subst (λ (bytes : List ℕ). BeginsLongest bytes y vs) (sym e) q) in
    let more : as' ≡ bs = one_cut us vs as' bs cut other same.1 in
    λ i. same.0 i ∷ more i

pub empty : (xs : List ℕ) → length xs ≤ 0 → xs ≡ []
empty [] h = refl
empty (x ∷ xs) h = absurd (omega arith)
