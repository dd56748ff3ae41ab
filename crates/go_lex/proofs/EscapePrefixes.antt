-- The escapes and plain characters that the code finds are those at the start.
use Rattle.std.proofs.Common.{◌≡◌, ℕ, zero, suc, ◌+◌, ◌≤◌, true, false, ◌==◌, List, [], ◌∷◌, ◌++◌, length, take, drop, refl, sym, ap, ◌∙◌, subst, arith, length-append, Option, Some, None, IfSome}
use Rattle.std.proofs.lemmas.Bool.Decides.{nat_tests}
use Rattle.std.specs.Prelude.{IfNone}
use Rattle.std.specs.Char.{encode_utf8}
use Rattle.std.proofs.lemmas.List.{take_at, take-append-drop}
use Rattle.std.proofs.lemmas.Str.{encode_same}
use Rattle.go_syntax.specs.declared.token.Meaning.{Meaning}
use Rattle.go_syntax.specs.declared.token.Meaning.TheVariants.{Character}
use Rattle.go_syntax.specs.lexical.Quotes.{is_plain, sign_of, count_of, IsCharacter, plain, sign, octal, hexadecimal, point}
use Rattle.go_lex.specs.declared.quote.Character.{Character as CharacterPrefix}
use Rattle.go_lex.specs.inner.CharacterPrefixes.{HasNoCounted, IsOctal, HasNoOctal, IsHexadecimal, IsPoint, HasNoPoint, IsPlain, HasNoPlain, BeginsCharacter, BeginsNoCharacter}
use Rattle.go_lex.proofs.Escapes.{Form, Hex, Point, Octal, form_of, form_after, form_counted, Meant, IsQuote, meant, head_same, character_some, Split, is_plain_one, is_escape, split_of}

pub map_some : {A : Type 0} (r : Option A) (P Q : A → Type 0) → ((x : A) → P x → Q x) → IfSome r P → IfSome r Q
map_some None P Q f h = tt
map_some (Some x) P Q f h = f x h

pub map_none : {A : Type 0} (r : Option A) (P Q : Type 0) → (P → Q) → IfNone r P → IfNone r Q
map_none None P Q f h = f h
map_none (Some x) P Q f h = tt

length_at_most : (n : ℕ) (xs : List ℕ) → length (take n xs) ≤ n
length_at_most zero xs = omega arith
length_at_most (suc n) [] = omega arith
length_at_most (suc n) (x ∷ xs) = omega (arith, length_at_most n xs)

-- a character of this text and meaning at the start
of_parts : (quote : ℕ) (bytes text : List ℕ) (x : CharacterPrefix) (m : Meaning) (n : ℕ) → x.len ≡ n → x.meaning ≡ m → n ≤ length bytes → take n bytes ≡ text → IsCharacter quote text m → BeginsCharacter quote bytes x
of_parts quote bytes text x m n l e within t is =
    let here : IsCharacter quote (take x.len bytes) x.meaning = subst (λ (p : List ℕ × Meaning). IsCharacter quote p.0 p.1) (λ i. ((sym t ∙ ap (λ (k : ℕ). take k bytes) (sym l)) i, sym e i)) is in
    record { some = omega (arith, character_some quote text m is, ap length t, length_at_most n bytes); within = omega arith; stands = here }

pub sign_begins : (quote e c : ℕ) (more : List ℕ) → sign_of quote e ≡ Some c → BeginsCharacter quote (92 ∷ (e ∷ more)) (record { len = 2; meaning = Character c })
sign_begins quote e c more h = of_parts quote (92 ∷ (e ∷ more)) (92 ∷ (e ∷ [])) _ (Character c) 2 refl refl (omega arith) refl (sign h)

pub octal_begins : (quote : ℕ) (rest : List ℕ) (x : CharacterPrefix) → IsOctal rest x → BeginsCharacter quote (92 ∷ rest) x
octal_begins quote rest x o = of_parts quote (92 ∷ rest) (92 ∷ take 3 rest) x _ 4 o.len_is o.meaning_is (omega (arith, o.within)) refl (octal o.counted o.byte)

pub hexadecimal_begins : (quote : ℕ) (more : List ℕ) (x : CharacterPrefix) → IsHexadecimal more x → BeginsCharacter quote (92 ∷ (120 ∷ more)) x
hexadecimal_begins quote more x o = of_parts quote (92 ∷ (120 ∷ more)) (92 ∷ (120 ∷ take 2 more)) x _ 4 o.len_is o.meaning_is (omega (arith, o.within)) refl (hexadecimal o.counted)

pub point_begins : (quote e count : ℕ) (more : List ℕ) (x : CharacterPrefix) → count_of e ≡ Some count → IsPoint count more x → BeginsCharacter quote (92 ∷ (e ∷ more)) x
point_begins quote e count more x h o =
    let size : 2 + count ≡ suc (suc count) = omega arith in
    of_parts quote (92 ∷ (e ∷ more)) (92 ∷ (e ∷ take count more)) x _ (suc (suc count)) (o.len_is ∙ size) o.meaning_is (omega (arith, o.within)) refl (point h o.counted o.scalar)

-- no escape
no_escape : (quote : ℕ) (rest : List ℕ) (f : Form) → IsQuote quote → form_of quote rest ≡ f → ((text : List ℕ) (m : Meaning) → Meant f rest text m → ⊥) → BeginsNoCharacter quote (92 ∷ rest)
no_escape quote rest f q e none text more m is joined = none text m (subst (λ (g : Form). Meant g rest text m) e (meant quote text more rest m q is (sym joined)))

split_at : (n : ℕ) (xs : List ℕ) → xs ≡ take n xs ++ drop n xs
split_at n xs = sym (take-append-drop n xs)

pub empty_none : (quote : ℕ) → IsQuote quote → BeginsNoCharacter quote (92 ∷ [])
empty_none quote q = no_escape quote [] Octal q refl (λ text m h. absurd (omega (arith, h.0.count_is)))

form_hex : (quote e : ℕ) (more : List ℕ) → sign_of quote e ≡ None → e ≡ 120 → form_of quote (e ∷ more) ≡ Hex
form_hex quote e more h is = ap (λ (o : Option ℕ). form_after o e) h ∙ ap (form_after None) is

form_other : (quote e : ℕ) (more : List ℕ) → sign_of quote e ≡ None → (e == 120) ≡ false → form_of quote (e ∷ more) ≡ form_counted (count_of e)
form_other quote e more h other = ap (λ (o : Option ℕ). form_after o e) h ∙ rw other refl

pub hexadecimal_none : (quote e : ℕ) (more : List ℕ) → IsQuote quote → sign_of quote e ≡ None → e ≡ 120 → HasNoCounted 16 2 more → BeginsNoCharacter quote (92 ∷ (e ∷ more))
hexadecimal_none quote e more q h is none = no_escape quote (e ∷ more) Hex q (form_hex quote e more h is) (λ text m a. none (take 2 more) (drop 2 more) a.0 (split_at 2 more))

pub point_none : (quote e count : ℕ) (more : List ℕ) → IsQuote quote → sign_of quote e ≡ None → (e == 120) ≡ false → count_of e ≡ Some count → HasNoPoint count more → BeginsNoCharacter quote (92 ∷ (e ∷ more))
point_none quote e count more q h other n none =
    no_escape quote (e ∷ more) (Point count) q (form_other quote e more h other ∙ ap form_counted n)
    (λ text m a. none (take count more) (drop count more) a.0 a.3 (split_at count more))

pub octal_none : (quote e : ℕ) (more : List ℕ) → IsQuote quote → sign_of quote e ≡ None → (e == 120) ≡ false → count_of e ≡ None → HasNoOctal (e ∷ more) → BeginsNoCharacter quote (92 ∷ (e ∷ more))
octal_none quote e more q h other n none =
    no_escape quote (e ∷ more) Octal q (form_other quote e more h other ∙ ap form_counted n)
    (λ text m a. none (take 3 (e ∷ more)) (drop 3 (e ∷ more)) a.0 a.3 (split_at 3 (e ∷ more)))

-- plain characters
pub plain_begins : (quote : ℕ) (bytes : List ℕ) (x : CharacterPrefix) → IsPlain quote bytes x → BeginsCharacter quote bytes x
plain_begins quote bytes x p =
    of_parts quote bytes (encode_utf8 p.c) x (Character p.c) (length (encode_utf8 p.c)) p.len_is p.meaning_is (omega (arith, ap length p.joined, length-append (encode_utf8 p.c) p.rest))
    (ap (take (length (encode_utf8 p.c))) p.joined ∙ take_at (encode_utf8 p.c) p.rest (length (encode_utf8 p.c)) refl)
    (plain p.scalar p.plain_is)

pub wrong_plain : (quote c d : ℕ) (bytes more rest : List ℕ) → bytes ≡ encode_utf8 c ++ more → is_plain quote c ≡ false → is_plain quote d ≡ true → bytes ≡ encode_utf8 d ++ rest → ⊥
wrong_plain quote c d bytes more rest e f t g =
    let same : c ≡ d = (encode_same c d more rest (sym e ∙ g)).0 in
    let here : is_plain quote c ≡ true = subst (λ (x : ℕ). is_plain quote x ≡ true) (sym same) t in
    absurd (cc)

-- where no backslash stands in prefix, there are plain characters alone
abbrev NoBackslash : List ℕ → Type 0
NoBackslash bytes = (rest : List ℕ) → bytes ≡ 92 ∷ rest → ⊥

by_split : (quote : ℕ) (bytes text more : List ℕ) (m : Meaning) → NoBackslash bytes → HasNoPlain quote bytes → bytes ≡ text ++ more → Split quote text m → ⊥
by_split quote bytes text more m no_slash none e (is_plain_one c scalar h t _) = none c more scalar h (e ∙ ap (λ (xs : List ℕ). xs ++ more) t)
by_split quote bytes text more m no_slash none e (is_escape rest t) = no_slash (rest ++ more) (e ∙ ap (λ (xs : List ℕ). xs ++ more) t)

pub plain_none : (quote : ℕ) (bytes : List ℕ) → NoBackslash bytes → HasNoPlain quote bytes → BeginsNoCharacter quote bytes
plain_none quote bytes no_slash none text more m is e = by_split quote bytes text more m no_slash none e (split_of quote text m is)

is_byte : (a b : ℕ) → (a == b) ≡ true → a ≡ b
is_byte a b h = grind (arith, nat_tests)

pub other_byte : (a b : ℕ) → (a ≡ b → ⊥) → (a == b) ≡ false
other_byte a b h = elim (a == b) as (λ t. (a == b) ≡ t → t ≡ false) [ true ↦ (λ e. absurd (h (is_byte a b e))) | false ↦ (λ e. refl) ] refl

pub empty_slash : (quote : ℕ) (rest : List ℕ) → IsQuote quote → length rest ≡ 0 → BeginsNoCharacter quote (92 ∷ rest)
empty_slash quote [] q e = empty_none quote q
empty_slash quote (x ∷ xs) q e = absurd (omega arith)

pub no_slash_there : (bytes rest : List ℕ) (b : ℕ) (more : List ℕ) → bytes ≡ b ∷ more → (b ≡ 92 → ⊥) → bytes ≡ 92 ∷ rest → ⊥
no_slash_there bytes rest b more e other f = other (head_same b 92 more rest (sym e ∙ f))

pub no_slash_nowhere : (bytes rest : List ℕ) → length bytes ≡ 0 → bytes ≡ 92 ∷ rest → ⊥
no_slash_nowhere bytes rest e f = omega (arith, ap length f)

pub nothing_begins : (quote : ℕ) (bytes : List ℕ) → length bytes ≡ 0 → BeginsNoCharacter quote bytes
nothing_begins quote bytes none text more m is e = omega (arith, character_some quote text m is, ap length e, length-append text more)
