-- The order of paths, byte by byte, and where the paths that begin alike stand in it.
use Rattle.std.proofs.Common.{◌≡◌, ℕ, ◌<◌, Bool, true, false, [], ◌∷◌, ◌++◌, refl, sym, ap, ◌∙◌, subst, arith}
use mathlib.Core.Bool.{true≢false}
use Rattle.std.specs.FinMap.{slice_cmp-IsAntisymmetric, nat_cmp-IsAntisymmetric}
use Rattle.std.specs.Ordering.{nat_cmp, is_lt, ordering_then, ordering_reverse}
use Rattle.std.specs.declared.cmp.Ordering.{Ordering}
use Rattle.std.specs.declared.cmp.Ordering.TheVariants.{Less, Equal, Greater}
use Rattle.std.specs.Cmp.{IsStrictWeakOrder}
use Rattle.std.specs.Cmp.Lexicographic.{slice_cmp}
use Rattle.std.proofs.lemmas.Cmp.{nat_list_cmp_total, nat_cmp_total, tied_itself, ranked}
use Rattle.std.proofs.lemmas.List.Sorted.{ranks_by}
use Rattle.go_outside.specs.Paths.{Path}
use Rattle.go_outside.specs.inner.SortedPairs.{is_before}

order : IsStrictWeakOrder is_before
order = ranks_by nat_list_cmp_total (λ (p : Path). p)

pub before_itself : (a : Path) → is_before a a ≡ false
before_itself a = ap is_lt (tied_itself nat_list_cmp_total a)

pub one_way : (a b : Path) → is_before a b ≡ true → is_before b a ≡ false
one_way = order.one_way

-- what is not before b, which is not before c, is not before c
pub not_before_trans : (a b c : Path) → is_before a b ≡ false → is_before b c ≡ false → is_before a c ≡ false
not_before_trans = order.chain

pub not_both : {b : Bool} → b ≡ true → b ≡ false → ⊥
not_both t f = true≢false (sym t ∙ f)

not_true : (b : Bool) → (b ≡ true → ⊥) → b ≡ false
not_true true h = absurd (h refl)
not_true false h = refl

not_false : (b : Bool) → (b ≡ false → ⊥) → b ≡ true
not_false true h = refl
not_false false h = absurd (h refl)

-- a path up to another comes before what the other comes before
pub before_from : (a b c : Path) → is_before b a ≡ false → is_before b c ≡ true → is_before a c ≡ true
before_from a b c h k = not_false _ (λ z. not_both k (not_before_trans b a c h z))

pub before_trans : (a b c : Path) → is_before a b ≡ true → is_before b c ≡ true → is_before a c ≡ true
before_trans a b c h k = before_from a b c (one_way a b h) k

-- what comes after something that is not before c is not before c
pub after_from : (a b c : Path) → is_before a c ≡ false → is_before a b ≡ true → is_before b c ≡ false
after_from a b c h k = not_before_trans b a c (one_way a b k) h

pub before_differs : (a b : Path) → is_before a b ≡ true → a ≡ b → ⊥
before_differs a b h e = not_both h (subst (λ (w : Path). is_before a w ≡ false) e (before_itself a))

-- paths with one prefix stand to each other as what follows it
same_front : (f a b : Path) → slice_cmp nat_cmp (f ++ a) (f ++ b) ≡ slice_cmp nat_cmp a b
same_front [] a b = refl
same_front (x ∷ f) a b = ap (λ o. ordering_then o (slice_cmp nat_cmp (f ++ a) (f ++ b))) (tied_itself nat_cmp_total x) ∙ same_front f a b

no_less : (rest : Path) → is_lt (slice_cmp nat_cmp rest []) ≡ false
no_less [] = refl
no_less (x ∷ rest) = refl

-- what a folder and a slash begin is not before the folder and a slash
pub slash_from : (f rest : Path) → is_before (f ++ 47 ∷ rest) (f ++ 47 ∷ []) ≡ false
slash_from f rest = ap is_lt (same_front f (47 ∷ rest) (47 ∷ [])) ∙ no_less rest

-- and it is before the folder and the byte after a slash
pub slash_before : (f rest : Path) → is_before (f ++ 47 ∷ rest) (f ++ 48 ∷ []) ≡ true
slash_before f rest = ap is_lt (same_front f (47 ∷ rest) (48 ∷ []))

Between : Path → Path → Type 0
Between f q = (rest : Path) × (q ≡ f ++ 47 ∷ rest)

byte_by : (c : ℕ) (cs : Path) (o p : Ordering) → o ≡ nat_cmp c 47 → p ≡ nat_cmp c 48
    → is_lt (ordering_then o (slice_cmp nat_cmp cs [])) ≡ false → is_lt (ordering_then p (slice_cmp nat_cmp cs [])) ≡ true → c ≡ 47
byte_by c cs Less p e k h g = absurd (true≢false h)
byte_by c cs Equal p e k h g = ranked c 47 Equal e
byte_by c cs Greater Less e k h g = let low : 47 < c = ranked c 47 Greater e in let high : c < 48 = ranked c 48 Less k in absurd (omega arith)
byte_by c cs Greater Equal e k h g = absurd (not_both g (no_less cs))
byte_by c cs Greater Greater e k h g = absurd (true≢false (sym g))

between_by : (f : Path) (x c : ℕ) (cs : Path) (o : Ordering) → o ≡ nat_cmp c x
    → is_lt (ordering_then o (slice_cmp nat_cmp cs (f ++ 47 ∷ []))) ≡ false → is_lt (ordering_then o (slice_cmp nat_cmp cs (f ++ 48 ∷ []))) ≡ true
    → (is_before cs (f ++ 47 ∷ []) ≡ false → is_before cs (f ++ 48 ∷ []) ≡ true → Between f cs) → Between (x ∷ f) (c ∷ cs)
unfolding Between
between_by f x c cs Less e h g rest = absurd (true≢false h)
between_by f x c cs Equal e h g rest = let r = rest h g in let s : c ≡ x = ranked c x Equal e in (r.0, ap (λ w. w ∷ cs) s ∙ ap (λ (w : Path). x ∷ w) r.1)
between_by f x c cs Greater e h g rest = absurd (true≢false (sym g))

-- what stands between them begins with the folder and a slash
pub between : (f q : Path) → is_before q (f ++ 47 ∷ []) ≡ false → is_before q (f ++ 48 ∷ []) ≡ true → (rest : Path) × (q ≡ f ++ 47 ∷ rest)
unfolding Between
between [] [] h g = absurd (true≢false h)
between [] (c ∷ cs) h g = (cs, ap (λ w. w ∷ cs) (byte_by c cs (nat_cmp c 47) (nat_cmp c 48) refl refl h g))
between (x ∷ f) [] h g = absurd (true≢false h)
between (x ∷ f) (c ∷ cs) h g = between_by f x c cs (nat_cmp c x) refl h g (between f cs)

-- what is not before the folder and a slash, and doesn't begin with them, is past all that does
pub past_slash : (f q : Path) → is_before q (f ++ 47 ∷ []) ≡ false → ((rest : Path) → q ≡ f ++ 47 ∷ rest → ⊥) → is_before q (f ++ 48 ∷ []) ≡ false
past_slash f q h never = not_true _ (λ g. let r = between f q h g in never r.0 r.1)

same_by : (a b : Path) (o : Ordering) → slice_cmp nat_cmp b a ≡ o → is_lt o ≡ false → is_lt (ordering_reverse o) ≡ false → a ≡ b
same_by a b Less e h k = absurd (true≢false h)
same_by a b Equal e h k = sym (slice_cmp-IsAntisymmetric nat_cmp-IsAntisymmetric b a e)
same_by a b Greater e h k = absurd (true≢false k)

-- of two paths one comes before the other, or they are the same
pub same_path : (a b : Path) → is_before a b ≡ false → is_before b a ≡ false → a ≡ b
same_path a b h k = same_by a b (slice_cmp nat_cmp b a) refl k (sym (ap is_lt (nat_list_cmp_total.antisymm a b)) ∙ h)
