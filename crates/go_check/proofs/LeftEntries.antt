-- The entries that are left, one by one.
use Rattle.std.proofs.Common.{◌≡◌, ◌<◌, ◌≤◌, ◌+◌, ℕ, zero, suc, Bool, true, false, List, [], ◌∷◌, Option, None, arith, length, nat_eq, refl, sym, ap, ◌∙◌, subst, inl, inr}
use Rattle.std.proofs.lemmas.Bool.Decides.{nat_tests}
use Rattle.std.specs.Prelude.{◌&&◌, ◌||◌, if◌then◌else◌, nat_lt, not}
use Rattle.go_packages.specs.go_entries.declared.entry.Entry.{Entry as Had}
use Rattle.go_packages.specs.go_entries.HadEntries.{entries_at}
use Rattle.go_exposed.specs.KeptDeclarations.{entries_of, not_lost}
use Rattle.go_graphs.specs.Flags.{is_flagged}
use Rattle.go_graphs.proofs.Flagging.{apart, either}
use Rattle.go_typings.specs.Declarations.{declarations}
use Rattle.go_typings.specs.Sources.{PackageSource}

-- ---- one that is taken away, or isn't

pub one_kept : (e f : Bool) {A : Type 0} (x : Option A) → f ≡ false → x ≡ (if e && f then None else x)
one_kept true true x h = apart h
one_kept true false x h = refl
one_kept false f x h = refl

pub one_left : (e f : Bool) {A : Type 0} (x : Option A) → f ≡ true → (if e then None else x) ≡ (if e && f then None else x)
one_left true true x h = refl
one_left true false x h = apart (sym h)
one_left false f x h = refl

-- ---- those before a number

one_more : (e l f g : Bool) {A : Type 0} (x : Option A) → (e ≡ true → g ≡ f) → (if e && g then None else (if l && f then None else x)) ≡ (if (l || e) && f then None else x)
one_more true true f g x h = ap (λ z. if z then None else (if f then None else x)) (h refl) ∙ twice f x
  where
    twice : (f : Bool) {A : Type 0} (x : Option A) → (if f then None else (if f then None else x)) ≡ (if f then None else x)
    twice true x = refl
    twice false x = refl
one_more true false f g x h = ap (λ z. if z then None else x) (h refl)
one_more false true f g x h = refl
one_more false false f g x h = refl

below_next : (n k : ℕ) → (nat_lt n k || nat_eq n k) ≡ nat_lt n (k + 1)
below_next n k = grind (arith, nat_tests)

pub left_next : (lost : List Bool) (n k : ℕ) {A : Type 0} (x : Option A) → (if nat_eq n k && is_flagged lost k then None else (if nat_lt n k && is_flagged lost n then None else x)) ≡ (if nat_lt n (k + 1) && is_flagged lost n then None else x)
left_next lost n k x =
    one_more (nat_eq n k) (nat_lt n k) (is_flagged lost n) (is_flagged lost k) x (λ e. ap (is_flagged lost) (sym (equal n k e))) ∙ ap (λ b. if b && is_flagged lost n then None else x) (below_next n k)
  where
    equal : (n k : ℕ) → nat_eq n k ≡ true → n ≡ k
    equal n k e = grind (arith, nat_tests, e)

none_left : (b f : Bool) {A : Type 0} (x : Option A) → b ≡ false → x ≡ (if b && f then None else x)
none_left true f x e = apart e
none_left false f x e = refl

pub left_none : (lost : List Bool) (n : ℕ) {A : Type 0} (x : Option A) → x ≡ (if nat_lt n 0 && is_flagged lost n then None else x)
left_none lost n x = none_left (nat_lt n 0) (is_flagged lost n) x (grind (arith, nat_tests))

each_left : (b f : Bool) {A : Type 0} (x : Option A) → b ≡ true → (if b && f then None else x) ≡ (if f then None else x)
each_left true f x e = refl
each_left false f x e = apart (sym e)

pub left_all : (lost : List Bool) (n k : ℕ) {A : Type 0} (x : Option A) → n < k → (if nat_lt n k && is_flagged lost n then None else x) ≡ (if is_flagged lost n then None else x)
left_all lost n k x h = each_left (nat_lt n k) (is_flagged lost n) x (grind (arith, nat_tests, h))

-- ---- all of a package

turned : (t f : Bool) {A : Type 0} (x : Option A) → t ≡ true → (if f then None else x) ≡ (if t && not f then x else None)
turned true true x e = refl
turned true false x e = refl
turned false f x e = apart (sym e)

past : (t f : Bool) {A : Type 0} (x : Option A) → t ≡ false → (if t && not f then x else None) ≡ None
past true f x e = apart e
past false f x e = refl

nothing_past : (xs : List (Option Had)) (n : ℕ) → length xs ≤ n → entries_at xs n ≡ None
nothing_past [] n h = refl
nothing_past (x ∷ xs) zero h = absurd (omega (arith, h))
nothing_past (x ∷ xs) (suc n) h = nothing_past xs n (omega (arith, h))

-- where the lost ones are taken away, what is left is what the others have
pub left_entries : (u : PackageSource) (lost : List Bool) (old new : List (Option Had)) → length old ≡ length (declarations u) → length new ≡ length old
    → ((n : ℕ) → n < length old → entries_at new n ≡ (if is_flagged lost n then None else entries_at old n)) → entries_at new ≡ entries_of (not_lost u (is_flagged lost)) (entries_at old)
left_entries u lost old new size count kept = λ i n. at n i
  where
    below : (n : ℕ) → nat_lt n (length (declarations u)) ≡ true → n < length old
    below n e = let h : n < length (declarations u) = grind (arith, nat_tests, e) in subst (λ k. n < k) (sym size) h

    above : (n : ℕ) → nat_lt n (length (declarations u)) ≡ false → length new ≤ n
    above n e = let h : length (declarations u) ≤ n = grind (arith, nat_tests, e) in subst (λ k. k ≤ n) (sym (count ∙ size)) h

    at : (n : ℕ) → entries_at new n ≡ entries_of (not_lost u (is_flagged lost)) (entries_at old) n
    at n = elim (either (nat_lt n (length (declarations u)))) [
      | inl e ↦ kept n (below n e) ∙ turned (nat_lt n (length (declarations u))) (is_flagged lost n) (entries_at old n) e
      | inr e ↦ nothing_past new n (above n e) ∙ sym (past (nat_lt n (length (declarations u))) (is_flagged lost n) (entries_at old n) e)
    ]
