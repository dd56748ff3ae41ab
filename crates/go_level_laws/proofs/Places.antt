-- Packages that are added in another order make the same world.
use Rattle.std.proofs.Common.{◌≡◌, ◌≢◌, ◌⊎◌, ℕ, Bool, true, false, List, [], ◌∷◌, Option, Some, None, refl, sym, ap, ◌∙◌, inl, inr, if◌then◌else◌}
use mathlib.Core.Bool.{true≢false}
use Rattle.std.specs.Cmp.Lexicographic.{slice_cmp}
use Rattle.std.specs.FinMap.{nat_cmp-IsAntisymmetric, slice_cmp-IsAntisymmetric}
use Rattle.std.specs.Ordering.{is_lt, nat_cmp, ordering_reverse}
use Rattle.std.specs.Str.{bytes_eq}
use Rattle.std.specs.declared.cmp.Ordering.{Ordering}
use Rattle.std.specs.declared.cmp.Ordering.TheVariants.{Less, Equal, Greater}
use Rattle.std.proofs.lemmas.Cmp.{nat_list_cmp_total}
use Rattle.std.proofs.lemmas.Slice.Eq.{bytes_eq-Decides}
use Rattle.go_base.specs.Keys.{first_with, placed}
use Rattle.go_model.specs.declared.types.package.Package.{Package}
use Rattle.go_model.specs.worlds.Worlds.{Packages, path_of, with_package}
use Rattle.go_typings.proofs.Cells.{either, if_false, if_true, some_once}
use Rattle.go_typings.specs.PackageWorlds.{Outcome, typed, refused, blocked, is_public, with_outcome}
use Rattle.go_typings.specs.Sources.{PackageSource}

abbrev comes_before : List ℕ → List ℕ → Bool
comes_before a b = is_lt (slice_cmp nat_cmp a b)

less_of : (o : Ordering) → is_lt o ≡ true → o ≡ Less
less_of Less e = refl
less_of Equal e = absurd (true≢false (sym e))
less_of Greater e = absurd (true≢false (sym e))

-- of two texts that differ one comes before the other, and the other doesn't come before it
one_first : (a b : List ℕ) → a ≢ b → ((comes_before a b ≡ true) × (comes_before b a ≡ false)) ⊎ ((comes_before a b ≡ false) × (comes_before b a ≡ true))
one_first a b n = by (slice_cmp nat_cmp a b) refl
  where
    by : (o : Ordering) → slice_cmp nat_cmp a b ≡ o → ((comes_before a b ≡ true) × (comes_before b a ≡ false)) ⊎ ((comes_before a b ≡ false) × (comes_before b a ≡ true))
    by Less e = inl (ap is_lt e, ap is_lt (nat_list_cmp_total.antisymm b a ∙ ap ordering_reverse e))
    by Equal e = absurd (n (slice_cmp-IsAntisymmetric nat_cmp-IsAntisymmetric a b e))
    by Greater e = inr (ap is_lt e, ap is_lt (nat_list_cmp_total.antisymm b a ∙ ap ordering_reverse e))

before_both : (a b c : List ℕ) → comes_before a b ≡ true → comes_before b c ≡ true → comes_before a c ≡ true
before_both a b c h k = ap is_lt (nat_list_cmp_total.trans a b c (less_of (slice_cmp nat_cmp a b) h) (less_of (slice_cmp nat_cmp b c) k))

module _ {A : Type 0} (key : A → List ℕ) where
  front : (y x : A) (xs : List A) → comes_before (key y) (key x) ≡ true → placed key y (x ∷ xs) ≡ y ∷ x ∷ xs
  front y x xs e = if_true (comes_before (key y) (key x)) (y ∷ x ∷ xs) (x ∷ placed key y xs) e

  behind : (y x : A) (xs : List A) → comes_before (key y) (key x) ≡ false → placed key y (x ∷ xs) ≡ x ∷ placed key y xs
  behind y x xs e = if_false (comes_before (key y) (key x)) (y ∷ x ∷ xs) (x ∷ placed key y xs) e

  -- where the first comes before the second
  both_before : (y z : A) (xs : List A) → comes_before (key y) (key z) ≡ true → comes_before (key z) (key y) ≡ false → placed key y (placed key z xs) ≡ placed key z (placed key y xs)
  both_before y z [] b c = front y z [] b ∙ sym (behind z y [] c)
  both_before y z (x ∷ xs) b c = elim (either (comes_before (key z) (key x))) [
    | inl q ↦ (
        let p = before_both (key y) (key z) (key x) b q in
        ap (placed key y) (front z x xs q)
        ∙ front y z (x ∷ xs) b
        ∙ ap (λ rest. y ∷ rest) (sym (front z x xs q))
        ∙ sym (behind z y (x ∷ xs) c)
        ∙ ap (placed key z) (sym (front y x xs p))
        )
    | inr q ↦ elim (either (comes_before (key y) (key x))) [
      | inl p ↦
          ap (placed key y) (behind z x xs q)
          ∙ front y x (placed key z xs) p
          ∙ ap (λ rest. y ∷ rest) (sym (behind z x xs q))
          ∙ sym (behind z y (x ∷ xs) c)
          ∙ ap (placed key z) (sym (front y x xs p))
      | inr p ↦
          ap (placed key y) (behind z x xs q)
          ∙ behind y x (placed key z xs) p
          ∙ ap (λ rest. x ∷ rest) (both_before y z xs b c)
          ∙ sym (behind z x (placed key y xs) q)
          ∙ ap (placed key z) (sym (behind y x xs p))
    ]
  ]

  pub placed_twice : (y z : A) (xs : List A) → key y ≢ key z → placed key y (placed key z xs) ≡ placed key z (placed key y xs)
  placed_twice y z xs n = elim (one_first (key y) (key z) n) [
    | inl k ↦ both_before y z xs k.0 k.1
    | inr k ↦ sym (both_before z y xs k.1 k.0)
  ]

  -- what is found was placed, or was found before
  pub placed_or_before : (y : A) (xs : List A) (k : List ℕ) (x : A) → first_with key (placed key y xs) k ≡ Some x → ((key y ≡ k) × (y ≡ x)) ⊎ (first_with key xs k ≡ Some x)
  placed_or_before y [] k x e = first_or y None k x (λ f. inr f) e
    where
      first_or : (y : A) (rest : Option A) (k : List ℕ) (x : A) → (rest ≡ Some x → ((key y ≡ k) × (y ≡ x)) ⊎ (first_with key [] k ≡ Some x)) → (if bytes_eq (key y) k then Some y else rest) ≡ Some x → ((key y ≡ k) × (y ≡ x)) ⊎ (first_with key [] k ≡ Some x)
      first_or y rest k x r e = elim (either (bytes_eq (key y) k)) [
        | inl b ↦ inl ((bytes_eq-Decides (key y) k).0 b, some_once y x (sym (if_true (bytes_eq (key y) k) (Some y) rest b) ∙ e))
        | inr b ↦ r (sym (if_false (bytes_eq (key y) k) (Some y) rest b) ∙ e)
      ]
  placed_or_before y (z ∷ xs) k x e = elim (either (comes_before (key y) (key z))) [
    | inl p ↦ (
        let f = ap (λ ys. first_with key ys k) (sym (front y z xs p)) ∙ e in
        elim (either (bytes_eq (key y) k)) [
          | inl b ↦ inl ((bytes_eq-Decides (key y) k).0 b, some_once y x (sym (if_true (bytes_eq (key y) k) (Some y) (first_with key (z ∷ xs) k) b) ∙ f))
          | inr b ↦ inr (sym (if_false (bytes_eq (key y) k) (Some y) (first_with key (z ∷ xs) k) b) ∙ f)
        ]
        )
    | inr p ↦ (
        let f = ap (λ ys. first_with key ys k) (sym (behind y z xs p)) ∙ e in
        elim (either (bytes_eq (key z) k)) [
          | inl b ↦ inr (if_true (bytes_eq (key z) k) (Some z) (first_with key xs k) b ∙ sym (if_true (bytes_eq (key z) k) (Some z) (first_with key (placed key y xs) k) b) ∙ f)
          | inr b ↦ elim (placed_or_before y xs k x (sym (if_false (bytes_eq (key z) k) (Some z) (first_with key (placed key y xs) k) b) ∙ f)) [
            | inl own ↦ inl own
            | inr old ↦ inr (if_false (bytes_eq (key z) k) (Some z) (first_with key xs k) b ∙ old)
          ]
        ]
        )
  ]

-- ---- worlds

publics_twice : (p q : List ℕ) (b c : Bool) (paths : List (List ℕ)) → p ≢ q
    → (if c then placed (λ t. t) q (if b then placed (λ t. t) p paths else paths) else (if b then placed (λ t. t) p paths else paths))
    ≡ (if b then placed (λ t. t) p (if c then placed (λ t. t) q paths else paths) else (if c then placed (λ t. t) q paths else paths))
publics_twice p q true true paths n = placed_twice (λ t. t) q p paths (λ e. n (sym e))
publics_twice p q true false paths n = refl
publics_twice p q false true paths n = refl
publics_twice p q false false paths n = refl

packages_twice : (w : Packages) (p q : Package) (b c : Bool) → p.path ≢ q.path → with_package (with_package w p b) q c ≡ with_package (with_package w q c) p b
packages_twice w p q b c n =
    let ps = placed_twice path_of q p w.packages (λ e. n (sym e)) in
    let paths = publics_twice p.path q.path b c w.publics n in
    λ i. record { packages = ps i; publics = paths i }

-- a package that is typed has the path of what is written
abbrev pub HasPath : PackageSource → Outcome → Type 0
HasPath u (typed p) = p.path ≡ u.path
HasPath u (refused r) = Unit {0}
HasPath u blocked = Unit {0}

pub outcomes_twice : (w : Packages) (u v : PackageSource) (x y : Outcome) → HasPath u x → HasPath v y → u.path ≢ v.path → with_outcome (with_outcome w u x) v y ≡ with_outcome (with_outcome w v y) u x
outcomes_twice w u v (typed p) (typed q) h k n = packages_twice w p q (is_public u) (is_public v) (λ e. n (sym h ∙ e ∙ k))
outcomes_twice w u v (typed p) (refused r) h k n = refl
outcomes_twice w u v (typed p) blocked h k n = refl
outcomes_twice w u v (refused r) y h k n = refl
outcomes_twice w u v blocked y h k n = refl
