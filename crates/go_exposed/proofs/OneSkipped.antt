-- A declaration that is left out has one cause, and packages have one list of what is left out.
use Rattle.std.proofs.Common.{◌≡◌, ℕ, suc, ◌<◌, ◌⊎◌, Bool, true, false, List, [], ◌∷◌, refl, sym, ap, ◌∙◌, subst, inl, inr}
use Rattle.std.specs.Prelude.{slice_get}
use Rattle.go_model.specs.worlds.Worlds.{Packages}
use Rattle.go_typings.proofs.go_rules_proofs.OneKind.{no_truth}
use Rattle.go_typings.specs.Assignments.{At}
use Rattle.go_typings.specs.Declarations.{Declaration, declarations}
use Rattle.go_typings.specs.PackageWorlds.{Outcome, typed, refused, blocked, no_packages, over, with_outcome}
use Rattle.go_typings.specs.Sources.{PackageSource, Setting}
use Rattle.go_typings.proofs.Cells.{some_once}
use Rattle.go_exposed.specs.BeyondProfile.{IsBeyond}
use Rattle.go_exposed.specs.Causes.{Cause, number, constant_type, import_not_found, by_another, HasCause, HasCauseBy, of_number, of_constant_type, of_import, of_another, IsFirstThrough, IsInexactConstant, IsThrough, first_name, shown_names}
use Rattle.go_exposed.specs.OfferedWorlds.{Becomes}
use Rattle.go_exposed.specs.SkippedDeclarations.{AreSkippedFrom, skipped_none, skipped_kept, skipped_more, IsSkippedOf, Skipped, skipped_as}
use Rattle.go_exposed.specs.SkippedWorlds.{AreSkipped, IsSkipped, IsSkippedAs, Skip, skip_none, skip_more}
use Rattle.go_exposed.proofs.OneCause.{order}
use Rattle.go_exposed.proofs.OneKeptSet.{one_kept}
use Rattle.go_exposed.proofs.OneWorld.{one_outcome}

-- ---- causes

module _ (u : PackageSource) (I B : ℕ → Type 0) where
  one_through : (n m k : ℕ) → IsFirstThrough u I B n m → IsFirstThrough u I B n k → m ≡ k
  one_through n m k a b = elim (order m k) [
    | inl l ↦ absurd (b.first m l a.through)
    | inr e ↦ elim e [
      | inl e ↦ e
      | inr l ↦ absurd (a.first k l b.through)
    ]
  ]

  one_name : (m k : ℕ) (x y : List ℕ) → m ≡ k → At (declarations u) m (λ d. first_name (shown_names d.form) ≡ x) → At (declarations u) k (λ d. first_name (shown_names d.form) ≡ y) → x ≡ y
  one_name m k x y e a b =
      let d = some_once a.0 b.0 (sym a.1 ∙ ap (slice_get (declarations u)) e ∙ b.1) in
      sym a.2 ∙ ap (λ (z : Declaration). first_name (shown_names z.form)) d ∙ b.2

  pub one_cause_by : (n : ℕ) (c d : Cause) → HasCauseBy u I B n c → HasCauseBy u I B n d → c ≡ d
  one_cause_by n c d (of_number i) (of_number j) = refl
  one_cause_by n c d (of_number i) (of_constant_type nay j) = absurd (nay i)
  one_cause_by n c d (of_number i) (of_import nay f j) = absurd (nay i)
  one_cause_by n c d (of_number i) (of_another nay f g j k) = absurd (nay i)
  one_cause_by n c d (of_constant_type nay i) (of_number j) = absurd (nay j)
  one_cause_by n c d (of_constant_type nay i) (of_constant_type nor j) = refl
  one_cause_by n c d (of_constant_type nay i) (of_import nor f j) = absurd (f i)
  one_cause_by n c d (of_constant_type nay i) (of_another nor f g j k) = absurd (f i)
  one_cause_by n c d (of_import nay f i) (of_number j) = absurd (nay j)
  one_cause_by n c d (of_import nay f i) (of_constant_type nor j) = absurd (f j)
  one_cause_by n c d (of_import nay f i) (of_import nor g j) = refl
  one_cause_by n c d (of_import nay f i) (of_another nor g h j k) = absurd (h i)
  one_cause_by n c d (of_another nay f g i k) (of_number j) = absurd (nay j)
  one_cause_by n c d (of_another nay f g i k) (of_constant_type nor j) = absurd (f j)
  one_cause_by n c d (of_another nay f g i k) (of_import nor h j) = absurd (g j)
  one_cause_by n c d (of_another {m = m} {name = x} nay f g i k) (of_another {m = z} {name = y} nor h j l q) = ap by_another (one_name m z x y (one_through n m z i l) k q)

-- where other words say the same of which constants are inexact and which declarations are beyond, each cause stays
module _ (u : PackageSource) (I B J C : ℕ → Type 0) (to : (n : ℕ) → I n → J n) (from : (n : ℕ) → J n → I n) (there : (n : ℕ) → B n → C n) (back : (n : ℕ) → C n → B n) where
  through_same : (n m : ℕ) → IsFirstThrough u I B n m → IsFirstThrough u J C n m
  through_same n m k = record {
    through = record { other = k.through.other; depends = k.through.depends; beyond = there m k.through.beyond };
    first = λ j l t. k.first j l (record { other = t.other; depends = t.depends; beyond = back j t.beyond });
  }

  pub cause_same : (n : ℕ) (c : Cause) → HasCauseBy u I B n c → HasCauseBy u J C n c
  cause_same n c (of_number i) = of_number i
  cause_same n c (of_constant_type nay i) = of_constant_type nay (to n i)
  cause_same n c (of_import nay f i) = of_import nay (λ j. f (from n j)) i
  cause_same n c (of_another {m = m} nay f g i k) = of_another nay (λ j. f (from n j)) g (through_same n m i) k

pub one_cause : (s : Setting) (u : PackageSource) (n : ℕ) (c d : Cause) → HasCause s u n c → HasCause s u n d → c ≡ d
one_cause s u n c d h k = one_cause_by u (IsInexactConstant s u) (IsBeyond s u) n c d h k

-- ---- the list of a package

module _ (s : Setting) (u : PackageSource) (S T : ℕ → Bool) (same : (n : ℕ) → S n ≡ T n) where
  one_from : {n : ℕ} {ds : List Declaration} {xs ys : List Skipped} → AreSkippedFrom s u S n ds xs → AreSkippedFrom s u T n ds ys → xs ≡ ys
  one_from skipped_none skipped_none = refl
  one_from (skipped_kept i a) (skipped_kept j b) = one_from a b
  one_from (skipped_kept {n = n} i a) (skipped_more j k b) = absurd (no_truth (sym i ∙ same n ∙ j))
  one_from (skipped_more {n = n} i h a) (skipped_kept j b) = absurd (no_truth (sym j ∙ sym (same n) ∙ i))
  one_from (skipped_more {n = n} {d = x} {c = c} i h a) (skipped_more {c = d} j k b) =
      let e = one_cause s u n c d h k in let t = one_from a b in λ i. skipped_as x (e i) ∷ t i

  pub one_list : (xs ys : List Skipped) → IsSkippedOf s u S xs → IsSkippedOf s u T ys → xs ≡ ys
  one_list xs ys a b = one_from a b

-- ---- the lists of packages

one_package : (s : Setting) (u : PackageSource) (xs ys : List Skipped) → IsSkipped s u xs → IsSkipped s u ys → xs ≡ ys
one_package s u xs ys a b = one_list s u a.within b.within (one_kept s u a.within b.within a.entries b.entries a.kept b.kept) xs ys a.skipped b.skipped

one_of : (s : Setting) (u : PackageSource) (x : Outcome) (xs ys : List Skipped) → IsSkippedAs s u x xs → IsSkippedAs s u x ys → xs ≡ ys
one_of s u (typed p) xs ys a b = one_package s u xs ys a b
one_of s u (refused r) xs ys a b = a ∙ sym b
one_of s u blocked xs ys a b = a ∙ sym b

module _ (bits : ℕ) where
  one_skip : {w v : Packages} {us : List PackageSource} {xs ys : List (List Skipped)} → w ≡ v → Skip bits w us xs → Skip bits v us ys → xs ≡ ys
  one_skip e skip_none skip_none = refl
  one_skip e (skip_more {w = w} {u = u} {xs = xs} x a k r) (skip_more {w = v} {xs = ys} y b l q) =
      let c = subst (λ z. Becomes (over bits z) u x) e a in
      let f = one_outcome (over bits v) u x y c b in
      let m = subst (λ z. IsSkippedAs (over bits z) u x xs) e k in
      let h = one_of (over bits v) u y xs ys (subst (λ z. IsSkippedAs (over bits v) u z xs) f m) l in
      let t = one_skip (λ i. with_outcome (e i) u (f i)) r q in
      λ i. h i ∷ t i

  pub one_skipped : (us : List PackageSource) (xs ys : List (List Skipped)) → AreSkipped bits us xs → AreSkipped bits us ys → xs ≡ ys
  one_skipped us xs ys a b = one_skip refl a b
