-- The list of what is left out, declaration by declaration.
use Rattle.std.proofs.Common.{◌≡◌, ◌<◌, ◌≤◌, ◌+◌, ℕ, zero, suc, Bool, true, false, List, [], ◌∷◌, ◌++◌, Some, add-one, arith, drop, length, refl, sym, ap, ◌∙◌, subst}
use Rattle.std.proofs.lemmas.Bool.Decides.{nat_tests}
use Rattle.std.specs.Prelude.{not, ◌&&◌, nat_lt, slice_get}
use Rattle.go_base.proofs.Lists.{drop_past}
use Rattle.go_exposed.specs.Causes.{HasCause}
use Rattle.go_exposed.specs.KeptDeclarations.{not_lost}
use Rattle.go_exposed.specs.SkippedDeclarations as spec
use Rattle.go_exposed.specs.SkippedDeclarations.{AreSkippedFrom, IsSkippedOf, skipped_as, skipped_kept, skipped_more, skipped_none}
use Rattle.go_exposed.specs.SkippedValues.{all_skipped, cause_of, skipped_of}
use Rattle.go_exposed.specs.declared.skipped.Skipped.{Skipped}
use Rattle.go_graphs.specs.Flags.{is_flagged}
use Rattle.go_left_out.specs.inner.Shown.{IsShown}
use Rattle.go_typings.proofs.Cells.{some_once}
use Rattle.go_typings.specs.Declarations.{Declaration, declarations}
use Rattle.go_typings.specs.Sources.{PackageSource, Setting}

more_of : (xs : List Skipped) (x : Skipped) (rest : List spec.Skipped) → all_skipped (xs ++ x ∷ []) ++ rest ≡ all_skipped xs ++ skipped_of x ∷ rest
more_of [] x rest = refl
more_of (y ∷ ys) x rest = ap (λ zs. skipped_of y ∷ zs) (more_of ys x rest)

nothing_more : (xs : List spec.Skipped) → xs ++ [] ≡ xs
nothing_more [] = refl
nothing_more (x ∷ xs) = ap (λ zs. x ∷ zs) (nothing_more xs)

at_drop : (ds : List Declaration) (n : ℕ) → n < length ds → (d : Declaration) × (slice_get ds n ≡ Some d) × (drop n ds ≡ d ∷ drop (suc n) ds)
at_drop [] n h = absurd (omega (arith, h))
at_drop (d ∷ ds) zero h = (d, refl, refl)
at_drop (d ∷ ds) (suc n) h = at_drop ds n (omega (arith, h))

is_less : (m n : ℕ) → m < n → nat_lt m n ≡ true
is_less m n h = grind (arith, nat_tests, h)

module _ (s : Setting) (u : PackageSource) (lost : List Bool) where
  abbrev Within : ℕ → Bool
  Within = not_lost u (is_flagged lost)

  -- what is left out of the declarations that are left makes the list that of all
  abbrev pub SoFar : ℕ → List Skipped → Type 0
  SoFar i xs = (rest : List spec.Skipped) → AreSkippedFrom s u Within i (drop i (declarations u)) rest → AreSkippedFrom s u Within 0 (declarations u) (all_skipped xs ++ rest)

  pub so_far_none : SoFar 0 []
  so_far_none rest k = k

  within_is : (i : ℕ) (b : Bool) → i < length (declarations u) → is_flagged lost i ≡ b → Within i ≡ not b
  within_is i b l e = ap (λ c. c && not (is_flagged lost i)) (is_less i (length (declarations u)) l) ∙ ap not e

  module _ (i : ℕ) (xs : List Skipped) (l : i < length (declarations u)) (w : SoFar i xs) where
    here : (rest : List spec.Skipped) → ((d : Declaration) → slice_get (declarations u) i ≡ Some d → AreSkippedFrom s u Within i (d ∷ drop (suc i) (declarations u)) rest) → AreSkippedFrom s u Within 0 (declarations u) (all_skipped xs ++ rest)
    here rest f = let k = at_drop (declarations u) i l in w rest (subst (λ (ds : List Declaration). AreSkippedFrom s u Within i ds rest) (sym k.2) (f k.0 k.1))

    onward : (rest : List spec.Skipped) → AreSkippedFrom s u Within (i + 1) (drop (i + 1) (declarations u)) rest → AreSkippedFrom s u Within (suc i) (drop (suc i) (declarations u)) rest
    onward rest k = subst (λ (n : ℕ). AreSkippedFrom s u Within n (drop n (declarations u)) rest) (add-one i) k

    pub so_far_kept : is_flagged lost i ≡ false → SoFar (i + 1) xs
    so_far_kept e rest k = here rest (λ d h. skipped_kept (within_is i false l e) (onward rest k))

    pub so_far_more : (x : Skipped) → is_flagged lost i ≡ true → IsShown (declarations u) i x → HasCause s u i (cause_of x.cause) → SoFar (i + 1) (xs ++ x ∷ [])
    so_far_more x e shown cause rest k =
        subst (AreSkippedFrom s u Within 0 (declarations u)) (sym (more_of xs x rest))
        (here (skipped_of x ∷ rest) (λ d h. subst (λ (y : spec.Skipped). AreSkippedFrom s u Within i (d ∷ drop (suc i) (declarations u)) (y ∷ rest)) (sym (same d h)) (skipped_more (within_is i true l e) cause (onward rest k))))
      where
        same : (d : Declaration) → slice_get (declarations u) i ≡ Some d → skipped_of x ≡ skipped_as d (cause_of x.cause)
        same d h =
            let q : shown.0 ≡ d = some_once shown.0 d (sym shown.1 ∙ h) in
            (λ j. record { place = shown.2.0 j; names = shown.2.1 j; cause = cause_of x.cause }) ∙ ap (λ (y : Declaration). skipped_as y (cause_of x.cause)) q

  pub so_far_all : (i : ℕ) (xs : List Skipped) → length (declarations u) ≤ i → SoFar i xs → IsSkippedOf s u Within (all_skipped xs)
  so_far_all i xs h w = subst (AreSkippedFrom s u Within 0 (declarations u)) (nothing_more (all_skipped xs)) (w [] (subst (λ (ds : List Declaration). AreSkippedFrom s u Within i ds []) (sym (drop_past i (declarations u) h)) skipped_none))
