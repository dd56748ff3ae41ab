-- The units that are taken in turn: their world, and what is left out of them.
use Rattle.std.proofs.Common.{◌≡◌, ℕ, List, [], ◌∷◌, ◌++◌, map, refl, sym, ap, ◌∙◌, subst, append_assoc, append-nil}
use Rattle.go_base.specs.Lists.{Passes}
use Rattle.go_exposed.specs.OfferedPackages.{IsOfferedAs}
use Rattle.go_exposed.specs.OfferedWorlds.{Become, IsWorldOf, become_more, become_none}
use Rattle.go_exposed.specs.SkippedValues.{all_skipped}
use Rattle.go_exposed.specs.SkippedWorlds.{IsSkipped, Skip, skip_more, skip_none}
use Rattle.go_exposed.specs.declared.skipped.Skipped.{Skipped}
use Rattle.go_model.specs.declared.types.package.Package.{Package}
use Rattle.go_model.specs.worlds.Worlds.{Packages}
use Rattle.go_sources.specs.UnitSources.{source_of}
use Rattle.go_typings.specs.PackageWorlds.{AreTyped, Outcome, is_typed, no_packages, over, typed, with_outcome}
use Rattle.go_typings.specs.Sources.{PackageSource}
use Rattle.go_units.specs.declared.unit.«Unit».{«Unit» as PackageUnit}
use Rattle.go_work.specs.Answers.{sources}
use Rattle.go_work.specs.KeptUnits.{AreKept, kept_unit, kept_units}
use Rattle.go_work.specs.declared.checked.CheckedWorld.{CheckedWorld}
use Rattle.go_work.specs.declared.checked.SkippedUnit.{SkippedUnit}
use Rattle.go_work.specs.inner.NextUnits.{AreTaken, IsNext, Offer, offer_more, offer_none}
use Rattle.go_work.proofs.NextUnits.{joined}

-- a world over packages
record WorldFrom (bits : ℕ) (w : Packages) (us : List PackageSource) (v : Packages) : Type 0 where
  pub outcomes : List Outcome
  pub become : Become bits w us outcomes v
  pub all_typed : Passes is_typed outcomes

module _ (bits : ℕ) where
  -- ---- what follows of units that are offered in turn

  offered_outcomes : {w v : Packages} {us : List PackageSource} {xss : List (List Skipped)} → Offer bits w us xss v → WorldFrom bits w us v
  offered_outcomes offer_none = record { outcomes = []; become = become_none; all_typed = tt }
  offered_outcomes (offer_more p imports o s more) = let rest = offered_outcomes more in record {
    outcomes = typed p ∷ rest.outcomes;
    become = become_more (imports, o) rest.become;
    all_typed = (refl, rest.all_typed);
  }

  pub skips_of : {w v : Packages} {us : List PackageSource} {xss : List (List Skipped)} → Offer bits w us xss v → Skip bits w us (map all_skipped xss)
  skips_of offer_none = skip_none
  skips_of (offer_more p imports o s more) = skip_more (typed p) (imports, o) s (skips_of more)

  -- their world
  pub offered_world : {us : List PackageSource} {xss : List (List Skipped)} {w : Packages} → Offer bits no_packages us xss w → IsWorldOf bits us w
  offered_world o = let w = offered_outcomes o in record { outcomes = w.outcomes; become = w.become; all_typed = w.all_typed }

  -- ---- one more

  pub offer_last : {w v : Packages} {us : List PackageSource} {xss : List (List Skipped)} (u : PackageSource) (p : Package) (xs : List Skipped) → Offer bits w us xss v → AreTyped v u → IsOfferedAs (over bits v) u p → IsSkipped (over bits v) u (all_skipped xs)
      → Offer bits w (us ++ u ∷ []) (xss ++ xs ∷ []) (with_outcome v u (typed p))
  offer_last u p xs offer_none imports o s = offer_more p imports o s offer_none
  offer_last u p xs (offer_more q j r t more) imports o s = offer_more q j r t (offer_last u p xs more imports o s)

  kept_last : (us : List PackageUnit) (xss : List (List Skipped)) (u : PackageUnit) (xs : List Skipped) {w v : Packages} → Offer bits w (sources us) xss v → kept_units (us ++ u ∷ []) (xss ++ xs ∷ []) ≡ kept_units us xss ++ kept_unit u xs
  kept_last [] [] u xs offer_none = append-nil (kept_unit u xs)
  kept_last [] (ys ∷ xss) u xs o = elim o [ ]
  kept_last (v ∷ us) [] u xs o = elim o [ ]
  kept_last (v ∷ us) (ys ∷ xss) u xs (offer_more p j r t more) = ap (λ (k : List SkippedUnit). kept_unit v ys ++ k) (kept_last us xss u xs more) ∙ sym (append_assoc (kept_unit v ys) (kept_units us xss) (kept_unit u xs))

  pub taken_none : (checked : CheckedWorld) → checked.world ≡ no_packages → checked.skipped ≡ [] → AreTaken bits [] checked
  taken_none checked e f = record { left_out = []; offer = subst (Offer bits no_packages [] []) (sym e) offer_none; kept = f }

  pub taken_next : (front : List PackageUnit) (u : PackageUnit) (old new : CheckedWorld) → AreTaken bits front old → AreTyped old.world (source_of u) → IsNext bits u old new → AreTaken bits (front ++ u ∷ []) new
  taken_next front u old new t imports n = record {
    left_out = t.left_out ++ n.left_out ∷ [];
    offer =
        subst (λ (us : List PackageSource). Offer bits no_packages us (t.left_out ++ n.left_out ∷ []) new.world) (sym (joined front (u ∷ [])))
        (subst (Offer bits no_packages (sources front ++ source_of u ∷ []) (t.left_out ++ n.left_out ∷ [])) (sym n.world) (offer_last (source_of u) n.«package» n.left_out t.offer imports n.offered n.skipped));
    kept = n.kept ∙ ap (λ (k : List SkippedUnit). k ++ kept_unit u n.left_out) t.kept ∙ sym (kept_last front t.left_out u n.left_out t.offer);
  }

  -- ---- all

  pub taken_world : (us : List PackageUnit) (checked : CheckedWorld) → AreTaken bits us checked → IsWorldOf bits (sources us) checked.world
  taken_world us checked t = offered_world t.offer

  pub taken_kept : (us : List PackageUnit) (checked : CheckedWorld) → AreTaken bits us checked → AreKept bits us checked.skipped
  taken_kept us checked t = record { skipped = t.left_out; skips = skips_of t.offer; «is» = t.kept }
