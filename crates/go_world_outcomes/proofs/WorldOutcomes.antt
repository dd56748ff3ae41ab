-- Units have a world, or one of them is refused first.
use Rattle.std.proofs.Common.{◌≡◌, ◌⊎◌, ℕ, List, [], ◌∷◌, ◌++◌, append_assoc, append-nil, length, refl, sym, ap, ◌∙◌, subst, inl, inr}
use Rattle.go_base.specs.Lists.{Has}
use Rattle.go_existence.specs.Existence.{NotNone}
use Rattle.go_existence.proofs.DoubleNegation.{sure, bind}
use Rattle.go_model.specs.worlds.Worlds.{IsWorld, Packages, with_package}
use Rattle.go_sources.specs.UnitSources.{source_of}
use Rattle.go_exposed.specs.OfferedWorlds.{IsFirstRefused, IsWorldOf, become_none}
use Rattle.go_typed_packages.proofs.JoinedWorlds.{offered_joins}
use Rattle.go_typings.specs.PackageWorlds.{is_public, no_packages, over}
use Rattle.go_typings.specs.Refusals.{Refusal}
use Rattle.go_typings.specs.Sources.{PackageSource}
use Rattle.go_units.specs.declared.unit.«Unit».{«Unit» as PackageUnit}
use Rattle.go_units.specs.declared.unit_list.Units.{Units}
use Rattle.go_units.specs.UnitOrders.{AreInOrder}
use Rattle.go_work.specs.Answers.{sources}
use Rattle.go_work.specs.Paths.{AreOfPackages}
use Rattle.go_work.proofs.TypedUnits.{first_refused, typed_more}
use Rattle.go_work.proofs.UnitPrefixes.{imports_typed, unit_absent}
use Rattle.go_world_outcomes.proofs.PackageOutcomes.{offered_or_refused}

joined : (us vs : List PackageUnit) → sources (us ++ vs) ≡ sources us ++ sources vs
joined [] vs = refl
joined (u ∷ us) vs = ap (λ xs. source_of u ∷ xs) (joined us vs)

empty_world : IsWorld no_packages
empty_world = record { ordered = tt; packaged = tt; owned = tt; public_order = tt; public_paths = tt }

module _ (bits : ℕ) (us : List PackageUnit) (ordered : ∥ AreInOrder us ∥₁) (paths : AreOfPackages us) where
  abbrev Ends : Type 0
  Ends = ((w : Packages) × IsWorldOf bits (sources us) w) ⊎ ((n : ℕ) × (r : Refusal) × IsFirstRefused bits (sources us) n r)

  middle : (front rest : List PackageUnit) (u : PackageUnit) → Has (front ++ u ∷ rest) u
  middle [] rest u = inl refl
  middle (x ∷ front) rest u = inr (middle front rest u)

  ends_from : (front rest : List PackageUnit) (w : Packages) → us ≡ front ++ rest → IsWorldOf bits (sources front) w → IsWorld w → NotNone Ends
  ends_from front [] w e is world = sure (inl (w, subst (λ (xs : List PackageUnit). IsWorldOf bits (sources xs) w) (sym (e ∙ append-nil front)) is))
  ends_from front (u ∷ rest) w e is world =
      let typed = imports_typed bits us ordered front rest u e w is u.needed in
      let absent = unit_absent bits us ordered front rest u e w is in
      let path = paths u (subst (λ (xs : List PackageUnit). Has xs u) (sym e) (middle front rest u)) in
      bind (offered_or_refused (over bits w) (source_of u) world path.pathed absent) (λ k. elim k [
        | inl p ↦ ends_from (front ++ u ∷ []) rest (with_package w p.0 (is_public (source_of u))) (e ∙ sym (append_assoc front (u ∷ []) rest))
            (subst (λ (xs : List PackageSource). IsWorldOf bits xs (with_package w p.0 (is_public (source_of u)))) (sym (joined front (u ∷ []))) (typed_more bits (sources front) w (source_of u) p.0 is (typed, p.1)))
            (offered_joins (over bits w) (source_of u) p.0 world p.1 absent path.pathed path.foreign (is_public (source_of u)))
        | inr r ↦ sure (inr (
          length (sources front),
          r.0,
          subst (λ (xs : List PackageUnit). IsFirstRefused bits (sources xs) (length (sources front)) r.0) (sym e)
              (subst (λ (xs : List PackageSource). IsFirstRefused bits xs (length (sources front)) r.0) (sym (joined front (u ∷ rest))) (first_refused bits (sources front) w (source_of u) (sources rest) r.0 is (typed, r.1))),
        ))
      ])

pub world_ends : (bits : ℕ) (units : Units) → AreOfPackages units.packages → NotNone (((w : Packages) × IsWorldOf bits (sources units.packages) w) ⊎ ((n : ℕ) × (r : Refusal) × IsFirstRefused bits (sources units.packages) n r))
world_ends bits units paths = ends_from bits units.packages units.ordered paths [] units.packages no_packages refl (record { outcomes = []; become = become_none; all_typed = tt }) empty_world
