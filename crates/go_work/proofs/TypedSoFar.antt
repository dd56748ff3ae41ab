-- Units that are typed in turn and kept, and what one more of them does.
use Rattle.std.proofs.Common.{◌≡◌, ◌≢◌, ◌⊎◌, ℕ, List, [], ◌∷◌, ◌++◌, None, map, sym, ap, ◌∙◌, subst, inl, inr}
use Rattle.std.proofs.lemmas.List.{map-append}
use Rattle.go_base.specs.Keys.{first_with}
use Rattle.go_base.specs.Lists.{Has, Once}
use Rattle.go_exposed.specs.OfferedWorlds.{IsWorldOf}
use Rattle.go_imports.proofs.Members.{has_back}
use Rattle.go_model.specs.worlds.Worlds.{path_of, with_package}
use Rattle.go_outside.proofs.Lists.{once_last}
use Rattle.go_sources.specs.UnitSources.{source_of}
use Rattle.go_taken_units.proofs.go_taken_packages_proofs.KeptPaths.{key_finds}
use Rattle.go_taken_units.specs.go_taken_packages.InOrder.{HavePathsOfTheirOwn, source_path}
use Rattle.go_typings.proofs.Cells.{none_some}
use Rattle.go_typings.specs.PackageWorlds.{AreTyped, is_public, no_packages}
use Rattle.go_typings.specs.Sources.{PackageSource}
use Rattle.go_units.specs.declared.unit.«Unit».{«Unit» as PackageUnit}
use Rattle.go_work.specs.Answers.{sources}
use Rattle.go_work.specs.Paths.{IsOfPackage}
use Rattle.go_work.specs.TypedUnits.{AreTypedUnits}
use Rattle.go_work.specs.declared.earlier.EarlierWorlds.{EarlierWorlds}
use Rattle.go_work.specs.declared.error.WorkError.{WorkError}
use Rattle.go_work.specs.declared.typed.TypedUnits.{TypedUnits}
use Rattle.go_work.specs.inner.EarlierUnits.{AreTypedSoFar, IsNextTyped, StandBeside, no_units}
use Rattle.go_work.specs.inner.NextUnits.{IsErrorOf, Offer, offer_none}
use Rattle.go_work.proofs.NextUnits.{joined}
use Rattle.go_work.proofs.TakenUnits.{offer_last, offered_world, skips_of}
use Rattle.go_work.proofs.TypedUnits.{world_paths}

own_more : (us : List PackageSource) (u : PackageSource) → HavePathsOfTheirOwn us → u.path ≢ [] → (Has (map source_path us) u.path → ⊥) → HavePathsOfTheirOwn (us ++ u ∷ [])
own_more us u own pathed fresh = record {
  once = subst Once (sym (map-append source_path us (u ∷ []))) (once_last (map source_path us) u.path own.once fresh);
  named = λ v h. elim (has_back us u v h) [ inl k ↦ own.named v k | inr e ↦ (λ empty. pathed (ap source_path e ∙ empty)) ];
}

pub none_typed : (bits : ℕ) → (bits ≡ 32) ⊎ (bits ≡ 64) → AreTypedSoFar (no_units bits)
none_typed bits width = record { width = width; own = record { once = tt; named = λ u h. absurd h }; offer = offer_none }

pub world_so_far : (t : TypedUnits) → AreTypedSoFar t → IsWorldOf t.bits (sources t.units) t.world
world_so_far t s = offered_world t.bits s.offer

pub all_so_far : (t : TypedUnits) → AreTypedSoFar t → AreTypedUnits t
all_so_far t s = record { width = s.width; own = s.own; world = world_so_far t s; skipped = skips_of t.bits s.offer }

module _ (old : TypedUnits) (s : AreTypedSoFar old) (u : PackageUnit) (path : IsOfPackage u.path) (absent : first_with path_of old.world.packages u.path ≡ None) where
  fresh : Has (map source_path (sources old.units)) u.path → ⊥
  fresh h =
      let p = key_finds path_of old.world.packages u.path (world_paths old.bits (sources old.units) old.world (world_so_far old s) u.path h) in
      none_some (first_with path_of old.world.packages u.path) p.0 absent p.1

  -- one more
  pub typed_next : (new : TypedUnits) → AreTyped old.world (source_of u) → IsNextTyped u old new → AreTypedSoFar new
  typed_next new imports n = subst AreTypedSoFar (sym n.«is») (record {
    width = s.width;
    own = subst HavePathsOfTheirOwn (sym (joined old.units (u ∷ []))) (own_more (sources old.units) (source_of u) s.own path.pathed fresh);
    offer =
        subst (λ (us : List PackageSource). Offer old.bits no_packages us (old.skipped ++ n.found.skipped ∷ []) (with_package old.world n.found.«package» (is_public (source_of u)))) (sym (joined old.units (u ∷ [])))
        (offer_last old.bits (source_of u) n.found.«package» n.found.skipped s.offer imports n.offered n.skipped);
  })

pub units_next : (old : TypedUnits) (u : PackageUnit) (new : TypedUnits) → IsNextTyped u old new → (us : List PackageUnit) → old.units ≡ us → new.units ≡ us ++ u ∷ []
units_next old u new n us e = ap (λ (t : TypedUnits). t.units) n.«is» ∙ ap (λ (vs : List PackageUnit). vs ++ u ∷ []) e

pub bits_next : (old : TypedUnits) (u : PackageUnit) (new : TypedUnits) → IsNextTyped u old new → (bits : ℕ) → old.bits ≡ bits → new.bits ≡ bits
bits_next old u new n bits e = ap (λ (t : TypedUnits). t.bits) n.«is» ∙ e

-- ---- the same, told of other names

module _ (t : TypedUnits) (bits : ℕ) (us : List PackageUnit) (wide : t.bits ≡ bits) (same : t.units ≡ us) where
  pub world_of_them : AreTypedSoFar t → IsWorldOf bits (sources us) t.world
  world_of_them s = subst (λ (q : ℕ × List PackageUnit). IsWorldOf q.0 (sources q.1) t.world) (λ i. (wide i, same i)) (world_so_far t s)

  pub beside_them : (e : EarlierWorlds) → StandBeside bits (sources us) e → StandBeside t.bits (sources t.units) e
  beside_them e b = subst (λ (q : ℕ × List PackageUnit). StandBeside q.0 (sources q.1) e) (λ i. (sym wide i, sym same i)) b

  pub beside_one_more : (e : EarlierWorlds) (u : PackageUnit) → StandBeside t.bits (sources t.units ++ source_of u ∷ []) e → StandBeside bits (sources (us ++ u ∷ [])) e
  beside_one_more e u b =
      subst (λ (vs : List PackageSource). StandBeside bits vs e) (sym (joined us (u ∷ [])))
      (subst (λ (q : ℕ × List PackageUnit). StandBeside q.0 (sources q.1 ++ source_of u ∷ []) e) (λ i. (wide i, same i)) b)

  pub error_of_them : (u : PackageUnit) (n : ℕ) (r : WorkError) → IsErrorOf t.bits u n t.world r → IsErrorOf bits u n t.world r
  error_of_them u n r a = subst (λ (b : ℕ). IsErrorOf b u n t.world r) wide a
