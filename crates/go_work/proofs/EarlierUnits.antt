-- Packages that were typed before, from which others are taken over.
use Rattle.std.proofs.Common.{◌≡◌, ◌<◌, ℕ, zero, suc, true, List, [], Some, length, map, slice_get, refl, sym, ap, ◌∙◌, subst, arith}
use Rattle.std.proofs.lemmas.List.{length-map}
use Rattle.std.proofs.lemmas.Option.{slice_get-map}
use Rattle.std.specs.Prelude.{is_some, option_map}
use Rattle.go_base.specs.Keys.{first_with}
use Rattle.go_base.specs.Lists.{Has}
use Rattle.go_check.specs.declared.checked.CheckedPackage.{CheckedPackage}
use Rattle.go_exposed.specs.OfferedWorlds.{IsWorldOf}
use Rattle.go_exposed.specs.SkippedDeclarations as spec
use Rattle.go_exposed.specs.SkippedValues.{all_skipped}
use Rattle.go_exposed.specs.SkippedWorlds.{AreSkipped, Skip, skip_more, skip_none}
use Rattle.go_exposed.specs.declared.skipped.Skipped.{Skipped}
use Rattle.go_model.specs.worlds.Worlds.{Packages, path_of}
use Rattle.go_sources.specs.UnitSources.{source_of}
use Rattle.go_taken_units.proofs.go_taken_packages_proofs.OverAll.{has_place}
use Rattle.go_taken_units.proofs.go_taken_packages_proofs.TakenOver.{left_out, offered, typed_in}
use Rattle.go_taken_units.specs.go_taken_packages.TakenPaths.{AreTaken}
use Rattle.go_taken_units.specs.go_taken_packages.ToldPackages.{is_among}
use Rattle.go_taken_units.specs.TakenUnits.{TakesOver}
use Rattle.go_typings.proofs.Cells.{none_some}
use Rattle.go_typings.specs.Sources.{PackageSource}
use Rattle.go_units.specs.declared.unit.«Unit».{«Unit» as PackageUnit}
use Rattle.go_work.specs.Answers.{sources}
use Rattle.go_work.specs.TypedUnits.{AreTypedUnits}
use Rattle.go_work.specs.declared.earlier.EarlierWorld.{EarlierWorld}
use Rattle.go_work.specs.declared.typed.TypedUnits.{TypedUnits}
use Rattle.go_work.specs.inner.EarlierUnits.{IsEarlier, IsTakenFrom, StandsBeside}

-- there is as much that is left out as there are packages
skipped_there : {bits : ℕ} {w : Packages} {us : List PackageSource} {xss : List (List spec.Skipped)} → Skip bits w us xss → (n : ℕ) (u : PackageSource) → slice_get us n ≡ Some u → n < length xss
skipped_there skip_none n u e = none_some (slice_get {X = PackageSource} [] n) u refl e
skipped_there (skip_more x a s r) zero u e = omega arith
skipped_there (skip_more x a s r) (suc n) u e = omega (arith, skipped_there r n u e)

skipped_at : (xss : List (List Skipped)) (n : ℕ) (xs : List Skipped) → slice_get xss n ≡ Some xs → slice_get (map all_skipped xss) n ≡ Some (all_skipped xs)
skipped_at xss n xs e = slice_get-map all_skipped xss n ∙ ap (option_map all_skipped) e

-- ---- a package that is taken over

module _ (e : EarlierWorld) (i : IsEarlier e) (u : PackageUnit) (n : ℕ) (t : TakesOver e.taken.earlier.now e.taken.taken.keys u n) where
  written_there : slice_get (sources e.typed.now.units) n ≡ Some (source_of u)
  written_there = slice_get-map source_of e.typed.now.units n ∙ ap (option_map source_of) (subst (λ (us : List PackageUnit). slice_get us n ≡ Some t.other) i.units t.stands) ∙ ap Some t.same

  there : Has (sources e.typed.now.units) (source_of u)
  there = has_place (sources e.typed.now.units) n (source_of u) written_there

  pub package_there : is_some (first_with path_of e.typed.now.world.packages u.path) ≡ true
  package_there = ap is_some (typed_in e.typed.now.bits (sources e.typed.now.units) e.typed.now.world i.typed.own i.typed.world (source_of u) there).1.1

  pub number_within : n < length e.typed.now.skipped
  number_within = subst (λ (m : ℕ). n < m) (length-map e.typed.now.skipped all_skipped) (skipped_there i.typed.skipped n (source_of u) written_there)

  pub taken_from : (c : CheckedPackage) → first_with path_of e.typed.now.world.packages u.path ≡ Some c.«package» → slice_get e.typed.now.skipped n ≡ Some c.skipped → IsTakenFrom e (source_of u) (Some c)
  taken_from c p s = λ bits us w own world beside. (
      let us' = sources e.typed.now.units in
      let k : IsWorldOf bits us' e.typed.now.world = subst (λ (b : ℕ). IsWorldOf b us' e.typed.now.world) beside.width i.typed.world in
      let skips : AreSkipped bits us' (map all_skipped e.typed.now.skipped) = subst (λ (b : ℕ). AreSkipped b us' (map all_skipped e.typed.now.skipped)) beside.width i.typed.skipped in (
        (offered bits us' us e.typed.now.world w (is_among e.taken.taken.keys) i.typed.own own beside.taken k world (source_of u) c.«package» there t.imports p).1,
        left_out bits us' us e.typed.now.world w (is_among e.taken.taken.keys) i.typed.own own beside.taken k world (map all_skipped e.typed.now.skipped) skips n (source_of u) (all_skipped c.skipped) written_there (skipped_at e.typed.now.skipped n c.skipped s) t.imports,
      )
      )

  pub takes_here : TakesOver e.typed.now.units e.taken.taken.keys u n
  takes_here = subst (λ (us : List PackageUnit). TakesOver us e.taken.taken.keys u n) i.units t

-- ---- what stands beside more packages

pub still_beside : (bits : ℕ) (us vs : List PackageSource) (old new : EarlierWorld) → new.typed.now ≡ old.typed.now → new.taken.earlier.now ≡ old.taken.earlier.now → StandsBeside bits us old → AreTaken (sources old.typed.now.units) vs (is_among new.taken.taken.keys) → StandsBeside bits vs new
still_beside bits us vs old new same units b taken = record {
  earlier = record {
    typed = subst AreTypedUnits (sym same) b.earlier.typed;
    units = units ∙ b.earlier.units ∙ ap (λ (t : TypedUnits). t.units) (sym same);
  };
  width = ap (λ (t : TypedUnits). t.bits) same ∙ b.width;
  taken = subst (λ (t : TypedUnits). AreTaken (sources t.units) vs (is_among new.taken.taken.keys)) (sym same) taken;
}
