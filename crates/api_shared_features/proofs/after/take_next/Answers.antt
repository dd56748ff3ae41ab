use Rattle.std.proofs.Common.{ℕ, List, [], ◌∷◌, ◌++◌, sym, subst}
use Rattle.api_shared_features.specs.UnitWorlds.{sources}
use Rattle.go_sources.specs.UnitSources.{source_of}
use Rattle.go_taken_units.specs.go_taken_packages.TakenPaths.{AreTaken}
use Rattle.go_taken_units.specs.go_taken_packages.ToldPackages.{is_among}
use Rattle.go_units.specs.declared.unit.«Unit».{«Unit» as PackageUnit}
use Rattle.api_shared_features.proofs.after.take_next.Goals as goal

pub returns-in-Some-clause-on : goal.returns-in-Some-clause-on
returns-in-Some-clause-on c = λ us own t. (
    let old = c.args.taken.now in
    let u = c.args.«unit».now in
    let m = c.in-Some.field-0 in
    let over = c.in_ok-next.ensures.takes m (let a = c.in_ok-next.is in let b = c.in-Some.is in cc) in
    let keys = c.in_ok-next.ensures.taken m (let a = c.in_ok-next.is in let b = c.in-Some.is in cc) in
    subst (λ (earlier : List PackageUnit). AreTaken (sources earlier) (us ++ source_of u ∷ []) (is_among c.next.new.self.taken.keys)) (sym c.in_ok-next.ensures.earlier)
    (subst (λ (paths : List (List ℕ)). AreTaken (sources old.earlier.now) (us ++ source_of u ∷ []) (is_among paths)) (sym keys)
    (c.taken_so_far.ensures.taken old.earlier.now us old.taken.keys u m own t over))
    )
