use Rattle.std.proofs.Common.{◌≡◌, Option, Some, subst}
use Rattle.go_check.specs.declared.checked.CheckedPackage.{CheckedPackage}
use Rattle.go_sources.specs.UnitSources.{source_of}
use Rattle.go_typings.specs.PackageWorlds.{over}
use Rattle.go_work.specs.Answers.{sources}
use Rattle.go_work.specs.inner.EarlierUnits.{IsFound}
use Rattle.go_work.proofs.TypedSoFar.{world_so_far}
use Rattle.go_work.proofs.typed.found.Goals as goal

pub returns-in-Ok-Some-clause-answers : goal.returns-in-Ok-Some-clause-answers
returns-in-Ok-Some-clause-answers g c =
    let t = c.args.typed.now in
    let is : c.in-Ok-Some.field-0 ≡ Some c.in-Ok-Some.found = (let a = c.in-Ok-Some.is in let b = c.in-Ok-Some.field-0-is in let d = c.in-Ok-Some.found-is in cc) in
    let taken = c.in-Ok-Some.ensures.taken t.bits (sources t.units) t.world c.requires.typed.own (world_so_far t c.requires.typed) c.requires.beside in
    let found : IsFound (over t.bits t.world) (source_of c.args.«unit».now) (Some c.in-Ok-Some.found) = subst (λ (o : Option CheckedPackage). IsFound (over t.bits t.world) (source_of c.args.«unit».now) o) is taken in
    found.0

pub returns-in-Ok-Some-clause-skipped : goal.returns-in-Ok-Some-clause-skipped
returns-in-Ok-Some-clause-skipped g c =
    let t = c.args.typed.now in
    let is : c.in-Ok-Some.field-0 ≡ Some c.in-Ok-Some.found = (let a = c.in-Ok-Some.is in let b = c.in-Ok-Some.field-0-is in let d = c.in-Ok-Some.found-is in cc) in
    let taken = c.in-Ok-Some.ensures.taken t.bits (sources t.units) t.world c.requires.typed.own (world_so_far t c.requires.typed) c.requires.beside in
    let found : IsFound (over t.bits t.world) (source_of c.args.«unit».now) (Some c.in-Ok-Some.found) = subst (λ (o : Option CheckedPackage). IsFound (over t.bits t.world) (source_of c.args.«unit».now) o) is taken in
    found.1

pub returns-in-Ok-Some-clause-beside : goal.returns-in-Ok-Some-clause-beside
returns-in-Ok-Some-clause-beside g c = let t = c.args.typed.now in c.in-Ok-Some.ensures.on t.bits (sources t.units) c.requires.beside
