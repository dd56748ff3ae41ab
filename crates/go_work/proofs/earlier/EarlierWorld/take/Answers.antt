use Rattle.std.proofs.Common.{◌≡◌, ℕ, List, [], ◌∷◌, ◌++◌, true, refl, sym, ap, ◌∙◌, subst}
use Rattle.std.specs.Prelude.{is_some}
use Rattle.go_base.specs.Keys.{first_with}
use Rattle.go_model.specs.worlds.Worlds.{path_of}
use Rattle.go_sources.specs.UnitSources.{source_of}
use Rattle.go_taken_units.specs.go_taken_packages.TakenPaths.{AreTaken}
use Rattle.go_taken_units.specs.go_taken_packages.ToldPackages.{is_among}
use Rattle.go_work.specs.Answers.{sources}
use Rattle.go_work.specs.declared.earlier.EarlierWorld.{EarlierWorld}
use Rattle.go_work.proofs.EarlierUnits.{number_within, package_there, still_beside, taken_from, takes_here}
use Rattle.go_work.proofs.earlier.EarlierWorld.take.Goals as goal

pub shared-requires-clause-there : goal.shared-requires-clause-there
shared-requires-clause-there c =
    let e = c.args.self.now in
    let t = c.in_ok-next.ensures.takes c.in-Some.number (let a = c.in_ok-next.is in let b = c.in-Some.is in cc) in
    subst (λ (path : List ℕ). is_some (first_with path_of e.typed.now.world.packages path) ≡ true) (sym c.bytes.ensures) (package_there e c.requires c.args.«unit».now c.in-Some.number t)

pub shared-requires-clause-within : goal.shared-requires-clause-within
shared-requires-clause-within c =
    let t = c.in_ok-next.ensures.takes c.in-Some.number (let a = c.in_ok-next.is in let b = c.in-Some.is in cc) in
    number_within c.args.self.now c.requires c.args.«unit».now c.in-Some.number t

pub returns-in_ok-shared-in-Some-clause-taken : goal.returns-in_ok-shared-in-Some-clause-taken
returns-in_ok-shared-in-Some-clause-taken c =
    let e = c.args.self.now in
    let t = c.in_ok-next.ensures.takes c.in-Some.number (let a = c.in_ok-next.is in let b = c.in-Some.is in cc) in
    let found = c.in_ok-shared-in-Some in
    taken_from e c.requires c.args.«unit».now c.in-Some.number t found.field-0
    (ap (first_with path_of e.typed.now.world.packages) (sym c.bytes.ensures) ∙ found.ensures.«package»)
    found.ensures.skipped

pub returns-in_ok-shared-in-Some-clause-on : goal.returns-in_ok-shared-in-Some-clause-on
returns-in_ok-shared-in-Some-clause-on c = λ bits us b. (
    let e = c.args.self.now in
    let new : EarlierWorld = record { typed = e.typed; taken = c.next.new.self } in
    let u = c.args.«unit».now in
    let t = c.in_ok-next.ensures.takes c.in-Some.number (let a = c.in_ok-next.is in let b = c.in-Some.is in cc) in
    let vs = us ++ source_of u ∷ [] in
    still_beside bits us vs e new refl c.in_ok-next.ensures.earlier b
    (subst (λ (ps : List (List ℕ)). AreTaken (sources e.typed.now.units) vs (is_among ps)) (sym (c.in_ok-next.ensures.taken c.in-Some.number (let a = c.in_ok-next.is in let b = c.in-Some.is in cc)))
    (c.taken_so_far.ensures.taken e.typed.now.units us e.taken.taken.keys u c.in-Some.number b.earlier.typed.own b.taken (takes_here e c.requires u c.in-Some.number t)))
    )
