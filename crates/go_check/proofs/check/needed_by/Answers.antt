use Rattle.std.proofs.Common.{◌≡◌, Bool, List, None, length, subst, sym}
use Rattle.go_exposed.specs.ExposedDeclarations.{IsExposed}
use Rattle.go_graphs.specs.Flags.{AreFlagsOf}
use Rattle.go_sifting.specs.Graphs.{AreRows}
use Rattle.go_soundness.specs.LostDeclarations.{Depends}
use Rattle.go_sources.specs.UnitSources.{source_of}
use Rattle.go_typings.specs.Declarations.{declarations}
use Rattle.go_typings.specs.PackageEnvironments.{Entries}
use Rattle.go_typings.specs.PackageWorlds.{no_packages, over}
use Rattle.go_check.proofs.check.needed_by.Goals as goal

pub returns : goal.returns
returns c =
    let u = source_of c.args.«unit».now in
    let s = over 64 no_packages in
    let a : Entries = λ n. None in
    let rows = subst (AreRows s u a (Depends s u a)) (sym c.items-rows.ensures) (c.in_ok-depends.ensures s u a (sym c.requires.listed)) in
    let seen = subst (λ (xs : List Bool). AreFlagsOf (length (declarations u)) (IsExposed u) xs) (sym c.deref.ensures.value) (c.in_ok-seen.ensures s a rows) in
    record {
      some = c.first_needed.ensures.some seen;
      none = c.first_needed.ensures.none seen;
    }
