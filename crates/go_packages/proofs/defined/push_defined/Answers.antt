use Rattle.std.proofs.Common.{Option, subst, sym}
use Rattle.std.proofs.lemmas.Result.{on_ok_weaker}
use Rattle.go_declarations.specs.Listings.{declarations_of}
use Rattle.go_entries.specs.HadEntries.{entries_at}
use Rattle.go_model.specs.declared.types.package.Defined.{Defined}
use Rattle.go_packages.proofs.OwnDefined.{own_there}
use Rattle.go_packages.specs.inner.DefinedTypes.{Adds}
use Rattle.go_sources.specs.UnitSources.{source_of}
use Rattle.go_packages.proofs.defined.push_defined.Goals as goal

pub returns-in_ok-defined-in-Some : goal.returns-in_ok-defined-in-Some
returns-in_ok-defined-in-Some c =
    let own = own_there (source_of c.args.unit.now) (entries_at c.args.had.now) c.args.listed.name.now (declarations_of c.args.declarations.now) c.in-Some.term.now c.requires.listed c.in-Some.ensures in
    on_ok_weaker c.push.result (λ pushed. subst (λ (o : Option Defined). Adds o c.args.types.now c.push.new.self) (sym own) (c.in_ok-defined-in-Some.defined, c.in_ok-defined-in-Some.ensures, pushed)) c.push.ensures.ok
