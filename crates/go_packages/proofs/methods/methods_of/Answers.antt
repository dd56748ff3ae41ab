use Rattle.std.proofs.Common.{List, map, ap, ◌∙◌}
use Rattle.go_base.specs.Gathered.{gather}
use Rattle.go_declarations.specs.Listings.{declarations_of}
use Rattle.go_declared.specs.declared.methods.MethodRow.{MethodRow}
use Rattle.go_entries.specs.HadEntries.{entries_at}
use Rattle.go_packages.proofs.ToldMethods.{methods_told}
use Rattle.go_packages.specs.inner.HadMethods.{had_by, method_at}
use Rattle.go_sources.specs.UnitSources.{source_of}
use Rattle.go_packages.proofs.methods.methods_of.Goals as goal

pub returns : goal.returns
returns c =
    c.in_ok-listed.ensures
    ∙ ap (λ (rows : List MethodRow). gather (had_by (entries_at c.args.had.now)) (map (method_at c.args.unit.now.path (declarations_of c.args.declarations.now)) rows)) c.of_type.ensures
    ∙ methods_told (source_of c.args.unit.now) (entries_at c.args.had.now) (declarations_of c.args.declarations.now) c.args.methods.now c.args.name.now c.requires.listed c.requires.methods
