use Rattle.std.proofs.Common.{map, ◌∙◌}
use Rattle.go_declarations.specs.Listings.{declaration_of}
use Rattle.go_import_uses.proofs.Declarations.{from_told}
use Rattle.go_sources.specs.UnitSources.{import_of}
use Rattle.go_import_uses.proofs.needed.selects_from.Goals as goal

pub returns : goal.returns
returns c u e = from_told u (declaration_of c.args.declaration.now) (map import_of c.args.imports.now) c.items.result.now (import_of c.args.«import».now) c.one_selects.result e (c.items.ensures ∙ c.in_ok-references.ensures) c.one_selects.ensures
