use Rattle.std.proofs.Common.{None, Some, sym, ◌∙◌}
use Rattle.go_import_uses.proofs.NamedImports.{found_means}
use Rattle.go_import_uses.proofs.named_imports.import_named.Goals as goal

pub returns-in-Some : goal.returns-in-Some
returns-in-Some c =
    found_means c.imports.inside.imports.now c.args.imports.now c.imports.inside.by_name.entries c.args.name.now (Some c.in-Some.import.now) c.imports.invariant c.imports.view_is c.in-Some.ensures.value (sym c.is_init.ensures ∙ c.if-is_init.false)

pub returns-in-None : goal.returns-in-None
returns-in-None c =
    found_means c.imports.inside.imports.now c.args.imports.now c.imports.inside.by_name.entries c.args.name.now None c.imports.invariant c.imports.view_is c.in-None.ensures.value (sym c.is_init.ensures ∙ c.if-is_init.false)
