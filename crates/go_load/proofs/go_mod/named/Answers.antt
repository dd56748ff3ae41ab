use Rattle.std.proofs.Common.{sym, ◌∙◌}
use mathlib.Core.Bool.{true≢false}
use Rattle.go_load.proofs.ModuleLines.{names_none}
use Rattle.go_load.proofs.go_mod.named.Goals as goal

pub returns-else-is_module_path-clause-none : goal.returns-else-is_module_path-clause-none
returns-else-is_module_path-clause-none c = names_none c.args.line.now c.in-Some.written.now c.unquoted-path.result.now c.in-Some.ensures.some.0 c.unquoted-path.ensures
    (λ h. true≢false (sym (c.is_module_path.ensures.1 h) ∙ c.if-is_module_path.false))
