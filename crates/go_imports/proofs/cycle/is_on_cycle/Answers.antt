use Rattle.std.proofs.Common.{◌∙◌, sym}
use mathlib.Core.Bool.{true≢false}
use Rattle.go_imports.proofs.Members.{has_key, key_has}
use Rattle.go_imports.proofs.Cycles.{reached_leads, leads_reached}
use Rattle.go_imports.proofs.cycle.is_on_cycle.Goals as goal

pub returns : goal.returns
returns c = (
  λ e. reached_leads c.args.graph.now c.args.levels.now c.level_of-level.result c.args.node (c.in_ok-seen.ensures.sound c.args.node (key_has c.in_ok-seen.seen.keys c.args.node (sym c.contains.ensures ∙ e))),
  λ e on. true≢false
      (sym (has_key c.in_ok-seen.seen.keys c.args.node (c.in_ok-seen.ensures.complete c.args.node (leads_reached c.args.graph.now c.args.levels.now c.level_of-level.result c.args.node c.requires (sym c.level_of-level.ensures) (sym c.level_of-level.ensures) on)))
      ∙ sym c.contains.ensures ∙ e),
)
