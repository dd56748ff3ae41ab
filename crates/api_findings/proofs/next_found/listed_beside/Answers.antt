use Rattle.std.proofs.Common.{sym, subst, ap}
use Rattle.api_findings.proofs.ListedSides.{listed_of}
use Rattle.api_worlds.specs.go_work.TypedUnits.{AreTypedUnits}
use Rattle.api_worlds.specs.go_work.declared.typed.TypedUnits.{TypedUnits}
use Rattle.api_findings.proofs.next_found.listed_beside.Goals as goal

pub returns-in-Ok-features_beside-clause-answer : goal.returns-in-Ok-features_beside-clause-answer
returns-in-Ok-features_beside-clause-answer g c = (
  listed_of c.args.trees.now.barred.now c.args.trees.now.tree.now c.args.trees.now.std_tree.now c.args.trees.now.platform c.in-Ok.found.typed.world c.in-Ok-features_beside.lines c.in-Ok.found.left_out c.in-Ok.ensures.answer c.in-Ok.ensures.left_out c.in-Ok-features_beside.ensures
      c.with_lines.result.typed.world c.with_lines.result.listed (ap (λ (t : TypedUnits). t.world) c.with_lines.ensures.typed) c.with_lines.ensures.lines c.with_lines.ensures.left_out,
  subst AreTypedUnits (sym c.with_lines.ensures.typed) c.in-Ok.ensures.typed,
)
