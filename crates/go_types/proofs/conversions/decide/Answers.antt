use Rattle.std.proofs.Common.{sym, ◌∙◌}
use Rattle.go_types.proofs.Alternatives.{refused, converted}
use Rattle.go_types.proofs.conversions.decide.Goals as goal

pub returns : goal.returns
returns g c = converted (g.T.TypeTable.lookup c.args.types.now.table.now) c.args.profile c.args.from.now c.args.to.now c.in_ok-answer.answer (sym c.basics_convert.ensures ∙ c.if-basics_convert.false) (refused c.in_ok-by_underlying.field-0 c.if-branch.false c.in_ok-by_underlying.ensures) (refused c.in_ok-by_pointer.field-0 c.if-branch-2.false c.in_ok-by_pointer.ensures) c.in_ok-answer.ensures
