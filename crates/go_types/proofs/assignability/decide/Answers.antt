use Rattle.go_types.proofs.Alternatives.{denied, refused, assigned}
use Rattle.go_types.proofs.assignability.decide.Goals as goal

pub returns : goal.returns
returns g c = assigned (g.T.TypeTable.lookup c.args.types.now.table.now) c.args.profile c.args.from.now c.args.to.now c.in_ok-answer.answer (denied c.identical.result c.if-identical.false c.identical.ensures) (refused c.by_underlying.result c.if-by_underlying.false c.by_underlying.ensures) (refused c.by_channel.result c.if-by_channel.false c.by_channel.ensures) c.in_ok-answer.ensures
