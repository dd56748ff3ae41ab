use Rattle.go_rules.specs.Scopes.{env_of}
use Rattle.go_usability.proofs.Assigning.{denied, granted, refused, assigned, unentered}
use Rattle.go_usability.proofs.assignability.assignable.Goals as goal

pub returns-then-not-is_entered : goal.returns-then-not-is_entered
returns-then-not-is_entered c = unentered (env_of c.args.context.now.env.now) c.args.from.now c.args.to.now (denied c.identical.result c.if-identical.false c.identical.ensures) (refused c.in_ok-implements.field-0 c.if-branch.false c.in_ok-implements.ensures) (λ x. (refused c.is_entered.result c.if-not-is_entered.true c.is_entered.ensures) x.0)

pub returns-then-not-is_entered-2 : goal.returns-then-not-is_entered-2
returns-then-not-is_entered-2 c = unentered (env_of c.args.context.now.env.now) c.args.from.now c.args.to.now (denied c.identical.result c.if-identical.false c.identical.ensures) (refused c.in_ok-implements.field-0 c.if-branch.false c.in_ok-implements.ensures) (λ x. (refused c.is_entered-2.result c.if-not-is_entered-2.true c.is_entered-2.ensures) x.1)

pub returns : goal.returns
returns c = assigned (env_of c.args.context.now.env.now) c.args.from.now c.args.to.now c.in_ok-answer.answer (denied c.identical.result c.if-identical.false c.identical.ensures) (refused c.in_ok-implements.field-0 c.if-branch.false c.in_ok-implements.ensures) (granted c.is_entered.result c.if-not-is_entered.false c.is_entered.ensures) (granted c.is_entered-2.result c.if-not-is_entered-2.false c.is_entered-2.ensures) c.in_ok-answer.ensures
