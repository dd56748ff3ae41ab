use Rattle.go_rules.specs.Scopes.{env_of}
use Rattle.go_elements.proofs.go_operators_proofs.Answers.{decided_true, decided_false}
use Rattle.go_calls.specs.inner.Arguments.{UsableEach}
use Rattle.go_calls.proofs.Calling.{variadic_few, variadic_no_fixed, variadic_decides}
use Rattle.go_calls.proofs.arguments.fit_variadic.Goals as goal

pub returns-then-few : goal.returns-then-few
returns-then-few c = variadic_few (env_of c.args.context.now.env.now) c.args.dots c.args.operands.now c.args.params.now c.args.first.now c.args.last.now c.requires c.if-few.true

pub returns-then-not-each : goal.returns-then-not-each
returns-then-not-each c = variadic_no_fixed (env_of c.args.context.now.env.now) c.args.dots c.args.operands.now c.split_at.result.0.now c.split_at.result.1.now c.args.params.now c.args.first.now c.args.last.now c.requires c.split_at.ensures.by_index.0 (c.split_at.ensures.front_len) (decided_false (UsableEach (env_of c.args.context.now.env.now) c.split_at.result.0.now c.args.first.now) _ c.if-not-each.true c.in_ok-each.ensures)

pub returns : goal.returns
returns c = variadic_decides (env_of c.args.context.now.env.now) c.args.dots c.args.operands.now c.split_at.result.0.now c.split_at.result.1.now c.args.params.now c.args.first.now c.args.last.now c.in_ok-answer.answer c.requires c.split_at.ensures.by_index.0 c.split_at.ensures.front_len (decided_true (UsableEach (env_of c.args.context.now.env.now) c.split_at.result.0.now c.args.first.now) _ c.if-not-each.false c.in_ok-each.ensures) c.in_ok-answer.ensures
