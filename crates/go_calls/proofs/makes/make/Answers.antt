use Rattle.std.proofs.Common.{refl}
use Rattle.go_rules.specs.Scopes.{env_of}
use Rattle.go_calls.specs.Builtins.{MakesOf}
use Rattle.go_elements.proofs.go_operators_proofs.Answers.{same_answer}
use Rattle.go_calls.proofs.Making.{make_no_type, make_not_taken, make_like}
use Rattle.go_calls.proofs.makes.make.Goals as goal

pub returns-in-None : goal.returns-in-None
returns-in-None c = make_no_type (env_of c.args.context.now.env.now) c.args.operand.now c.args.operands.now c.in-None.ensures

pub returns-then-not-takes_sizes : goal.returns-then-not-takes_sizes
returns-then-not-takes_sizes c = make_not_taken (env_of c.args.context.now.env.now) c.args.operand.now c.args.operands.now _ _ _ c.in-Some.ensures c.under.ensures refl c.if-not-takes_sizes.ensures

pub returns : goal.returns
returns c = same_answer (MakesOf (env_of c.args.context.now.env.now) c.args.operand.now c.args.operands.now) _ _ c.in_ok-answer.ensures (make_like (env_of c.args.context.now.env.now) c.args.operand.now c.args.operands.now _ _ _ c.fit_sizes.result c.in-Some.ensures c.under.ensures refl c.if-not-takes_sizes.ensures c.fit_sizes.ensures)
