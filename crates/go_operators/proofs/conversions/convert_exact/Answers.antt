use Rattle.go_rules.specs.Scopes.{env_of}
use Rattle.go_operators.specs.inner.Conversions.{ConvertsExact}
use Rattle.go_operators.proofs.Answers.{same_answer}
use Rattle.go_operators.proofs.Converting.{exact_no_kind, exact_converts}
use Rattle.go_operators.proofs.conversions.convert_exact.Goals as goal

pub returns-in-None : goal.returns-in-None
returns-in-None c = exact_no_kind (env_of c.args.context.now.env.now) c.args.of.now c.args.value.now c.args.to.now c.args.basic c.in-None.ensures

pub returns : goal.returns
returns c = same_answer (ConvertsExact (env_of c.args.context.now.env.now) c.args.of.now c.args.value.now c.args.to.now c.args.basic) _ _ c.constant_with.ensures (exact_converts (env_of c.args.context.now.env.now) c.args.of.now c.args.value.now c.in_ok-copied.copied c.args.to.now c.args.basic c.in-Some.kind c.bits.result c.in_ok-converted.converted c.in-Some.ensures c.bits.ensures.bits c.in_ok-converted.ensures c.in_ok-copied.ensures)
