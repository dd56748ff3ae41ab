use Rattle.go_rules.specs.Scopes.{env_of}
use Rattle.go_operators.specs.inner.Conversions.{ConvertsType}
use Rattle.go_operators.proofs.Answers.{same_answer}
use Rattle.go_operators.proofs.Converting.{type_converts}
use Rattle.go_operators.proofs.conversions.convert_type.Goals as goal

pub returns : goal.returns
returns c = same_answer (ConvertsType (env_of c.args.context.now.env.now) c.args.from.now c.args.to.now) _ _ c.in_ok-answer.ensures (type_converts (env_of c.args.context.now.env.now) c.args.from.now c.args.to.now c.in_ok-may.may c.in_ok-may.ensures)
