use Rattle.go_rules.specs.Scopes.{env_of}
use Rattle.go_rules.specs.Operands.{plain}
use Rattle.go_rules.specs.Expressions.{Converts}
use Rattle.go_operators.proofs.Answers.{same_answer}
use Rattle.go_operators.proofs.Converting.{convert_nil, convert_loose, convert_value, convert_no_type}
use Rattle.go_operators.proofs.conversions.convert_value.Goals as goal

pub returns-then-is_nil : goal.returns-then-is_nil
returns-then-is_nil c = same_answer (Converts (env_of c.args.context.now.env.now) c.args.operand.now c.args.to.now) _ _ c.in_ok-nil.ensures (convert_nil (env_of c.args.context.now.env.now) c.args.operand.now c.args.to.now c.in_ok-may.may c.if-is_nil.ensures c.in_ok-may.ensures)

pub returns-in-Some : goal.returns-in-Some
returns-in-Some c = convert_loose (env_of c.args.context.now.env.now) c.args.operand.now _ c.args.to.now c.in_ok-loose.loose c.in-Some.ensures c.in_ok-loose.ensures

pub returns-in_ok-answer-in-Some-type_of : goal.returns-in_ok-answer-in-Some-type_of
returns-in_ok-answer-in-Some-type_of c = convert_value (env_of c.args.context.now.env.now) c.args.operand.now _ c.args.to.now c.in_ok-answer-in-Some-type_of.answer c.requires c.in-Some-type_of.ensures c.if-is_nil.ensures c.in_default.ensures c.in_ok-answer-in-Some-type_of.ensures

pub returns-in-None : goal.returns-in-None
returns-in-None c = convert_no_type (env_of c.args.context.now.env.now) c.args.operand.now c.args.to.now c.requires c.in-None.ensures c.if-is_nil.ensures c.in_default.ensures
