use Rattle.go_rules.specs.Scopes.{env_of}
use Rattle.go_rules.specs.Operands.{IsOf}
use Rattle.go_operators.specs.Prefixes.{Changes}
use Rattle.go_operators.proofs.Answers.{same_answer, found_some}
use Rattle.go_operators.proofs.Changing.{change_value_no_kind, changed_value}
use Rattle.go_operators.proofs.prefixes.change_value.Goals as goal

pub returns-in-None-kind_of : goal.returns-in-None-kind_of
returns-in-None-kind_of c = change_value_no_kind (env_of c.args.context.now.env.now) c.args.op c.args.operand.now _ c.requires (found_some (IsOf c.args.operand.now) _ _ c.in-Some.is c.in_ok-term.ensures) c.in-None-kind_of.ensures

pub returns : goal.returns
returns c = same_answer (Changes (env_of c.args.context.now.env.now) c.args.op c.args.operand.now) _ _ c.in_ok-answer.ensures (changed_value (env_of c.args.context.now.env.now) c.args.op c.args.operand.now _ c.in-Some-kind_of.kind c.class.result c.applies_to.result c.requires (found_some (IsOf c.args.operand.now) _ _ c.in-Some.is c.in_ok-term.ensures) c.in-Some-kind_of.ensures c.class.ensures c.applies_to.ensures)
