use Rattle.go_rules.specs.Scopes.{env_of}
use Rattle.go_operators.proofs.Comparing.{nil_decides, type_no_kind}
use Rattle.go_operators.proofs.comparisons.equates_type.Goals as goal

pub returns-then-is_nil : goal.returns-then-is_nil
returns-then-is_nil c = nil_decides (env_of c.args.context.now.env.now) c.args.operand.now c.args.term.now c.in_ok-answer.answer c.if-is_nil.ensures c.in_ok-answer.ensures

pub returns-in-None : goal.returns-in-None
returns-in-None c = type_no_kind (env_of c.args.context.now.env.now) c.args.operand.now c.args.term.now c.if-is_nil.ensures c.in-None.ensures
