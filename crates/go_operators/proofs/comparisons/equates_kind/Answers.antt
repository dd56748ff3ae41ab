use Rattle.go_rules.specs.Scopes.{env_of}
use Rattle.go_rules.specs.Usability.{Compares}
use Rattle.go_operators.proofs.Answers.{decided_true, decided_false}
use Rattle.go_operators.proofs.Comparing.{type_no_compares, type_decides}
use Rattle.go_operators.proofs.comparisons.equates_kind.Goals as goal

pub returns-then-not-compared : goal.returns-then-not-compared
returns-then-not-compared c = type_no_compares (env_of c.args.context.now.env.now) c.args.operand.now c.args.kind c.args.term.now c.requires (decided_false (Compares (env_of c.args.context.now.env.now) c.args.term.now) _ c.if-not-compared.true c.in_ok-compared.ensures)

pub returns : goal.returns
returns c = type_decides (env_of c.args.context.now.env.now) c.args.operand.now c.args.kind c.args.term.now c.in_ok-answer.answer c.requires (decided_true (Compares (env_of c.args.context.now.env.now) c.args.term.now) _ c.if-not-compared.false c.in_ok-compared.ensures) c.in_ok-answer.ensures
