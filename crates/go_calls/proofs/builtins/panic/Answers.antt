use Rattle.go_rules.specs.Scopes.{env_of}
use Rattle.go_calls.specs.Builtins.{Panics}
use Rattle.go_elements.proofs.go_operators_proofs.Answers.{same_answer}
use Rattle.go_calls.proofs.Building.{panic_gives}
use Rattle.go_calls.proofs.builtins.panic.Goals as goal

pub returns : goal.returns
returns c = same_answer (Panics (env_of c.args.context.now.env.now) c.args.operand.now) _ _ c.nothing_where.ensures (panic_gives (env_of c.args.context.now.env.now) c.args.operand.now _ c.in_ok-may.may c.in_ok-any.ensures c.in_ok-may.ensures)
