use Rattle.go_rules.specs.Scopes.{env_of}
use Rattle.go_calls.specs.Builtins.{Prints}
use Rattle.go_elements.proofs.go_operators_proofs.Answers.{same_answer}
use Rattle.go_calls.proofs.Building.{print_gives}
use Rattle.go_calls.proofs.builtins.print.Goals as goal

pub returns : goal.returns
returns c = same_answer (Prints (env_of c.args.context.now.env.now) c.args.operands.now) _ _ c.nothing_where.ensures (print_gives (env_of c.args.context.now.env.now) c.args.operands.now c.are_printed.result c.are_printed.ensures)
