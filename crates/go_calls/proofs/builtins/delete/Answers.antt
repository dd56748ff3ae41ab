use Rattle.go_rules.specs.Scopes.{env_of}
use Rattle.go_calls.specs.Builtins.{Deletes}
use Rattle.go_elements.proofs.go_operators_proofs.Answers.{same_answer}
use Rattle.go_calls.proofs.Building.{delete_no_type, delete_no_map, delete_gives}
use Rattle.go_calls.proofs.builtins.delete.Goals as goal

pub returns-in-None : goal.returns-in-None
returns-in-None c = delete_no_type (env_of c.args.context.now.env.now) c.args.operand.now c.args.key.now c.in-None.ensures

pub returns-in-None-map_under : goal.returns-in-None-map_under
returns-in-None-map_under c = delete_no_map (env_of c.args.context.now.env.now) c.args.operand.now c.args.key.now _ c.in-Some.ensures c.in-None-map_under.ensures

pub returns-in_ok-may-in-Some-map_under : goal.returns-in_ok-may-in-Some-map_under
returns-in_ok-may-in-Some-map_under c = same_answer (Deletes (env_of c.args.context.now.env.now) c.args.operand.now c.args.key.now) _ _ c.nothing_where.ensures (delete_gives (env_of c.args.context.now.env.now) c.args.operand.now c.args.key.now _ _ _ c.in_ok-may-in-Some-map_under.may c.in-Some.ensures c.in-Some-map_under.ensures c.in_ok-may-in-Some-map_under.ensures)
