use Rattle.go_rules.specs.Scopes.{env_of}
use Rattle.go_calls.specs.Builtins.{Closes}
use Rattle.go_elements.proofs.go_operators_proofs.Answers.{same_answer}
use Rattle.go_calls.proofs.Building.{close_no_type, close_no_channel, close_gives}
use Rattle.go_calls.proofs.builtins.close.Goals as goal

pub returns-in-None : goal.returns-in-None
returns-in-None c = close_no_type (env_of c.args.context.now.env.now) c.args.operand.now c.in-None.ensures

pub returns-in-None-channel_under : goal.returns-in-None-channel_under
returns-in-None-channel_under c = close_no_channel (env_of c.args.context.now.env.now) c.args.operand.now _ c.in-Some.ensures c.in-None-channel_under.ensures

pub returns-in-Some-channel_under : goal.returns-in-Some-channel_under
returns-in-Some-channel_under c = same_answer (Closes (env_of c.args.context.now.env.now) c.args.operand.now) _ _ c.nothing_where.ensures (close_gives (env_of c.args.context.now.env.now) c.args.operand.now _ _ _ c.sends.result c.in-Some.ensures c.in-Some-channel_under.ensures c.sends.ensures)
