use Rattle.go_rules.specs.Scopes.{env_of}
use Rattle.go_operators.specs.Prefixes.{Receives}
use Rattle.go_operators.proofs.Answers.{same_answer}
use Rattle.go_operators.proofs.Changing.{received, receive_no_channel}
use Rattle.go_operators.proofs.prefixes.receive.Goals as goal

pub returns-in_ok-answer-in-Some-channel_under : goal.returns-in_ok-answer-in-Some-channel_under
returns-in_ok-answer-in-Some-channel_under c = same_answer (Receives (env_of c.args.context.now.env.now) c.args.operand.now) _ _ c.in_ok-answer-in-Some-channel_under.ensures (received (env_of c.args.context.now.env.now) c.args.operand.now _ _ _ c.receives.result c.in-Some.ensures c.in-Some-channel_under.ensures c.receives.ensures)

pub returns-in-None-channel_under : goal.returns-in-None-channel_under
returns-in-None-channel_under c = receive_no_channel (env_of c.args.context.now.env.now) c.args.operand.now _ c.in-Some.ensures c.in-None-channel_under.ensures
