use Rattle.std.proofs.Common.{sym, ◌∙◌}
use Rattle.go_type_terms.specs.Answers.{env_in}
use Rattle.go_assignments.proofs.Changes.{no_channel, no_sending}
use Rattle.go_assignments.proofs.sent.sent_type.Goals as goal

pub returns-then-sends : goal.returns-then-sends
returns-then-sends c = (_, _, c.in-Some.ensures, c.in-Some-channel_under.ensures, sym c.sends.ensures ∙ c.if-sends.true)

pub returns-else-sends : goal.returns-else-sends
returns-else-sends c = no_sending (env_in c.args.context.now) c.args.channel.now _ _ _ c.sends.result c.in-Some.ensures c.in-Some-channel_under.ensures c.sends.ensures c.if-sends.false

pub returns-in-None-channel_under : goal.returns-in-None-channel_under
returns-in-None-channel_under c = no_channel (env_in c.args.context.now) c.args.channel.now _ c.in-Some.ensures c.in-None-channel_under.ensures
