use Rattle.go_type_terms.specs.Answers.{env_in}
use Rattle.go_asks.proofs.EmbeddedTypes.{with_type, without_type}
use Rattle.go_rules.specs.Asks.{MayEmbed}
use Rattle.go_asks.proofs.embedding.is_interface_type.Goals as goal

pub returns-in-Some : goal.returns-in-Some
returns-in-Some c = with_type (MayEmbed (env_in c.args.context.now)) c.args.operand.now c.in-Some.term.now c.in-Some.ensures c.may_embed.result c.may_embed.ensures

pub returns-in-None : goal.returns-in-None
returns-in-None c = without_type (MayEmbed (env_in c.args.context.now)) c.args.operand.now c.in-None.ensures
