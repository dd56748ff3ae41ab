use Rattle.go_type_terms.specs.Answers.{env_in}
use Rattle.go_asks.proofs.EmbeddedTypes.{inside_profile, outside_profile}
use Rattle.go_asks.proofs.embedding.may_embed.Goals as goal

pub returns-then-not-is_profile : goal.returns-then-not-is_profile
returns-then-not-is_profile c = outside_profile (env_in c.args.context.now) c.args.term.now c.is_profile.result c.if-not-is_profile.true c.is_profile.ensures

pub returns : goal.returns
returns c = inside_profile (env_in c.args.context.now) c.args.term.now c.is_profile.result c.if-not-is_profile.false c.is_profile.ensures c.is_own.result c.is_own.ensures
