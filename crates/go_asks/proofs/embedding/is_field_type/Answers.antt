use Rattle.go_type_terms.specs.Answers.{env_in}
use Rattle.go_asks.proofs.EmbeddedTypes.{with_type, without_type}
use Rattle.go_asks.specs.inner.Embedding.{StandsAsField}
use Rattle.go_asks.proofs.embedding.is_field_type.Goals as goal

pub returns-in-Some : goal.returns-in-Some
returns-in-Some c = with_type (StandsAsField (env_in c.args.context.now) c.args.star) c.args.operand.now c.in-Some.term.now c.in-Some.ensures c.stands_as_field.result c.stands_as_field.ensures

pub returns-in-None : goal.returns-in-None
returns-in-None c = without_type (StandsAsField (env_in c.args.context.now) c.args.star) c.args.operand.now c.in-None.ensures
