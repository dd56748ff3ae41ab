use Rattle.go_operations.specs.go_type_terms.Answers.{env_in}
use Rattle.go_literals.proofs.Indexing.{place_by_key}
use Rattle.go_literals.proofs.values.Literals.place_of.Goals as goal

pub returns-in-Some : goal.returns-in-Some
returns-in-Some g c = place_by_key (env_in c.args.self.now.operations.typing.context.now) c.args.key.now c.in-Some.key c.in-Some.is c.args.next c.key_index.result c.key_index.ensures
