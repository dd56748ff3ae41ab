use Rattle.go_operations.specs.go_type_terms.Answers.{env_in}
use Rattle.go_literals.proofs.Indexing.{place_out}
use Rattle.go_literals.proofs.values.Literals.place.Goals as goal

pub returns-then-not-is_below : goal.returns-then-not-is_below
returns-then-not-is_below g c = place_out (env_in c.args.self.now.operations.typing.context.now) c.args.key.now c.args.limit c.args.next c.in_ok-place.place c.in_ok-place.ensures.0 c.if-not-is_below.ensures
