use Rattle.std.proofs.Common.{drop}
use Rattle.go_operations.specs.go_type_terms.Answers.{env_in}
use Rattle.go_literals.proofs.Indexing.{Indexed}
use Rattle.go_literals.proofs.values.Literals.indexed.Given as goal

abbrev pub invariant-loop-element : goal.invariant-loop-element
invariant-loop-element g l = Indexed (env_in l.self.operations.typing.context.now) l.term l.limit l.elements l.next l.greatest (drop l.element-index l.elements) l.loud
