use Rattle.std.proofs.Common.{drop}
use Rattle.go_operations.specs.go_type_terms.Answers.{env_in}
use Rattle.go_literals.proofs.Pairing.{Pairs}
use Rattle.go_literals.proofs.values.Literals.pairs.Given as goal

abbrev pub invariant-loop-element : goal.invariant-loop-element
invariant-loop-element g l = Pairs (env_in l.self.operations.typing.context.now) l.key l.term l.elements (drop l.element-index l.elements) l.loud
