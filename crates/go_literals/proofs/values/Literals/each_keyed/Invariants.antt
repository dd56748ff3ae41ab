use Rattle.std.proofs.Common.{drop}
use Rattle.go_operations.specs.go_type_terms.Answers.{env_in}
use Rattle.go_literals.proofs.KeyedFields.{Keyed}
use Rattle.go_literals.proofs.values.Literals.each_keyed.Given as goal

abbrev pub invariant-loop-element : goal.invariant-loop-element
invariant-loop-element g l = Keyed (env_in l.self.operations.typing.context.now) l.fields l.elements (drop l.element-index l.elements) l.loud
