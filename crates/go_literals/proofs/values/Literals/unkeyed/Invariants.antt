use Rattle.std.proofs.Common.{drop}
use Rattle.go_operations.specs.go_type_terms.Answers.{env_in}
use Rattle.go_literals.proofs.KeyedFields.{Unkeyed}
use Rattle.go_literals.proofs.values.Literals.unkeyed.Given as goal

abbrev pub invariant-loop-at : goal.invariant-loop-at
invariant-loop-at g l = Unkeyed (env_in l.self.operations.typing.context.now) l.fields l.elements (drop l.at l.fields) (drop l.at l.elements) l.loud
