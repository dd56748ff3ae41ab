use Rattle.std.proofs.Common.{drop, length}
use Rattle.go_operations.specs.Chains.{operators_of}
use Rattle.go_type_terms.specs.Answers.{env_in}
use Rattle.go_operations.proofs.Chaining.{Goes}
use Rattle.go_operations.proofs.operations.Operations.chain_after.Given as goal

abbrev pub invariant-loop-at : goal.invariant-loop-at
invariant-loop-at g l = Goes (env_in l.self.typing.context.now) (operators_of l.operators (length l.others)) l.fn.first l.others (drop l.at (operators_of l.operators (length l.others))) l.left (drop l.at l.others) l.loud
