use Rattle.go_typed_parts.proofs.TypedParts.{chain_typed, typed_within}
use Rattle.go_typed_parts.proofs.laws.typed_trees.Goals as goal

pub returns-clause-within : goal.returns-clause-within
returns-clause-within c = λ E a b h s. typed_within E s h

pub returns-clause-chain : goal.returns-clause-chain
returns-clause-chain c = λ E e x o before p after h k. chain_typed E e before p after h k
