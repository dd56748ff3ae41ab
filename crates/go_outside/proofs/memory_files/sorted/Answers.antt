-- The sort compares by path.
use Rattle.std.proofs.Common.{rules}
use Rattle.std.proofs.lemmas.List.Sorted.{answers_always}
use Rattle.go_outside.specs.declared.memory_files.FilePair.{FilePair}
use Rattle.go_outside.specs.inner.SortedPairs.{is_before}
use Rattle.go_outside.proofs.PairOrder.{by_path}
use Rattle.go_outside.proofs.memory_files.sorted.Goals as goal

pub returns-clause-sorted : goal.returns-clause-sorted
returns-clause-sorted c = c.in_ok-sort_by.ensures.sorted (λ (p q : FilePair). is_before p.path q.path) by_path (answers_always _ _ _ (λ f a r g called. search rules))
