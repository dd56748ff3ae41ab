-- What the search requires of sorted pairs.
use Rattle.std.proofs.Common.{rules}
use Rattle.std.proofs.lemmas.List.Sorted.{IsPartitionPoint-from_clause}
use Rattle.go_outside.specs.declared.memory_files.FilePair.{FilePair}
use Rattle.go_outside.specs.inner.SortedPairs.{is_before}
use Rattle.go_outside.proofs.PairOrder.{parted}
use Rattle.go_outside.proofs.memory_files.search.first_from.Goals as goal

pub returns-clause-point : goal.returns-clause-point
returns-clause-point c = IsPartitionPoint-from_clause (λ (p : FilePair). is_before p.path c.args.key.now) _ _ c.partition_point.ensures.partitioned (parted c.args.pairs.now c.args.key.now c.requires) (λ a r f k. search rules)
