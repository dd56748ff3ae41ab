use Rattle.std.proofs.Common.{rules}
use Rattle.std.proofs.lemmas.List.Sorted.{IsPartitionPoint-from_clause}
use Rattle.go_declared.specs.inner.EntryOrder.{is_before}
use Rattle.go_declared.proofs.EntryOrder.{Entry, parted}
use Rattle.go_declared.proofs.names.first_from.Goals as goal

pub returns-clause-point : goal.returns-clause-point
returns-clause-point c =
    IsPartitionPoint-from_clause (λ (e : Entry). is_before e.0 c.args.name.now) _ _ c.partition_point.ensures.partitioned (parted c.args.entries.now c.args.name.now c.requires) (λ a r f k. search rules)
