-- The sort compares by name.
use Rattle.std.proofs.Common.{rules}
use Rattle.std.proofs.lemmas.List.Sorted.{answers_always}
use Rattle.go_declared.specs.inner.EntryOrder.{is_before}
use Rattle.go_declared.proofs.EntryOrder.{by_name, Entry, told_by_stable}
use Rattle.go_declared.proofs.names.sort.Goals as goal

pub returns-clause-same : goal.returns-clause-same
returns-clause-same c = told_by_stable c.args.entries.now.items c.sort_by.new.self.items (c.sort_by.ensures.stable (λ (d e : Entry). is_before d.0 e.0) by_name (answers_always _ _ _ (λ f a r g called. search rules)))

pub returns-clause-sorted : goal.returns-clause-sorted
returns-clause-sorted c = c.in_ok-sort_by.ensures.sorted (λ (d e : Entry). is_before d.0 e.0) by_name (answers_always _ _ _ (λ f a r g called. search rules))
