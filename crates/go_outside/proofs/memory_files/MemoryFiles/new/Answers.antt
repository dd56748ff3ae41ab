-- The sorted pairs tell what the pairs do, and the first clash among them is the least.
use Rattle.std.proofs.Common.{◌∙◌, sym, ap, subst, Some, None, List, length}
use Rattle.go_outside.specs.declared.memory_files.FilePair.{FilePair}
use Rattle.go_outside.specs.MemoryFiles.{IsLeastClash}
use Rattle.go_outside.specs.inner.SortedPairs.{IsClearBelow, IsFirstClash}
use Rattle.go_outside.proofs.ListingAnswers.{clear_rising, tells, clear_sorted, least_sorted}
use Rattle.go_outside.proofs.memory_files.MemoryFiles.new.Goals as goal

clear : (c : goal.In-None) → IsClearBelow c.in_ok-pairs.pairs.items (length c.in_ok-pairs.pairs.items)
clear c = subst (λ (xs : List FilePair). IsFirstClash xs None) c.deref.ensures.value (subst (IsFirstClash c.deref.result.now) c.in-None.is c.in_ok-first_clash.ensures)

pub invariant_of-result : goal.invariant_of-result
invariant_of-result c = clear_rising c.in_ok-pairs.pairs.items c.in_ok-pairs.ensures.sorted (clear c)

pub returns-in-None-clause-told : goal.returns-in-None-clause-told
returns-in-None-clause-told c = tells c.args.pairs c.in_ok-pairs.pairs.items c.in_ok-pairs.ensures.permutation (clear_rising c.in_ok-pairs.pairs.items c.in_ok-pairs.ensures.sorted (clear c))

pub returns-in-None-clause-clear : goal.returns-in-None-clause-clear
returns-in-None-clause-clear c = clear_sorted c.args.pairs c.in_ok-pairs.pairs.items c.in_ok-pairs.ensures.permutation (clear c)

pub returns-in_ok-copy-in-Some-clause-clash : goal.returns-in_ok-copy-in-Some-clause-clash
returns-in_ok-copy-in-Some-clause-clash c =
    let found : IsFirstClash c.in_ok-pairs.pairs.items (Some c.in-Some.at) =
    subst (λ (xs : List FilePair). IsFirstClash xs (Some c.in-Some.at)) c.deref.ensures.value (subst (IsFirstClash c.deref.result.now) c.in-Some.is c.in_ok-first_clash.ensures) in
    subst (IsLeastClash c.args.pairs) (sym (c.in_ok-copy-in-Some.ensures ∙ ap (λ (w : FilePair). w.path) c.index.ensures))
    (least_sorted c.args.pairs c.in_ok-pairs.pairs.items c.in_ok-pairs.ensures.permutation c.in-Some.at c.index.result.now c.in_ok-pairs.ensures.sorted found.0 (found.1 c.index.result.now) found.2)
