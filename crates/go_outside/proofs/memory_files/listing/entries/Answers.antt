-- The listing as far as the place, from one entry's pairs to the next.
use Rattle.std.proofs.Common.{◌≡◌, ◌∙◌, sym, ap, subst, ◌++◌, ◌∷◌, []}
use Rattle.go_outside.specs.Paths.{Path, entry_of}
use Rattle.go_outside.specs.inner.SortedPairs.{IsFirstFrom}
use Rattle.go_outside.proofs.FolderEntries.{SoFar, so_far_none, so_far_more, so_far_past}
use Rattle.go_outside.proofs.PairOrder.{rising_sorted, path_default}
use Rattle.go_outside.proofs.memory_files.listing.entries.Goals as goal

pub first_from-at-requires : goal.first_from-at-requires
first_from-at-requires c = rising_sorted c.args.pairs.now c.requires

pub loop-at-init : goal.loop-at-init
loop-at-init c =
    let key : c.deref.result.now ≡ c.args.folder.now ++ 47 ∷ [] = c.deref.ensures.value ∙ c.in_ok-prefix.ensures in
    subst (SoFar c.args.pairs.now c.args.folder.now c.first_from-at.result) (sym c.new-entries.ensures)
    (so_far_none c.args.pairs.now c.args.folder.now c.first_from-at.result c.first_from-at.ensures.fits
    (subst (λ (w : Path). IsFirstFrom c.args.pairs.now w c.first_from-at.result) key c.first_from-at.ensures.point))

pub returns-in_default : goal.returns-in_default
returns-in_default c = so_far_past c.args.pairs.now c.args.folder.now c.loop-at.at c.loop-at.entries (rising_sorted c.args.pairs.now c.requires) c.loop-at-test.true
    (λ d. ap (entry_of c.args.folder.now) (path_default c.args.pairs.now c.loop-at.at d c.index-pairs-at.result c.loop-at-test.true ∙ sym c.bytes.ensures) ∙ sym c.in_ok-entry.ensures ∙ c.in_default.is)
    c.loop-at.invariant

pub loop-at-preserved : goal.loop-at-preserved
loop-at-preserved c = subst (SoFar c.args.pairs.now c.args.folder.now c.in_ok-at.at) (sym c.in_ok-push.ensures.ok)
    (so_far_more c.args.pairs.now c.args.folder.now c.loop-at.at c.loop-at.entries c.in-Some.entry c.in_ok-at.at c.index-pairs-at.result c.loop-at-test.true c.in_ok-at.ensures c.loop-at.invariant)
