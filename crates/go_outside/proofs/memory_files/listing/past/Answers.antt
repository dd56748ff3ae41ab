-- The pairs of one entry stand together.
use Rattle.std.proofs.Common.{◌≡◌, subst, ◌++◌, ◌∷◌, []}
use Rattle.go_outside.specs.Paths.{Path}
use Rattle.go_outside.specs.inner.SortedPairs.{IsFirstFrom}
use Rattle.go_outside.proofs.EntryRuns.{past_file, past_folder, some_pair}
use Rattle.go_outside.proofs.PairOrder.{rising_sorted}
use Rattle.go_outside.proofs.memory_files.listing.past.Goals as goal

pub returns-in-File : goal.returns-in-File
returns-in-File c = past_file c.args.pairs.now c.args.folder.now c.args.at c.args.entry.now c.requires.rising c.requires.inside c.requires.first c.in-File.is

pub first_from-requires : goal.first_from-requires
first_from-requires c = rising_sorted c.args.pairs.now c.requires.rising

pub returns-in_ok-key-in_default : goal.returns-in_ok-key-in_default
returns-in_ok-key-in_default c =
    let key : c.deref-in_default.result.now ≡ ((c.args.folder.now ++ 47 ∷ []) ++ c.args.entry.now.name) ++ 48 ∷ [] = cc (c.in_ok-key-in_default.ensures, c.in_ok-prefix-in_default.ensures) in
    past_folder c.args.pairs.now c.args.folder.now c.args.at c.args.entry.now c.first_from.result c.requires.rising c.requires.inside c.requires.first c.in_default.not-File
    (subst (λ (w : Path). IsFirstFrom c.args.pairs.now w c.first_from.result) key c.first_from.ensures.point)
    (some_pair c.args.pairs.now c.args.at c.requires.inside) c.first_from.ensures.fits
