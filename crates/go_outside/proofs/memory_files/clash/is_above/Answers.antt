-- What a path and a slash begin stands first among what isn't before them.
use Rattle.std.proofs.Common.{◌≡◌, ◌∙◌, ap, subst, ◌++◌, ◌∷◌, [], is_some}
use Rattle.go_outside.specs.Paths.{Path, within}
use Rattle.go_outside.specs.inner.SortedPairs.{IsFirstFrom}
use Rattle.go_outside.proofs.Clashing.{above_end, above_by}
use Rattle.go_outside.proofs.memory_files.clash.is_above.Goals as goal

pub returns-then-at-pairs : goal.returns-then-at-pairs
returns-then-at-pairs c =
    let key : c.deref.result.now ≡ c.args.path.now ++ 47 ∷ [] = c.deref.ensures.value ∙ c.in_ok-prefix.ensures in
    above_end c.args.pairs.now c.args.path.now c.first_from-at.result c.if-at-pairs.true (subst (λ (w : Path). IsFirstFrom c.args.pairs.now w c.first_from-at.result) key c.first_from-at.ensures.point)

pub returns : goal.returns
returns c =
    let key : c.deref.result.now ≡ c.args.path.now ++ 47 ∷ [] = c.deref.ensures.value ∙ c.in_ok-prefix.ensures in
    above_by c.args.pairs.now c.args.path.now c.first_from-at.result c.index-pairs-at.result c.is_within.result c.if-at-pairs.false c.requires
    (subst (λ (w : Path). IsFirstFrom c.args.pairs.now w c.first_from-at.result) key c.first_from-at.ensures.point)
    (c.is_within.ensures ∙ ap (λ (w : Path). is_some (within c.args.path.now w)) c.bytes.ensures)
