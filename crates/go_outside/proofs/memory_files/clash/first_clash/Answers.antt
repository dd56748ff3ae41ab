-- The first path that clashes, or none below the place.
use Rattle.std.proofs.Common.{subst, arith, Bool, MatchBool}
use Rattle.go_outside.specs.MemoryFiles.{Clashes}
use Rattle.go_outside.specs.inner.SortedPairs.{path_at}
use Rattle.go_outside.proofs.Clashing.{clear_more}
use Rattle.go_outside.proofs.memory_files.clash.first_clash.Goals as goal

pub returns-then-branch : goal.returns-then-branch
returns-then-branch c = (
  c.loop-at-test.true,
  (λ d. subst (λ (b : Bool). MatchBool b (Clashes c.args.pairs.now (path_at c.args.pairs.now c.loop-at.at d)) (Clashes c.args.pairs.now (path_at c.args.pairs.now c.loop-at.at d) → ⊥)) c.if-branch.true (c.in_ok-clashes.ensures d)),
  c.loop-at.invariant,
)

pub loop-at-preserved : goal.loop-at-preserved
loop-at-preserved c = clear_more c.args.pairs.now c.loop-at.at c.loop-at.invariant
    (λ d. subst (λ (b : Bool). MatchBool b (Clashes c.args.pairs.now (path_at c.args.pairs.now c.loop-at.at d)) (Clashes c.args.pairs.now (path_at c.args.pairs.now c.loop-at.at d) → ⊥)) c.if-branch.false (c.in_ok-clashes.ensures d))

pub returns : goal.returns
returns c = λ k d lt. c.loop-at.invariant k d (omega arith)
