use Rattle.std.proofs.Common.{◌∙◌, add-one}
use Rattle.go_tags.proofs.PlatformSearch.{one_more, past_all, other_bytes}
use Rattle.go_tags.proofs.platforms.find_named.Goals as goal

pub loop-candidate-preserved : goal.loop-candidate-preserved
loop-candidate-preserved c rest =
    c.loop-candidate.invariant (one_more c.args.text.now c.loop-candidate.candidate-index c.args.platforms.now _ c.loop-candidate-test.true (λ same. other_bytes _ _ c.if-eq.ensures (c.name.ensures ∙ same)) (rw add-one at rest))

pub returns : goal.returns
returns c = c.loop-candidate.invariant (past_all c.args.text.now c.loop-candidate.candidate-index c.args.platforms.now c.loop-candidate-test.false)
