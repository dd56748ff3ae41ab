use Rattle.std.proofs.Common.{◌∙◌, ◌≤◌, List, ℕ, sym, ap, subst, length}
use Rattle.std.proofs.lemmas.List.{take_rest}
use Rattle.go_base.specs.Comments.{piece_len, IsFront}
use Rattle.go_base.proofs.Fronts.{passing_more, passing_done}
use Rattle.go_base.proofs.comments.past_front.Goals as goal

pub loop-len-preserved : goal.loop-len-preserved
loop-len-preserved c =
    let rest = take_rest c.args.bytes.now c.loop-len.at in
    passing_more c.args.bytes.now c.loop-len.at c.in-Some.len c.loop-len.invariant (ap piece_len (sym rest) ∙ sym c.in-Some.ensures.len)
    (subst (λ (w : List ℕ). c.in-Some.len ≤ length w) rest c.in-Some.ensures.within.1)

pub returns : goal.returns
returns c =
    let rest = take_rest c.args.bytes.now c.loop-len.at in
    let done = passing_done c.args.bytes.now c.loop-len.at c.loop-len.invariant (ap piece_len (sym rest) ∙ sym c.in_default.ensures.len) in
    (done.0, subst (IsFront c.args.bytes.now done.0) (sym rest) done.1)
