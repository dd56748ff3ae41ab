use Rattle.std.proofs.Common.{◌≡◌, ◌≤◌, ◌∙◌, ◌+◌, ◌-◌, List, ℕ, sym, ap, subst, length, take, drop, arith, Bool, ◌++◌}
use Rattle.std.proofs.lemmas.List.{take_rest}
use Rattle.go_base.specs.Comments.{piece_len}
use Rattle.go_model.specs.files.Headers.{opening_comment, is_open_after}
use Rattle.go_tags.specs.inner.HeaderLines.{Sums, IsScan}
use Rattle.go_tags.proofs.HeaderScans.{Scanning, scanning_more, scanning_done}
use Rattle.go_tags.proofs.lines.scan_header.Goals as goal

pub loop-len-preserved : goal.loop-len-preserved
loop-len-preserved c =
    let rest = take_rest c.args.bytes.now c.loop-len.at in
    let size : c.loop-len.at + c.in-Some.len - c.loop-len.at ≡ c.in-Some.len = omega arith in
    let piece : take (c.loop-len.at + c.in-Some.len - c.loop-len.at) (drop c.loop-len.at c.args.bytes.now) ≡ take c.in-Some.len (drop c.loop-len.at c.args.bytes.now) = ap (λ (n : ℕ). take n (drop c.loop-len.at c.args.bytes.now)) size in
    let next = scanning_more c.args.bytes.now c.loop-len.at c.in-Some.len c.loop-len.is_open c.loop-len.lines c.with_piece-lines.result c.loop-len.invariant
    (ap piece_len (sym rest) ∙ sym c.in-Some.ensures.len)
    (subst (λ (w : List ℕ). c.in-Some.len ≤ length w) rest c.in-Some.ensures.within.1)
    (subst (λ (w : List ℕ). (comments : List (List ℕ)) → Sums comments c.loop-len.lines → Sums (comments ++ opening_comment c.loop-len.is_open w) c.with_piece-lines.result) piece c.with_piece-lines.ensures) in
    subst (λ (o : Bool). Scanning c.args.bytes.now (c.loop-len.at + c.in-Some.len) o c.with_piece-lines.result)
    (sym (c.is_open_after-is_open.ensures ∙ ap (is_open_after c.loop-len.is_open) piece)) next

pub returns : goal.returns
returns c =
    let rest = take_rest c.args.bytes.now c.loop-len.at in
    subst (IsScan c.args.bytes.now c.loop-len.lines) (sym rest)
    (scanning_done c.args.bytes.now c.loop-len.at c.loop-len.is_open c.loop-len.lines c.loop-len.invariant (ap piece_len (sym rest) ∙ sym c.in_default.ensures.len))
