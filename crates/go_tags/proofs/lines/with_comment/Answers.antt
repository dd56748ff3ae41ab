use Rattle.go_tags.proofs.HeaderScans.{plus_with}
use Rattle.go_tags.proofs.lines.with_comment.Goals as goal

pub returns : goal.returns
returns c comments s =
    (c.with_build_line.ensures comments s.0, plus_with c.args.lines.has_plus c.with_plus_line.result comments c.args.comment.now c.with_plus_line.ensures s.1)
