use Rattle.std.proofs.Common.{sym, subst, inl, inr}
use Rattle.go_model.specs.files.Headers.{build_texts}
use Rattle.go_tags.specs.inner.HeaderLines.{Counts}
use Rattle.go_tags.proofs.HeaderScans.{count_none, count_first, count_later, at_least_one, two_or_more}
use Rattle.go_tags.proofs.lines.with_build_line.Goals as goal

pub returns-in-None : goal.returns-in-None
returns-in-None c = count_none c.args.build c.args.comment.now (sym c.in-None.ensures)

pub returns-in-Nothing : goal.returns-in-Nothing
returns-in-Nothing c comments h =
    count_first c.args.comment.now c.in-Some.text.now (sym c.in-Some.ensures) comments (subst (Counts (build_texts comments)) c.in-Nothing.is h)

pub returns-in-One : goal.returns-in-One
returns-in-One c comments h =
    count_later c.args.comment.now c.in-Some.text.now (sym c.in-Some.ensures) comments
    (elim c.in-One.is [
      | inl e ↦ at_least_one (build_texts comments) e.0.now (subst (Counts (build_texts comments)) e.1 h)
      | inr e ↦ two_or_more (build_texts comments) (subst (Counts (build_texts comments)) e h)
    ])
