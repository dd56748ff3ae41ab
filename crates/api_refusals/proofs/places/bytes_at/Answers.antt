use Rattle.std.proofs.Common.{sym, ◌∙◌}
use Rattle.api_refusals.proofs.FileBytes.{bytes_here, bytes_later, bytes_nowhere}
use Rattle.api_refusals.proofs.places.bytes_at.Goals as goal

pub returns-then-is_at : goal.returns-then-is_at
returns-then-is_at c =
    c.bytes.ensures
    ∙ sym (bytes_here c.args.files.now c.loop-file.file-index c.file-item.result c.args.path.now c.loop-file-test.true c.file-item.is (sym c.is_at.ensures ∙ c.if-is_at.true))
    ∙ c.loop-file.invariant

pub loop-file-preserved : goal.loop-file-preserved
loop-file-preserved c =
    sym (bytes_later c.args.files.now c.loop-file.file-index c.file-item.result c.args.path.now c.loop-file-test.true c.file-item.is (sym c.is_at.ensures ∙ c.if-is_at.false))
    ∙ c.loop-file.invariant

pub returns : goal.returns
returns c = sym (bytes_nowhere c.args.files.now c.loop-file.file-index c.args.path.now c.loop-file-test.false) ∙ c.loop-file.invariant
