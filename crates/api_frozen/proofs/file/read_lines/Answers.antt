use Rattle.std.proofs.Common.{[], map, sym, subst, arith}
use Rattle.std.proofs.lemmas.List.{length-map}
use Rattle.api_frozen.specs.FrozenFiles.{AreFrozen, frozen_none}
use Rattle.api_frozen.specs.inner.Readings.{AddsLine}
use Rattle.api_frozen.proofs.ReadLines.{first_bad}
use Rattle.api_frozen.proofs.file.read_lines.Goals as goal

pub loop-i-init : goal.loop-i-init
loop-i-init c = subst (AreFrozen []) (sym c.new-texts.ensures) frozen_none

pub returns-then-not-good : goal.returns-then-not-good
returns-then-not-good c =
    first_bad (map (λ line. line.now) c.args.lines.now) c.loop-i.i c.line_at.result.now c.loop-i.texts (omega (arith, c.loop-i-test.true, length-map c.args.lines.now (λ line. line.now))) c.line_at.ensures c.loop-i.invariant
    (subst (AddsLine c.line_at.result.now c.loop-i.texts c.add_line.new.texts) c.if-not-good.true c.in_ok-good.ensures)
