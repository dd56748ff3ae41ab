use Rattle.std.proofs.Common.{arith}
use Rattle.api_frozen.proofs.Cutting.{not_cut, is_cut}
use Rattle.api_frozen.proofs.file.cut.Goals as goal

pub returns-then-at-lt2 : goal.returns-then-at-lt2
returns-then-at-lt2 c = not_cut c.args.line.now c.digits_start-at.result c.digits_start-at.ensures (λ i. omega (arith, i.room))

pub returns-then-line-at-ne35 : goal.returns-then-line-at-ne35
returns-then-line-at-ne35 c = not_cut c.args.line.now c.digits_start-at.result c.digits_start-at.ensures (λ i. c.if-line-at-ne35.true i.hash)

pub returns-then-line-at-ne32 : goal.returns-then-line-at-ne32
returns-then-line-at-ne32 c = not_cut c.args.line.now c.digits_start-at.result c.digits_start-at.ensures (λ i. c.if-line-at-ne32.true i.space)

pub returns : goal.returns
returns c = is_cut c.args.line.now c.digits_start-at.result c.digits_start-at.ensures (record {
  more = omega (arith, c.digits_start-at.ensures.within, c.if-at-line.false);
  room = c.if-at-lt2.false;
  hash = c.if-line-at-ne35.false;
  space = c.if-line-at-ne32.false;
})
