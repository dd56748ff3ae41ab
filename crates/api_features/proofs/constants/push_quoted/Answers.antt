use Rattle.std.proofs.Common.{arith}
use Rattle.api_features.proofs.ValueTexts.{quoting_none}
use Rattle.api_features.proofs.QuotedPieces.{piece_fits, quoting_next, quoting_all, quoting_smaller}
use Rattle.api_features.proofs.constants.push_quoted.Goals as goal

pub loop-at-init : goal.loop-at-init
loop-at-init c = quoting_none c.args.bytes.now c.args.out.now.items

pub loop-at-preserved : goal.loop-at-preserved
loop-at-preserved c = quoting_next c.args.bytes.now c.args.out.now.items c.loop-at.out.items c.push_piece.new.out.items c.loop-at.at _ c.loop-at.invariant c.in_ok-at.ensures

pub loop-at-smaller : goal.loop-at-smaller
loop-at-smaller c = quoting_smaller c.args.bytes.now c.args.out.now.items c.loop-at.out.items c.push_piece.new.out.items c.loop-at.at _ c.loop-at.invariant c.in_ok-at.ensures

pub overflow_add-at : goal.overflow_add-at
overflow_add-at c =
    omega (arith, piece_fits c.args.bytes.now c.args.out.now.items c.loop-at.out.items c.push_piece.new.out.items c.loop-at.at _ c.loop-at.invariant c.in_ok-at.ensures)

pub returns : goal.returns
returns c = quoting_all c.args.bytes.now c.args.out.now.items c.loop-at.out.items c.loop-at.at c.loop-at-test.false c.loop-at.invariant
