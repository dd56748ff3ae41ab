use Rattle.std.proofs.Common.{sym, ◌∙◌}
use Rattle.api_lines.specs.Lines.{printed}
use Rattle.api_lines.proofs.LineOrder.{found_end, found_equal, found_greater, passed_end, passed_equal, passed_greater}
use Rattle.api_lines.proofs.place.place_of.Goals as goal

pub returns-in-Equal-clause-found : goal.returns-in-Equal-clause-found
returns-in-Equal-clause-found c = found_equal c.args.lines.now c.loop-i.i c.index-lines-i.result (printed c.args.line.now) c.loop-i-test.true c.index-lines-i.is c.loop-i.invariant (sym c.in_ok-order.ensures ∙ c.in-Equal.is)

pub returns-in-Equal-clause-passed : goal.returns-in-Equal-clause-passed
returns-in-Equal-clause-passed c = passed_equal c.args.lines.now c.loop-i.i c.index-lines-i.result (printed c.args.line.now) c.loop-i-test.true c.index-lines-i.is c.loop-i.invariant (sym c.in_ok-order.ensures ∙ c.in-Equal.is)

pub returns-in-Greater-clause-found : goal.returns-in-Greater-clause-found
returns-in-Greater-clause-found c = found_greater c.args.lines.now c.loop-i.i c.index-lines-i.result (printed c.args.line.now) c.loop-i-test.true c.index-lines-i.is c.loop-i.invariant c.requires.lines (sym c.in_ok-order.ensures ∙ c.in-Greater.is)

pub returns-in-Greater-clause-passed : goal.returns-in-Greater-clause-passed
returns-in-Greater-clause-passed c = passed_greater c.args.lines.now c.loop-i.i c.index-lines-i.result (printed c.args.line.now) c.loop-i-test.true c.index-lines-i.is c.loop-i.invariant

pub returns-clause-found : goal.returns-clause-found
returns-clause-found c = found_end c.args.lines.now c.loop-i.i (printed c.args.line.now) c.loop-i-test.false c.loop-i.invariant

pub returns-clause-passed : goal.returns-clause-passed
returns-clause-passed c = passed_end c.args.lines.now c.loop-i.i (printed c.args.line.now) c.loop-i-test.false c.loop-i.invariant
