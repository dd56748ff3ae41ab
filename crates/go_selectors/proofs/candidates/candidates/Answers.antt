use Rattle.std.proofs.Common.{◌∙◌, sym}
use Rattle.go_selectors.proofs.Counting.{none_held}
use Rattle.go_selectors.proofs.candidates.candidates.Goals as goal

pub returns-then-is_defined_pointer : goal.returns-then-is_defined_pointer
returns-then-is_defined_pointer g c = none_held (g.T.TypeTable.lookup c.args.types.now.table.now) c.args.term.now c.new.result c.new.ensures.empty (sym c.is_defined_pointer.ensures ∙ c.if-is_defined_pointer.true)

pub returns : goal.returns
returns g c = c.in_ok-counted.ensures (sym c.is_defined_pointer.ensures ∙ c.if-is_defined_pointer.false)
