use Rattle.std.proofs.Common.{sym, ◌∙◌}
use Rattle.go_operators.proofs.Changing.{address_no_type, address_of_variable, address_of_literal, address_no_literal, address_no_plain}
use Rattle.go_operators.proofs.prefixes.addressed.Goals as goal

pub returns-in-None : goal.returns-in-None
returns-in-None c = address_no_type c.args.composite c.args.operand.now c.in-None.ensures

pub returns-then-is_variable : goal.returns-then-is_variable
returns-then-is_variable c = address_of_variable c.args.composite c.args.operand.now _ c.in-Some.ensures (sym c.if-is_variable.ensures)

pub returns-then-not-composite : goal.returns-then-not-composite
returns-then-not-composite c = address_no_literal c.args.composite c.args.operand.now (sym c.if-is_variable.ensures) c.if-not-composite.true

pub returns-then-is_plain : goal.returns-then-is_plain
returns-then-is_plain c = address_of_literal c.args.composite c.args.operand.now _ c.in-Some.ensures c.if-not-composite.false c.if-is_plain.ensures

pub returns : goal.returns
returns c = address_no_plain c.args.composite c.args.operand.now (sym c.if-is_variable.ensures) c.if-is_plain.ensures
