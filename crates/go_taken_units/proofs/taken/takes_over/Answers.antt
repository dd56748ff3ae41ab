use Rattle.std.proofs.Common.{sym}
use Rattle.go_taken_units.proofs.taken.takes_over.Goals as goal

pub returns-else-not-are_taken : goal.returns-else-not-are_taken
returns-else-not-are_taken c = λ e. record { other = c.in-Some.other.now; stands = sym c.in-Some.ensures; same = c.is_same_unit.ensures e; imports = c.are_taken.ensures c.if-not-are_taken.false }
