use Rattle.go_const.proofs.ResultKinds.{binary_constant, conversion_constant, shift_constant, unary_constant}
use Rattle.go_const.proofs.laws.results_are_of_the_kind.Goals as goal

pub returns : goal.returns
returns c = record { unary = unary_constant; binary = binary_constant; shift = shift_constant; conversion = conversion_constant }
