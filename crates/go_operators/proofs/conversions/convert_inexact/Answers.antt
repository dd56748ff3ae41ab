use Rattle.go_operators.proofs.Converting.{inexact_number, inexact_text, inexact_truth}
use Rattle.go_operators.proofs.conversions.convert_inexact.Goals as goal

pub returns-in_ok-answer-in-Int : goal.returns-in_ok-answer-in-Int
returns-in_ok-answer-in-Int c = inexact_number c.args.value.now _ c.args.to.now _ c.in-Int.is c.in_ok-answer-in-Int.ensures

pub returns-in-Str : goal.returns-in-Str
returns-in-Str c = inexact_text c.args.value.now _ c.args.to.now c.in-Str.is

pub returns-in-Truth : goal.returns-in-Truth
returns-in-Truth c = inexact_truth c.args.value.now _ c.args.to.now c.in-Truth.is
