use Rattle.std.proofs.lemmas.Int.{quot-rem, rem_below}
use Rattle.go_const.proofs.Quotients.{remainder_sign}
use Rattle.go_const.proofs.laws.quotient_and_remainder.Goals as goal

pub returns : goal.returns
returns c = record { whole = quot-rem; sign = remainder_sign; smaller = rem_below }
