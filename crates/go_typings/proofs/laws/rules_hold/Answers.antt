use Rattle.go_typings.proofs.OneTyping.{all_hold}
use Rattle.go_typings.proofs.laws.rules_hold.Goals as goal

pub returns : goal.returns
returns c s u S a n t i = all_hold s u S a n t i
