use Rattle.go_file_choices.proofs.FirstAlike.{FirstsTo}
use Rattle.go_file_choices.proofs.alike.firsts_by.Given as goal

abbrev pub invariant-loop-number : goal.invariant-loop-number
invariant-loop-number l = FirstsTo l.questions l.platforms l.number l.firsts
