use Rattle.go_file_choices.proofs.FirstAlike.{NoneBefore}
use Rattle.go_file_choices.proofs.alike.first_of.Given as goal

abbrev pub invariant-loop-earlier : goal.invariant-loop-earlier
invariant-loop-earlier l = NoneBefore l.questions l.platforms l.number l.earlier
