use Rattle.std.proofs.Common.{drop}
use Rattle.go_type_terms.proofs.Gathering.{Taking}
use Rattle.go_type_terms.proofs.gathered.note_all.Given as goal

abbrev pub invariant-loop-method : goal.invariant-loop-method
invariant-loop-method l = Taking l.methods (drop l.method-index l.methods) l.initial.noted.entries l.noted.entries
