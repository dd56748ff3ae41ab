use Rattle.std.proofs.Common.{◌≡◌, drop}
use Rattle.go_bodies.specs.Reading.{literals, progress}
use Rattle.go_bodies.proofs.literals.+read.Given as goal
use Rattle.go_syntax.specs.grammar.Terminals.{terminals}

abbrev pub decreases-read : goal.decreases-read
decreases-read l = l.most

abbrev pub invariant-loop-place : goal.invariant-loop-place
invariant-loop-place l = literals l.most l.places (progress (terminals l.initial.ahead) l.initial.found) ≡ literals l.most (drop l.place-index l.places) (progress (terminals l.ahead) l.found)
