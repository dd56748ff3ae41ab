use Rattle.std.proofs.Common.{◌≡◌, ◌++◌, take, drop}
use Rattle.go_load.specs.GoMod.{before_comment}
use Rattle.go_load.proofs.go_mod.before_comment.Given as goal

abbrev pub invariant-loop-start : goal.invariant-loop-start
invariant-loop-start l = before_comment l.line ≡ take l.start l.line ++ before_comment (drop l.start l.line)
