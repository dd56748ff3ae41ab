use Rattle.go_load.proofs.ModuleLines.{quoted, backquoted}
use Rattle.go_load.proofs.go_mod.unquoted.Goals as goal

pub returns-in-Some : goal.returns-in-Some
returns-in-Some c = quoted c.args.written.now c.in-Some.path.now c.in-Some.ensures.some

pub returns-in-Some-between : goal.returns-in-Some-between
returns-in-Some-between c = backquoted c.args.written.now c.in-Some-between.path.now c.in-Some-between.ensures.some
