use Rattle.go_base.specs.Characters.{is_upper}
use Rattle.go_base.proofs.Runs.{first_decides}
use Rattle.go_base.proofs.characters.is_exported.Goals as goal

pub returns-in-Some : goal.returns-in-Some
returns-in-Some c = first_decides is_upper c.args.name.now _ c.in-Some.c c.is_upper.result c.in-Some.ensures.some.0 c.in-Some.ensures.some.1 c.is_upper.ensures
