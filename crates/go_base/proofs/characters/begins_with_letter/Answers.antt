use Rattle.go_base.specs.Characters.{is_letter}
use Rattle.go_base.proofs.Runs.{first_decides}
use Rattle.go_base.proofs.characters.begins_with_letter.Goals as goal

pub returns-in-Some : goal.returns-in-Some
returns-in-Some c = first_decides is_letter c.args.bytes.now _ c.in-Some.c c.is_letter.result c.in-Some.ensures.some.0 c.in-Some.ensures.some.1 c.is_letter.ensures
