use Rattle.go_lex.proofs.TokenValues.{rune_found, rune_lost, rune_long}
use Rattle.go_lex.proofs.value.rune_number.Goals as goal

pub past-requires : goal.past-requires
past-requires c = rune_long c.args.text.now c.requires

pub returns-in-Some : goal.returns-in-Some
returns-in-Some c = rune_found c.args.text.now c.past.result.now c.in-Some.c c.meaning_number.result c.requires c.past.ensures c.in-Some.ensures.some c.meaning_number.ensures

pub returns-in-None : goal.returns-in-None
returns-in-None c = absurd (rune_lost c.args.text.now c.past.result.now c.requires c.past.ensures c.in-None.ensures.none)
