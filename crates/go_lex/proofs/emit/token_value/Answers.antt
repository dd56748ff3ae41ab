use Rattle.go_lex.proofs.TokenValues.{rune_text, rune_said, silent_said}
use Rattle.go_lex.proofs.emit.token_value.Goals as goal

pub rune_number-requires : goal.rune_number-requires
rune_number-requires c = rune_text c.args.kind c.args.text.now c.in-RuneLit.is c.requires

pub returns-in-RuneLit : goal.returns-in-RuneLit
returns-in-RuneLit c = rune_said c.args.kind c.args.text.now c.rune_number.result c.in-RuneLit.is c.rune_number.ensures

pub returns-in_default : goal.returns-in_default
returns-in_default c = silent_said c.args.kind c.args.text.now c.in_default.not-Ident c.in_default.not-IntLit c.in_default.not-RuneLit c.in_default.not-StrLit c.requires
