use Rattle.std.proofs.Common.{rules, sym, ◌∙◌}
use Rattle.go_base.proofs.PlainNames.{plain_named}
use Rattle.go_base.proofs.characters.is_plain.Goals as goal

pub returns-then-is_ascii_alphanumeric-clause-named : goal.returns-then-is_ascii_alphanumeric-clause-named
returns-then-is_ascii_alphanumeric-clause-named c t = plain_named c.args.b (search rules) (sym c.is_ascii_alphanumeric.ensures.value ∙ t)
