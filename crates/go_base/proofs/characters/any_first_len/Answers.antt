use Rattle.go_base.specs.Alphabets.{has}
use Rattle.go_base.proofs.Runs.{fails_first}
use Rattle.std.proofs.Common.{◌∙◌, sym}
use Rattle.go_base.proofs.characters.any_first_len.Goals as goal

pub returns-in_default-clause-none : goal.returns-in_default-clause-none
returns-in_default-clause-none c none = fails_first (has c.args.alphabet) c.args.bytes.now _ c.in-Some.c c.in-Some.ensures.some.0 (sym c.has.ensures ∙ c.if-has.false)
