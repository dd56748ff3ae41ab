use Rattle.go_lex.proofs.NameRuns.{longest_name, no_name, from_true, to_false}
use Rattle.go_lex.proofs.name.name_len.Goals as goal

pub returns-then-begins_with_letter-clause-some : goal.returns-then-begins_with_letter-clause-some
returns-then-begins_with_letter-clause-some c =
    longest_name c.args.bytes.now c.run_len.result c.run_len.ensures.within c.run_len.ensures.run (from_true c.begins_with_letter.result _ c.begins_with_letter.ensures c.if-begins_with_letter.true)

pub returns-else-begins_with_letter-clause-none : goal.returns-else-begins_with_letter-clause-none
returns-else-begins_with_letter-clause-none c = no_name c.args.bytes.now (to_false c.begins_with_letter.result _ c.begins_with_letter.ensures c.if-begins_with_letter.false)
