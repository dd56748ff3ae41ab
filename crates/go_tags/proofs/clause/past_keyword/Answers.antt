use Rattle.std.proofs.Common.{arith}
use Rattle.go_tags.proofs.OneClause.{whole_word, longer_word, stripped}
use Rattle.go_tags.proofs.clause.past_keyword.Goals as goal

pub returns-then-run_len-eq0-clause-some : goal.returns-then-run_len-eq0-clause-some
returns-then-run_len-eq0-clause-some c =
    whole_word c.args.bytes.now c.in_ok-behind.behind.now c.run_len.result (stripped c.args.bytes.now c.in_ok-behind.behind.now c.in_ok-behind.ensures.cases.0 c.in_ok-behind.ensures.cases.1)
    c.run_len.ensures.run c.if-run_len-eq0.true

pub returns-else-run_len-eq0-clause-none : goal.returns-else-run_len-eq0-clause-none
returns-else-run_len-eq0-clause-none c none =
    longer_word c.args.bytes.now c.in_ok-behind.behind.now c.run_len.result (stripped c.args.bytes.now c.in_ok-behind.behind.now c.in_ok-behind.ensures.cases.0 c.in_ok-behind.ensures.cases.1)
    c.run_len.ensures.run c.run_len.ensures.within (omega arith)
