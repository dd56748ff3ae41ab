use Rattle.std.proofs.Common.{arith}
use Rattle.go_tags.proofs.OneCut.{no_tag, tag_begins}
use Rattle.go_tags.proofs.parts.first_tag.Goals as goal

pub returns-then-len-eq0-clause-cause : goal.returns-then-len-eq0-clause-cause
returns-then-len-eq0-clause-cause c = no_tag c.args.text.now c.run_len-len.result (omega arith) c.requires.sign c.requires.some c.run_len-len.ensures.run

pub returns-clause-step : goal.returns-clause-step
returns-clause-step c =
    tag_begins c.args.text.now c.run_len-len.result (omega arith) c.run_len-len.ensures.within c.requires.sign c.requires.some c.run_len-len.ensures.run c.in_ok-tag.tag c.in_ok-tag.ensures
