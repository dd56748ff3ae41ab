use Rattle.go_file_choices.proofs.FirstAlike.{firsts_next}
use Rattle.go_file_choices.proofs.alike.firsts_by.Goals as goal

pub loop-number-preserved : goal.loop-number-preserved
loop-number-preserved c = firsts_next c.args.questions.now c.args.platforms.now c.loop-number.number c.first_of.result c.loop-number.firsts c.push.new.self c.first_of.ensures c.in_ok-push.ensures.ok c.loop-number.invariant
