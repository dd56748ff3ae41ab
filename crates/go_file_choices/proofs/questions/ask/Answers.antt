use Rattle.go_file_choices.proofs.ListedQuestions.{asks_all, asks_next}
use Rattle.go_file_choices.proofs.questions.ask.Goals as goal

pub loop-file-preserved : goal.loop-file-preserved
loop-file-preserved c =
    asks_next c.args.files.now c.loop-file.file-index _ c.bytes.result.now c.args.questions.now c.loop-file.questions c.push.new.self c.loop-file-test.true c.file-item.is c.bytes.ensures c.in_ok-constraint.ensures c.in_ok-push.ensures.ok c.loop-file.invariant

pub returns : goal.returns
returns c = asks_all c.args.files.now c.loop-file.file-index c.args.questions.now c.loop-file.questions c.loop-file-test.false c.loop-file.invariant
