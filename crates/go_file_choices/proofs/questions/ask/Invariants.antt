use Rattle.std.proofs.Common.{take}
use Rattle.go_file_choices.specs.inner.Questions.{AsksAlso}
use Rattle.go_file_choices.proofs.questions.ask.Given as goal

abbrev pub invariant-loop-file : goal.invariant-loop-file
invariant-loop-file l = AsksAlso (take l.file-index l.files) l.fn.questions l.questions
