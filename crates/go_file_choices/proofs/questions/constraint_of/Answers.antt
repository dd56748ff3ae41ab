use Rattle.std.proofs.Common.{sym, subst}
use Rattle.go_file_choices.proofs.HeaderConstraints.{of_header}
use Rattle.go_file_choices.specs.inner.Questions.{IsConstraintOf}
use Rattle.go_file_choices.proofs.questions.constraint_of.Goals as goal

pub returns-in-Ok : goal.returns-in-Ok
returns-in-Ok c = subst (IsConstraintOf c.args.bytes.now) (sym c.constraint_in.ensures) (of_header c.one_header.ensures.header c.args.bytes.now c.in-Ok.header c.in-Ok.ensures.header)
