use Rattle.go_file_choices.proofs.HeaderConstraints.{bad_expression, plus_build, twice}
use Rattle.go_file_choices.proofs.questions.without_header.Goals as goal

pub returns-in-BadExpression : goal.returns-in-BadExpression
returns-in-BadExpression c = λ bytes h. bad_expression c.one_header.ensures.either bytes c.args.error c.in-BadExpression.is h

pub returns-in-Twice : goal.returns-in-Twice
returns-in-Twice c = λ bytes h. twice c.one_header.ensures.either bytes c.args.error c.in-Twice.is h

pub returns-in-PlusBuild : goal.returns-in-PlusBuild
returns-in-PlusBuild c = λ bytes h. plus_build c.one_header.ensures.either bytes c.args.error c.in-PlusBuild.is h
