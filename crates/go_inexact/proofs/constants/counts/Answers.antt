use Rattle.std.proofs.lemmas.Result.{IfOk-weaker}
use Rattle.go_declarations.specs.Listings.{declaration_of}
use Rattle.go_inexact.proofs.Answered.{is_not, is_so}
use Rattle.go_inexact.proofs.Told.{both_decides}
use Rattle.go_inexact.specs.Values.{IsInexactForm}
use Rattle.go_inexact.specs.inner.NoneLost.{NoneIsLost}
use Rattle.go_package_scopes.specs.PackageScopes.{at_declaration}
use Rattle.go_rules.specs.Scopes.{env_of}
use Rattle.go_selectors.specs.Answers.{Decides}
use Rattle.go_inexact.proofs.constants.counts.Goals as goal

pub returns-then-not-none_lost-clause-answer : goal.returns-then-not-none_lost-clause-answer
returns-then-not-none_lost-clause-answer c = λ k. is_not (NoneIsLost c.args.lost.now c.args.row.now) c.none_lost.result c.if-not-none_lost.true c.none_lost.ensures k.0

pub returns-clause-answer : goal.returns-clause-answer
returns-clause-answer c =
    let P = NoneIsLost c.args.lost.now c.args.row.now in
    let d = declaration_of c.args.declaration.now in
    let Q = IsInexactForm (env_of (at_declaration c.args.env.now d)) d.form in
    let kept = is_so P c.none_lost.result c.if-not-none_lost.false c.none_lost.ensures in
    IfOk-weaker c.is_inexact_there.result (λ b. Decides b Q) (λ b. Decides b (P × Q)) (λ b q. both_decides P Q b kept q) c.is_inexact_there.ensures.answer
