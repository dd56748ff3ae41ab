use Rattle.std.proofs.lemmas.Result.{IfOk-weaker}
use Rattle.go_base.specs.Lists.{Each}
use Rattle.go_declarations.specs.Forms.{spec_of}
use Rattle.go_exposed.specs.BeyondProfile.{GivesInexact, IsInexact, IsValueOf}
use Rattle.go_inexact.proofs.Answered.{is_not, is_so, untold}
use Rattle.go_inexact.proofs.Told.{gives_decides, gives_exact, gives_not_counted, gives_untyped}
use Rattle.go_rules.specs.Expressions.{OfType}
use Rattle.go_selectors.specs.Answers.{Decides}
use Rattle.go_type_terms.specs.Answers.{env_in}
use Rattle.go_inexact.proofs.constants.gives_inexact.Goals as goal

pub returns-then-not-counted : goal.returns-then-not-counted
returns-then-not-counted c = gives_not_counted (env_in c.args.context.now) (spec_of c.args.constants.now) c.if-not-counted.true

pub returns-in-Err-Untyped : goal.returns-in-Err-Untyped
returns-in-Err-Untyped c =
    let E = env_in c.args.context.now in
    let form = c.args.form.now in
    gives_untyped E (spec_of c.args.constants.now) form c.requires (untold (OfType E form) c.in-Err-Untyped.field-0 c.in-Err-Untyped.field-0-is c.in-Err-Untyped.ensures)

pub returns-then-not-is_inexact : goal.returns-then-not-is_inexact
returns-then-not-is_inexact c =
    let E = env_in c.args.context.now in
    let t = c.in-Ok.term in
    gives_exact E (spec_of c.args.constants.now) c.args.form.now c.requires t c.in-Ok.ensures (is_not (IsInexact E t) c.is_inexact.result c.if-not-is_inexact.true c.is_inexact.ensures)

pub returns-else-not-is_inexact : goal.returns-else-not-is_inexact
returns-else-not-is_inexact c =
    let E = env_in c.args.context.now in
    let s = spec_of c.args.constants.now in
    let t = c.in-Ok.term in
    let inexact = is_so (IsInexact E t) c.is_inexact.result c.if-not-is_inexact.false c.is_inexact.ensures in
    IfOk-weaker c.are_values_of.result (λ b. Decides b (Each (IsValueOf E t) s.values)) (λ b. Decides b (GivesInexact E s)) (λ b d. gives_decides E s c.args.form.now c.requires t c.in-Ok.ensures b inexact c.if-not-counted.false d)
    c.are_values_of.ensures
