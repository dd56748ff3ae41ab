use Rattle.std.proofs.lemmas.Result.{IfOk-weaker}
use Rattle.go_base.specs.Lists.{Each}
use Rattle.go_declarations.specs.Forms.{spec_of}
use Rattle.go_exposed.specs.BeyondProfile.{HoldsInexact, IsValue}
use Rattle.go_inexact.proofs.Answered.{is_not, is_so}
use Rattle.go_inexact.proofs.Told.{holds_decides, holds_no_values, holds_not_counted}
use Rattle.go_inexact.specs.Values.{OneIsInexact}
use Rattle.go_selectors.specs.Answers.{Decides}
use Rattle.go_type_terms.specs.Answers.{env_in}
use Rattle.go_inexact.proofs.constants.holds_inexact.Goals as goal

pub returns-then-not-counted : goal.returns-then-not-counted
returns-then-not-counted c = holds_not_counted (env_in c.args.context.now) (spec_of c.args.constants.now) c.if-not-counted.true

pub returns-then-not-values : goal.returns-then-not-values
returns-then-not-values c =
    let E = env_in c.args.context.now in
    let s = spec_of c.args.constants.now in
    holds_no_values E s (is_not (Each (IsValue E) s.values) c.in_ok-values.values c.if-not-values.true c.in_ok-values.ensures)

pub returns : goal.returns
returns c =
    let E = env_in c.args.context.now in
    let s = spec_of c.args.constants.now in
    let values = is_so (Each (IsValue E) s.values) c.in_ok-values.values c.if-not-values.false c.in_ok-values.ensures in
    IfOk-weaker c.one_is_inexact.result (λ b. Decides b (OneIsInexact E s.values)) (λ b. Decides b (HoldsInexact E s)) (λ b d. holds_decides E s b c.requires c.if-not-counted.false values d) c.one_is_inexact.ensures
