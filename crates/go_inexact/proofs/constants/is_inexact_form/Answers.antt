use Rattle.std.proofs.Common.{ap, subst, sym}
use Rattle.std.specs.Prelude.{IfOk}
use Rattle.std.proofs.lemmas.Result.{IfOk-weaker}
use Rattle.go_base.specs.Keys.{item_of}
use Rattle.go_declarations.specs.Forms.{form_of, spec_of}
use Rattle.go_declarations.specs.declared.form.Form.{Form}
use Rattle.go_exposed.specs.BeyondProfile.{GivesInexact, HoldsInexact}
use Rattle.go_inexact.proofs.Told.{form_given, form_held, form_other}
use Rattle.go_inexact.specs.Values.{IsInexactForm}
use Rattle.go_selectors.specs.Answers.{Decides}
use Rattle.go_type_terms.specs.Answers.{env_in}
use Rattle.go_typings.specs.Declarations.{constants}
use Rattle.go_inexact.proofs.constants.is_inexact_form.Goals as goal

pub returns-in-Some : goal.returns-in-Some
returns-in-Some c =
    let E = env_in c.args.context.now in
    let k = c.in-Constants.constants in
    let s = spec_of k in
    subst (λ (f : Form). IfOk c.gives_inexact.result (λ b. Decides b (IsInexactForm E (form_of f)))) (sym c.in-Constants.is)
    (IfOk-weaker c.gives_inexact.result (λ b. Decides b (GivesInexact E s)) (λ b. Decides b (IsInexactForm E (constants s k.place))) (form_given E s k.place c.in-Some.form.now (ap item_of c.in-Some.is)) c.gives_inexact.ensures)

pub returns-in-None : goal.returns-in-None
returns-in-None c =
    let E = env_in c.args.context.now in
    let k = c.in-Constants.constants in
    let s = spec_of k in
    subst (λ (f : Form). IfOk c.holds_inexact.result (λ b. Decides b (IsInexactForm E (form_of f)))) (sym c.in-Constants.is)
    (IfOk-weaker c.holds_inexact.result (λ b. Decides b (HoldsInexact E s)) (λ b. Decides b (IsInexactForm E (constants s k.place))) (form_held E s k.place (ap item_of c.in-None.is)) c.holds_inexact.ensures)

pub returns-in_default : goal.returns-in_default
returns-in_default c = form_other (env_in c.args.context.now) c.args.form c.in_default.not-Constants
