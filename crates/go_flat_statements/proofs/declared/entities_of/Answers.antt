use Rattle.go_declarations.specs.Forms.{form_of}
use Rattle.go_local_specs.specs.LocalForms.{GivesLocal, objects_in}
use Rattle.go_rules.specs.Scopes.{Scopes as Known, env_of}
use Rattle.go_usability.specs.Answers.{Gives}
use Rattle.std.proofs.Common.{◌∙◌, ap, subst}
use Rattle.std.specs.Prelude.{IfOk}
use Rattle.go_flat_statements.proofs.declared.entities_of.Goals as goal

pub returns-clause-same : goal.returns-clause-same
returns-clause-same c =
    let e = c.args.env.now in
    c.set_iota-2.ensures ∙ ap (λ (k : Known). record k { iota = c.iota-before.result }) c.set_iota.ensures ∙ ap (λ i. record e { iota = i }) c.iota-before.ensures

pub returns-clause-given : goal.returns-clause-given
returns-clause-given c = λ l.
    let e = c.args.env.now in
    let f = form_of c.args.form in
    subst (λ (k : Known). IfOk c.entities_here-given.result (Gives (λ x. GivesLocal (env_of k) f (objects_in x)))) (c.set_iota.ensures ∙ ap (λ i. record e { iota = i }) c.iota.ensures) (c.entities_here-given.ensures l)
