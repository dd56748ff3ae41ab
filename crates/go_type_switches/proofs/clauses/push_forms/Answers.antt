use Rattle.std.proofs.Common.{List, Option, Some, ◌++◌, refl, ap, ◌∙◌}
use Rattle.go_model.specs.declared.types.term.Term.{Term}
use Rattle.go_type_terms.specs.Answers.{env_in}
use Rattle.go_type_switches.proofs.Listing.{pushes_err, pushes_some}
use Rattle.go_type_switches.proofs.clauses.push_forms.Goals as goal

pub returns-in_err-listed : goal.returns-in_err-listed
returns-in_err-listed c =
    pushes_err (env_in c.args.context.now) c.args.interface.now (Some c.args.forms.now) c.args.all.now c.args.all.now c.args.forms.now refl c.in_err-listed.field-0.0 c.from_residual.result c.from_residual.ensures.1 c.in_err-listed.ensures

pub returns : goal.returns
returns c =
    pushes_some (env_in c.args.context.now) c.args.interface.now (Some c.args.forms.now) c.args.all.now c.append.new.all c.args.forms.now refl c.in_ok-listed.listed c.in_ok-listed.ensures
    (c.in_ok-append.ensures ∙ ap (λ (xs : List (Option Term)). c.args.all.now ++ xs) c.items.ensures)
