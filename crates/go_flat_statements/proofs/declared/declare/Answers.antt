use Rattle.go_declarations.specs.Forms.{form_of}
use Rattle.go_local_scopes.proofs.Declared.{declared_as}
use Rattle.go_local_scopes.specs.Slots.{names_in}
use Rattle.go_statement_rules.specs.Scopes.{local_of}
use Rattle.go_statement_rules.specs.Statements.{some_names}
use Rattle.go_typings.specs.Declarations.{names_of}
use Rattle.std.proofs.Common.{◌++◌, ◌∙◌, ap, map}
use Rattle.go_local_scopes.proofs.Standing.{kept_none}
use Rattle.go_flat_statements.proofs.declared.declare.Goals as goal

pub returns-clause-declared : goal.returns-clause-declared
returns-clause-declared c = λ l.
    let f = form_of c.args.form in
    declared_as c.args.env.now.opened c.declare_all.new.env.opened (names_in c.items.result.now) (some_names (names_of f)) c.items-2.result.now (map local_of c.args.objects.now) c.declare_all.result
    (ap names_in c.items.ensures ∙ c.in_ok-push_form.ensures l ∙ ap (λ ns. names_in ns ++ some_names (names_of f)) c.new-names.ensures)
    (c.items-2.ensures ∙ c.in_ok-push_entities.ensures ∙ ap (λ ms. ms ++ map local_of c.args.objects.now) c.new-meanings.ensures)
    c.declare_all.ensures.declared

pub returns-in_err-push_form-clause-kept : goal.returns-in_err-push_form-clause-kept
returns-in_err-push_form-clause-kept c = kept_none c.args.env.now c.requires

pub returns-in_err-push_entities-clause-kept : goal.returns-in_err-push_entities-clause-kept
returns-in_err-push_entities-clause-kept c = kept_none c.args.env.now c.requires
