use Rattle.go_local_scopes.proofs.Declared.{declared_as}
use Rattle.go_local_scopes.proofs.Standing.{kept_none}
use Rattle.go_local_scopes.specs.Slots.{names_in}
use Rattle.go_statement_rules.specs.Scopes.{locals}
use Rattle.go_statement_rules.specs.Statements.{some_names}
use Rattle.std.proofs.Common.{◌++◌, ◌∙◌, ap, length, take}
use Rattle.go_nested_statements.proofs.ranges.declare.Goals as goal

pub returns-in_err-push_names-clause-kept : goal.returns-in_err-push_names-clause-kept
returns-in_err-push_names-clause-kept c = kept_none c.args.env.now c.requires.opened

pub returns-in_err-push_locals-clause-kept : goal.returns-in_err-push_locals-clause-kept
returns-in_err-push_locals-clause-kept c = kept_none c.args.env.now c.requires.opened

pub returns-clause-declared : goal.returns-clause-declared
returns-clause-declared c =
    let ns = c.args.names.now in
    let ts = c.args.terms.now in
    declared_as c.args.env.now.opened c.declare_all.new.env.opened (names_in c.items.result.now) (some_names ns) c.items-2.result.now (locals (take (length ns) ts)) c.declare_all.result
    (ap names_in c.items.ensures ∙ c.in_ok-push_names.ensures ∙ ap (λ zs. names_in zs ++ some_names ns) c.new-slots.ensures)
    (c.items-2.ensures ∙ c.in_ok-push_locals.ensures ∙ ap (λ ms. ms ++ locals (take (length ns) ts)) c.new-meanings.ensures)
    c.declare_all.ensures.declared
