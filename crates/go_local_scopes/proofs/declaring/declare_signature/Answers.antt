use Rattle.go_local_scopes.proofs.Declared.{declared_as}
use Rattle.go_local_scopes.proofs.Standing.{kept_none}
use Rattle.go_local_scopes.specs.Slots.{names_in}
use Rattle.go_model.specs.declared.types.term.Signature.{out-Signature as out-Signed}
use Rattle.go_rules.specs.declared.seen.Seen.TheVariants as seen
use Rattle.go_statement_rules.specs.Scopes.{locals, parameter_slots, result_slots}
use Rattle.go_syntax.specs.declared.types.Signature.{out-Signature}
use Rattle.std.proofs.Common.{◌++◌, ◌∙◌, ap, sym}
use Rattle.std.proofs.lemmas.List.{map-append}
use Rattle.go_local_scopes.proofs.declaring.declare_signature.Goals as goal

pub returns-in_err-push_signature-clause-kept : goal.returns-in_err-push_signature-clause-kept
returns-in_err-push_signature-clause-kept c = kept_none c.args.env.now c.requires

pub returns-in_err-push_locals-clause-kept : goal.returns-in_err-push_locals-clause-kept
returns-in_err-push_locals-clause-kept c = kept_none c.args.env.now c.requires

pub returns-in_err-push_locals-2-clause-kept : goal.returns-in_err-push_locals-2-clause-kept
returns-in_err-push_locals-2-clause-kept c = kept_none c.args.env.now c.requires

pub returns-clause-declared : goal.returns-clause-declared
returns-clause-declared c =
    let g = c.args.signature.now in
    let h = c.args.signed.now in
    let slots = parameter_slots (out-Signature g).parameters ++ result_slots (out-Signature g).result in
    declared_as c.args.env.now.opened c.declare_all.new.env.opened (names_in c.items-3.result.now) slots c.items-4.result.now (locals ((out-Signed h).params ++ (out-Signed h).results)) c.declare_all.result
    (ap names_in c.items-3.ensures ∙ c.in_ok-push_signature.ensures ∙ ap (λ ns. names_in ns ++ slots) c.new-names.ensures)
    (c.items-4.ensures ∙ c.in_ok-push_locals-2.ensures ∙ ap (λ ms. ms ++ locals c.items-2.result.now) (c.in_ok-push_locals.ensures ∙ ap (λ ms. ms ++ locals c.items.result.now) c.new-meanings.ensures)
    ∙ ap (λ ts. locals ts ++ locals c.items-2.result.now) c.items.ensures ∙ ap (λ ts. locals (out-Signed h).params ++ locals ts) c.items-2.ensures ∙ sym (map-append seen.Local (out-Signed h).params (out-Signed h).results))
    c.declare_all.ensures.declared
