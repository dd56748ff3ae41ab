use Rattle.std.proofs.Common.{◌++◌, ◌∙◌, ap}
use Rattle.go_blocks.proofs.Named.{locals_pushed, names_pushed}
use Rattle.go_blocks.specs.Bodies.{names_of, variables_of}
use Rattle.go_local_scopes.proofs.Declared.{declared_as}
use Rattle.go_local_scopes.proofs.Standing.{kept_none}
use Rattle.go_local_scopes.specs.Slots.{names_in}
use Rattle.go_model.specs.declared.types.term.Signature.{out-Signature as out-Signed}
use Rattle.go_statement_rules.specs.Functions.{receiver_slots}
use Rattle.go_statement_rules.specs.Scopes.{locals, parameter_slots, result_slots}
use Rattle.go_syntax.specs.declared.types.Signature.{out-Signature}
use Rattle.go_blocks.proofs.bodies.declare_variables.Goals as goal

pub returns-in_err-push_receiver-clause-kept : goal.returns-in_err-push_receiver-clause-kept
returns-in_err-push_receiver-clause-kept c = kept_none c.args.env.now c.requires

pub returns-in_err-push_signature-clause-kept : goal.returns-in_err-push_signature-clause-kept
returns-in_err-push_signature-clause-kept c = kept_none c.args.env.now c.requires

pub returns-in_err-push_locals-clause-kept : goal.returns-in_err-push_locals-clause-kept
returns-in_err-push_locals-clause-kept c = kept_none c.args.env.now c.requires

pub returns-in_err-push_locals-2-clause-kept : goal.returns-in_err-push_locals-2-clause-kept
returns-in_err-push_locals-2-clause-kept c = kept_none c.args.env.now c.requires

pub returns-in_err-push_locals-3-clause-kept : goal.returns-in_err-push_locals-3-clause-kept
returns-in_err-push_locals-3-clause-kept c = kept_none c.args.env.now c.requires

pub returns-clause-declared : goal.returns-clause-declared
returns-clause-declared c =
    let f = c.args.func.now in
    let h = out-Signed c.args.signed.now in
    let ts = c.args.received.now in
    let g = out-Signature f.signature in
    let one = c.push_locals.new.meanings in
    let two = c.push_locals-2.new.meanings in
    declared_as c.args.env.now.opened c.declare_all.new.env.opened (names_in c.items-3.result.now) (names_of f) c.items-4.result.now (variables_of ts c.args.signed.now) c.declare_all.result
    (ap names_in c.items-3.ensures ∙ names_pushed (names_in c.new-names.result) (names_in c.push_receiver.new.slots) (names_in c.push_signature.new.slots) (receiver_slots f.receiver) (parameter_slots g.parameters) (result_slots g.result) (ap names_in c.new-names.ensures) c.in_ok-push_receiver.ensures c.in_ok-push_signature.ensures)
    (c.items-4.ensures ∙ locals_pushed c.new-meanings.result one two c.push_locals-3.new.meanings ts h.params h.results c.new-meanings.ensures c.in_ok-push_locals.ensures (c.in_ok-push_locals-2.ensures ∙ ap (λ us. one ++ locals us) c.items.ensures) (c.in_ok-push_locals-3.ensures ∙ ap (λ us. two ++ locals us) c.items-2.ensures))
    c.declare_all.ensures.declared
