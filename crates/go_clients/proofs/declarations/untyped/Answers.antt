use Rattle.std.proofs.Common.{ap, subst, sym, ◌∙◌}
use Rattle.go_client_typings.specs.Bodies.{AreTypedBodies, HasBody}
use Rattle.go_clients.proofs.JudgedBodies.{declaration_told, moved_to}
use Rattle.go_clients.specs.inner.Told.{TellsDeclaration, turned}
use Rattle.go_declarations.specs.Forms.{form_of}
use Rattle.go_declarations.specs.Listings.{declaration_of}
use Rattle.go_judged.specs.Judging.{Judges}
use Rattle.go_local_scopes.specs.States.{around}
use Rattle.go_rules.specs.Scopes.{Scopes as Known}
use Rattle.go_clients.proofs.declarations.untyped.Goals as goal

pub bodies-requires : goal.bodies-requires
bodies-requires c =
    let d = declaration_of c.args.declaration.now in
    ap (λ (e : Known). e.opened) (moved_to c.args.env.now c.turn_to.new.self c.set_iota.new.self d c.iota.result c.turn_to.ensures c.set_iota.ensures c.iota.ensures) ∙ c.requires

pub returns-in_err-judged-clause-moved : goal.returns-in_err-judged-clause-moved
returns-in_err-judged-clause-moved c =
    let d = declaration_of c.args.declaration.now in
    c.bodies.ensures.same ∙ moved_to c.args.env.now c.turn_to.new.self c.set_iota.new.self d c.iota.result c.turn_to.ensures c.set_iota.ensures c.iota.ensures

pub returns-clause-moved : goal.returns-clause-moved
returns-clause-moved c =
    let d = declaration_of c.args.declaration.now in
    c.bodies.ensures.same ∙ moved_to c.args.env.now c.turn_to.new.self c.set_iota.new.self d c.iota.result c.turn_to.ensures c.set_iota.ensures c.iota.ensures

pub returns-clause-told : goal.returns-clause-told
returns-clause-told c =
    let d = declaration_of c.args.declaration.now in
    let bs = c.args.blocks.now.list.now in
    let e = turned c.args.env.now d in
    let moved = moved_to c.args.env.now c.turn_to.new.self c.set_iota.new.self d c.iota.result c.turn_to.ensures c.set_iota.ensures c.iota.ensures in
    subst (TellsDeclaration (around e) bs d) (sym c.told.ensures)
    (declaration_told (around e) bs d c.in_ok-judged.judged
    (subst (λ (k : Known). Judges (around k) bs (AreTypedBodies (around k) bs (form_of c.args.declaration.now.form)) (HasBody (around k) bs (form_of c.args.declaration.now.form)) c.in_ok-judged.judged) moved c.in_ok-judged.ensures.judged))
