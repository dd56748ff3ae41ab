use Rattle.std.proofs.Common.{◌∙◌, subst, sym}
use Rattle.go_blocks.proofs.EnteredBodies.{none_entered, one_entered}
use Rattle.go_blocks.specs.Bodies.{EntersWith, IsTypedWith, names_of, variables_of}
use Rattle.go_judged.specs.Judging.{Judges}
use Rattle.go_local_scopes.proofs.Standing.{kept_at, kept_on, kept_opened, reaches_at}
use Rattle.go_model.specs.declared.types.term.Signature.{out-Signature}
use Rattle.go_statement_rules.specs.Scopes.{Declares, opened}
use Rattle.go_switch_statements.proofs.go_walks_proofs.Entered.{inner_finds}
use Rattle.go_switch_statements.specs.go_walks.Below.{blocks_of}
use Rattle.go_blocks.proofs.bodies.entered.Goals as goal

pub returns-then-not-declared-clause-judged : goal.returns-then-not-declared-clause-judged
returns-then-not-declared-clause-judged c = λ E s at.
    let B = blocks_of c.args.frame.now in
    let o = opened s in
    let f = c.args.func.now in
    let ts = c.args.received.now in
    let h = c.args.signed.now in
    let ss = c.args.statements.now in
    let t = c.declare_variables.new.env.opened in
    subst (Judges E B (IsTypedWith E B o f ts h c.args.start ss) (EntersWith o f ts h c.args.start ss)) (sym c.tested.ensures)
    (none_entered E B f o ts h c.args.start ss c.in_ok-declared.declared c.if-not-declared.true t
    (reaches_at E o c.args.env.now at c.in_ok-declared.declared (λ x. Declares x (names_of f) (variables_of ts h)) t c.in_ok-declared.ensures.declared))

pub place_in-requires : goal.place_in-requires
place_in-requires c = kept_opened c.args.env.now c.declare_variables.new.env c.in_ok-declared.ensures.kept

pub returns-in_err-place-clause-kept : goal.returns-in_err-place-clause-kept
returns-in_err-place-clause-kept c = kept_on c.args.env.now c.declare_variables.new.env c.place_in.new.env c.in_ok-declared.ensures.kept c.in_err-place.ensures.kept

pub returns-clause-kept : goal.returns-clause-kept
returns-clause-kept c = kept_on c.args.env.now c.declare_variables.new.env c.place_in.new.env c.in_ok-declared.ensures.kept c.in_ok-place.ensures.kept

pub returns-clause-judged : goal.returns-clause-judged
returns-clause-judged c = λ E s at.
    let outer = c.args.frame.now in
    let B = blocks_of outer in
    let o = opened s in
    let f = c.args.func.now in
    let ts = c.args.received.now in
    let h = c.args.signed.now in
    let ss = c.args.statements.now in
    let mid = c.declare_variables.new.env in
    let t = mid.opened in
    let u = c.place_in.new.env.opened in
    subst (Judges E B (IsTypedWith E B o f ts h c.args.start ss) (EntersWith o f ts h c.args.start ss)) (sym c.found.ensures)
    (one_entered E B f o ts h c.args.start ss c.in_ok-declared.declared c.if-not-declared.false t
    (reaches_at E o c.args.env.now at c.in_ok-declared.declared (λ x. Declares x (names_of f) (variables_of ts h)) t c.in_ok-declared.ensures.declared)
    u c.in_ok-place.place
    (inner_finds E outer c.inner-within.result (out-Signature h).results c.args.start c.inner-within.ensures.blocks (c.inner-within.ensures.results ∙ c.items.ensures) c.inner-within.ensures.first t ss u c.in_ok-place.place
    (c.in_ok-place.ensures.runs E t (kept_at E o c.args.env.now mid c.in_ok-declared.ensures.kept at))))
