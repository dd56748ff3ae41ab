use Rattle.go_judged.specs.Judging.{Judges}
use Rattle.go_local_scopes.proofs.Standing.{kept_at, kept_on, kept_opened, reaches_at}
use Rattle.go_model.specs.declared.types.term.Signature.{out-Signature}
use Rattle.go_statement_rules.specs.Scopes.{Declares, locals, opened, parameter_slots, result_slots}
use Rattle.go_syntax.specs.declared.types.Signature.{out-Signature as out-Sig}
use Rattle.go_walks.proofs.Entered.{inner_finds, none_entered, one_entered}
use Rattle.go_walks.specs.Below.{blocks_of}
use Rattle.go_walks.specs.Entering.{Enters, IsTypedIn}
use Rattle.std.proofs.Common.{◌++◌, ◌∙◌, subst, sym}
use Rattle.go_walks.proofs.walk.Walk.entered.Goals as goal

pub returns-then-not-declared-clause-judged : goal.returns-then-not-declared-clause-judged
returns-then-not-declared-clause-judged g c = λ E s at.
    let B = blocks_of c.args.self.now.frame.now in
    let o = opened s in
    let f = c.args.signature.now in
    let h = c.args.signed.now in
    let t = c.declare_signature.new.env.opened in
    subst (Judges E B (IsTypedIn E B o f h c.args.start c.args.statements.now) (Enters o f h c.args.start c.args.statements.now)) (sym c.tested.ensures)
    (none_entered E B o f h c.args.start c.args.statements.now c.in_ok-declared.declared c.if-not-declared.true t
    (reaches_at E o c.args.env.now at c.in_ok-declared.declared (λ x. Declares x (parameter_slots (out-Sig f).parameters ++ result_slots (out-Sig f).result) (locals ((out-Signature h).params ++ (out-Signature h).results))) t c.in_ok-declared.ensures.declared))

pub run-requires-clause-opened : goal.run-requires-clause-opened
run-requires-clause-opened g c = kept_opened c.args.env.now c.declare_signature.new.env c.in_ok-declared.ensures.kept

pub returns-in_err-place-clause-kept : goal.returns-in_err-place-clause-kept
returns-in_err-place-clause-kept g c = kept_on c.args.env.now c.declare_signature.new.env c.run.new.env c.in_ok-declared.ensures.kept c.in_err-place.ensures.kept

pub returns-clause-kept : goal.returns-clause-kept
returns-clause-kept g c = kept_on c.args.env.now c.declare_signature.new.env c.run.new.env c.in_ok-declared.ensures.kept c.in_ok-place.ensures.kept

pub returns-clause-judged : goal.returns-clause-judged
returns-clause-judged g c = λ E s at.
    let outer = c.args.self.now.frame.now in
    let B = blocks_of outer in
    let o = opened s in
    let f = c.args.signature.now in
    let h = c.args.signed.now in
    let ss = c.args.statements.now in
    let mid = c.declare_signature.new.env in
    let t = mid.opened in
    let u = c.run.new.env.opened in
    subst (Judges E B (IsTypedIn E B o f h c.args.start ss) (Enters o f h c.args.start ss)) (sym c.found.ensures)
    (one_entered E B o f h c.args.start ss c.in_ok-declared.declared c.if-not-declared.false t
    (reaches_at E o c.args.env.now at c.in_ok-declared.declared (λ x. Declares x (parameter_slots (out-Sig f).parameters ++ result_slots (out-Sig f).result) (locals ((out-Signature h).params ++ (out-Signature h).results))) t c.in_ok-declared.ensures.declared)
    u c.in_ok-place.place
    (inner_finds E outer c.inner-inner.result (out-Signature h).results c.args.start c.inner-inner.ensures.blocks (c.inner-inner.ensures.results ∙ c.items.ensures) c.inner-inner.ensures.first t ss u c.in_ok-place.place
    (c.in_ok-place.ensures.runs E t (kept_at E o c.args.env.now mid c.in_ok-declared.ensures.kept at))))
