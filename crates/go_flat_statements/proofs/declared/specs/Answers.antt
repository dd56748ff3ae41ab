use Rattle.go_flat_statements.proofs.Declaring.{SpecsOn, form_at, forms_length, local_at, specs_begin, specs_done, specs_more, specs_not}
use Rattle.go_local_scopes.proofs.Standing.{kept_at, kept_none, kept_on, kept_opened}
use Rattle.go_local_specs.specs.LocalForms.{form_in, forms_in}
use Rattle.go_walks.specs.Below.{blocks_of, enclosing_of}
use Rattle.go_judged.proofs.Joining.{judged_to_same}
use Rattle.go_judged.specs.Judging.{tested}
use Rattle.go_statement_rules.specs.Statements.{AreDeclared}
use Rattle.go_untyped_places.specs.Parts.{InSpecs}
use Rattle.std.proofs.Common.{true, subst, sym, arith}
use Rattle.go_flat_statements.proofs.declared.specs.Goals as goal

pub loop-declaration-init : goal.loop-declaration-init
loop-declaration-init g c =
    let w = c.args.walk.now.frame.now in
    let B = blocks_of w in
    let r = enclosing_of w in
    record {
      kept = kept_none c.args.env.now c.requires.opened;
      some = c.requires.opened;
      on = λ l E s at. subst (λ t. SpecsOn E B r s (forms_in c.args.listed.now) t (forms_in c.args.listed.now)) (sym at.scopes) (specs_begin E B r s (forms_in c.args.listed.now));
    }

pub loop-declaration-preserved : goal.loop-declaration-preserved
loop-declaration-preserved g c =
    let w = c.args.walk.now.frame.now in
    let B = blocks_of w in
    let r = enclosing_of w in
    let ds = c.args.listed.now in
    let i = c.loop-declaration.declaration-index in
    let d = c.declaration-item.result in
    let x = c.loop-declaration.env in
    let y = c.spec.new.env in
    let h = c.loop-declaration-test.true in
    let n = forms_length ds in
    record {
      kept = kept_on c.args.env.now x y c.loop-declaration.invariant.kept c.in_ok-one.ensures.kept;
      some = kept_opened x y c.in_ok-one.ensures.kept;
      on = λ l E s at. specs_more E B r s (forms_in ds) x.opened i (form_in d) (omega (arith, h, n)) (form_at ds i d c.declaration-item.is) (c.loop-declaration.invariant.on l E s at) c.in_ok-one.one c.if-not-typed.false y.opened
          (c.in_ok-one.ensures.judged (local_at ds i d h c.declaration-item.is l) E x.opened (kept_at E s c.args.env.now x c.loop-declaration.invariant.kept at));
    }

pub returns-in_err-one-clause-kept : goal.returns-in_err-one-clause-kept
returns-in_err-one-clause-kept g c = kept_on c.args.env.now c.loop-declaration.env c.spec.new.env c.loop-declaration.invariant.kept c.in_err-one.ensures.kept

pub returns-then-not-typed-clause-kept : goal.returns-then-not-typed-clause-kept
returns-then-not-typed-clause-kept g c = kept_on c.args.env.now c.loop-declaration.env c.spec.new.env c.loop-declaration.invariant.kept c.in_ok-one.ensures.kept

pub returns-then-not-typed-clause-judged : goal.returns-then-not-typed-clause-judged
returns-then-not-typed-clause-judged g c = λ l E s at.
    let w = c.args.walk.now.frame.now in
    let B = blocks_of w in
    let r = enclosing_of w in
    let ds = c.args.listed.now in
    let i = c.loop-declaration.declaration-index in
    let d = c.declaration-item.result in
    let x = c.loop-declaration.env in
    let y = c.spec.new.env in
    let h = c.loop-declaration-test.true in
    let n = forms_length ds in
    specs_not E B r s (forms_in ds) x.opened i (form_in d) (omega (arith, h, n)) (form_at ds i d c.declaration-item.is) (c.loop-declaration.invariant.on l E s at) c.in_ok-one.one c.if-not-typed.true y.opened
    (c.in_ok-one.ensures.judged (local_at ds i d h c.declaration-item.is l) E x.opened (kept_at E s c.args.env.now x c.loop-declaration.invariant.kept at)) y.opened

pub returns-clause-judged : goal.returns-clause-judged
returns-clause-judged g c = λ l E s at.
    let w = c.args.walk.now.frame.now in
    let B = blocks_of w in
    let r = enclosing_of w in
    let fs = forms_in c.args.listed.now in
    let t = c.loop-declaration.env.opened in
    let h = c.loop-declaration-test.false in
    let n = forms_length c.args.listed.now in
    judged_to_same E B (AreDeclared E B r s fs) t (InSpecs E B r s fs) (tested true) c.tested.result c.tested.ensures
    (specs_done E B r s fs t c.loop-declaration.declaration-index (omega (arith, h, n)) (c.loop-declaration.invariant.on l E s at))
