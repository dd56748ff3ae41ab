use Rattle.std.proofs.Common.{List, Bool, true, false, refl, subst}
use Rattle.go_assignments.specs.declared.defined.Offer.{Offer}
use Rattle.go_assignments.specs.inner.Definitions.{AcceptsAll}
use Rattle.go_assignments.proofs.Accepting.{outer_same}
use Rattle.go_assignments.proofs.Definitions.{accepted_defines, none_new, undefined_each, undefined_given}
use Rattle.go_assignments.proofs.defined.define.Goals as goal

pub returns-in_err-offers-clause-untyped : goal.returns-in_err-offers-clause-untyped
returns-in_err-offers-clause-untyped c = undefined_given c.args.env.now c.args.names.now c.args.exprs.now c.from_residual.result c.in_err-offers.field-0.0 c.from_residual.ensures.1 c.in_err-offers.ensures

pub returns-in_err-offers-clause-kept : goal.returns-in_err-offers-clause-kept
returns-in_err-offers-clause-kept c = outer_same c.args.env.now c.args.env.now c.requires.opened refl

pub returns-in_err-any-clause-untyped : goal.returns-in_err-any-clause-untyped
returns-in_err-any-clause-untyped c =
    let w = c.in_ok-offers.ensures in
    undefined_each c.args.env.now c.args.names.now c.args.exprs.now c.from_residual-in_err-any.result c.in_err-any.field-0.0 c.from_residual-in_err-any.ensures.1 w.0 c.in_ok-offers.offers c.items.result.now w.1 w.2 c.items.ensures c.accept_each.new.env
    c.in_err-any.ensures.accepts

pub returns-then-not-any-clause-untyped : goal.returns-then-not-any-clause-untyped
returns-then-not-any-clause-untyped c =
    let w = c.in_ok-offers.ensures in
    let a = subst (λ (b : Bool). AcceptsAll c.args.env.now c.items.result.now c.accept_each.new.env b) c.if-not-any.true c.in_ok-any.ensures.accepts in
    λ e t. none_new c.args.env.now c.args.names.now c.args.exprs.now w.0 c.in_ok-offers.offers w.1 w.2 c.accept_each.new.env (subst (λ (xs : List Offer). AcceptsAll c.args.env.now xs c.accept_each.new.env false) c.items.ensures a) t

pub returns-clause-ok : goal.returns-clause-ok
returns-clause-ok c =
    let w = c.in_ok-offers.ensures in
    let a = subst (λ (b : Bool). AcceptsAll c.args.env.now c.items.result.now c.accept_each.new.env b) c.if-not-any.false c.in_ok-any.ensures.accepts in
    accepted_defines c.args.env.now c.args.names.now c.args.exprs.now w.0 c.in_ok-offers.offers w.1 w.2 c.requires.opened c.accept_each.new.env (subst (λ (xs : List Offer). AcceptsAll c.args.env.now xs c.accept_each.new.env true) c.items.ensures a)
