use Rattle.go_rules.specs.declared.predeclared.Predeclared.TheVariants as p
use Rattle.go_rules.specs.declared.seen.Seen.TheVariants as seen
use Rattle.go_assignments.specs.inner.Definitions.{accepts_old}
use Rattle.go_assignments.proofs.Accepting.{added_new, added_none, new_refused, old_refused, outer_added, outer_same}
use Rattle.go_assignments.proofs.defined.accept_untyped.Goals as goal

pub returns-in_err-new-clause-kept : goal.returns-in_err-new-clause-kept
returns-in_err-new-clause-kept c = outer_same c.args.env.now c.add.new.env c.requires.opened c.in_err-new.ensures.err

pub returns-then-new : goal.returns-then-new
returns-then-new c =
    let s = c.args.env.now in
    let n = c.args.offer.now.name.now.text in
    let w = added_new s c.add.new.env n (seen.Universe p.Nil) c.in_ok-new.new c.if-new.true c.in_ok-new.ensures.ok in
    record { accepts = new_refused s c.args.offer.now c.requires.untyped w.0; kept = outer_added s c.add.new.env n (seen.Universe p.Nil) c.requires.opened w.1 }

pub returns-then-offer : goal.returns-then-offer
returns-then-offer c =
    let s = c.args.env.now in
    let n = c.args.offer.now.name.now.text in
    let w = added_none s c.add.new.env n (seen.Universe p.Nil) c.in_ok-new.new c.if-new.false c.in_ok-new.ensures.ok in
    record { accepts = accepts_old w.0 c.if-offer.true w.1; kept = outer_same s c.add.new.env c.requires.opened w.1 }

pub returns : goal.returns
returns c =
    let s = c.args.env.now in
    let n = c.args.offer.now.name.now.text in
    let w = added_none s c.add.new.env n (seen.Universe p.Nil) c.in_ok-new.new c.if-new.false c.in_ok-new.ensures.ok in
    record { accepts = old_refused s c.args.offer.now c.requires.untyped c.if-offer.false; kept = outer_same s c.add.new.env c.requires.opened w.1 }
