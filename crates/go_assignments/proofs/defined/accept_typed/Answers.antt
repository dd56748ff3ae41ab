use Rattle.std.proofs.Common.{sym, ap, ◌∙◌, refl}
use Rattle.go_model.specs.declared.types.term.Term.{Term}
use Rattle.go_rules.specs.Expressions.{is_blank}
use Rattle.go_rules.specs.Scopes.{with_meaning}
use Rattle.go_rules.specs.declared.seen.Seen.TheVariants as seen
use Rattle.go_assignments.specs.inner.Definitions.{accepts_blank, accepts_new, accepts_old}
use Rattle.go_assignments.proofs.Accepting.{added_new, added_none, outer_added, outer_same, typed_refused}
use Rattle.go_assignments.proofs.defined.accept_typed.Goals as goal

pub returns-then-is_blank : goal.returns-then-is_blank
returns-then-is_blank c = record {
  accepts = accepts_blank (ap is_blank (sym c.bytes.ensures) ∙ sym c.is_blank.ensures ∙ c.if-is_blank.true) c.requires.typed refl;
  kept = outer_same c.args.env.now c.args.env.now c.requires.opened refl;
}

pub returns-in_err-copy-clause-kept : goal.returns-in_err-copy-clause-kept
returns-in_err-copy-clause-kept c = outer_same c.args.env.now c.args.env.now c.requires.opened refl

pub returns-in_err-new-clause-kept : goal.returns-in_err-new-clause-kept
returns-in_err-new-clause-kept c = outer_same c.args.env.now c.add.new.env c.requires.opened c.in_err-new.ensures.err

pub returns-then-new : goal.returns-then-new
returns-then-new c =
    let s = c.args.env.now in
    let n = c.args.offer.now.name.now.text in
    let w = added_new s c.add.new.env n (seen.Local c.in_ok-copy.field-0) c.in_ok-new.new c.if-new.true c.in_ok-new.ensures.ok in
    record {
      accepts =
          accepts_new (ap is_blank (sym c.bytes.ensures) ∙ sym c.is_blank.ensures ∙ c.if-is_blank.false) w.0 c.requires.typed (w.1 ∙ ap (λ (t : Term). with_meaning s n (seen.Local t)) c.in_ok-copy.ensures);
      kept = outer_added s c.add.new.env n (seen.Local c.in_ok-copy.field-0) c.requires.opened w.1;
    }

pub returns-then-offer : goal.returns-then-offer
returns-then-offer c =
    let s = c.args.env.now in
    let n = c.args.offer.now.name.now.text in
    let w = added_none s c.add.new.env n (seen.Local c.in_ok-copy.field-0) c.in_ok-new.new c.if-new.false c.in_ok-new.ensures.ok in
    record { accepts = accepts_old w.0 c.if-offer.true w.1; kept = outer_same s c.add.new.env c.requires.opened w.1 }

pub returns : goal.returns
returns c =
    let s = c.args.env.now in
    let n = c.args.offer.now.name.now.text in
    let w = added_none s c.add.new.env n (seen.Local c.in_ok-copy.field-0) c.in_ok-new.new c.if-new.false c.in_ok-new.ensures.ok in
    record {
      accepts = typed_refused s c.args.offer.now (ap is_blank (sym c.bytes.ensures) ∙ sym c.is_blank.ensures ∙ c.if-is_blank.false) w.0 c.if-offer.false;
      kept = outer_same s c.add.new.env c.requires.opened w.1;
    }
