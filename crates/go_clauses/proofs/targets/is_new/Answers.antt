use Rattle.std.proofs.Common.{sym, ap, ◌∙◌}
use Rattle.go_rules.specs.Expressions.{is_blank}
use Rattle.go_clauses.proofs.Ranging.{new_begins, new_found, new_none, new_passed}
use Rattle.go_clauses.proofs.targets.is_new.Goals as goal

pub loop-name-init : goal.loop-name-init
loop-name-init c = new_begins c.args.names.now

pub returns-then-not-is_blank : goal.returns-then-not-is_blank
returns-then-not-is_blank c =
    new_found c.args.names.now c.loop-name.name-index c.loop-name.invariant c.name-item.result c.loop-name-test.true c.name-item.is (ap is_blank (sym c.bytes.ensures) ∙ sym c.is_blank.ensures ∙ c.if-not-is_blank.true)

pub loop-name-preserved : goal.loop-name-preserved
loop-name-preserved c =
    new_passed c.args.names.now c.loop-name.name-index c.loop-name.invariant c.name-item.result c.loop-name-test.true c.name-item.is (ap is_blank (sym c.bytes.ensures) ∙ sym c.is_blank.ensures ∙ c.if-not-is_blank.false)

pub returns : goal.returns
returns c = new_none c.args.names.now c.loop-name.name-index c.loop-name.invariant c.loop-name-test.false
