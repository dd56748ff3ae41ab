use Rattle.std.proofs.Common.{ℕ, List, subst, arith}
use Rattle.go_base.specs.Growing.{Adds}
use Rattle.go_literals.proofs.KeyNames.{once_done, once_next, once_twice, once_unnamed}
use Rattle.go_literals.proofs.once.are_keyed_once.Goals as goal

pub returns-in-None : goal.returns-in-None
returns-in-None c = once_unnamed c.loop-element.seen.keys c.args.elements.now c.loop-element.element-index c.element-item.result c.loop-element-test.true c.element-item.is c.loop-element.invariant c.in-None.ensures

pub returns-then-not-branch : goal.returns-then-not-branch
returns-then-not-branch c = once_twice c.loop-element.seen.keys c.args.elements.now c.loop-element.element-index c.element-item.result c.loop-element-test.true c.element-item.is c.loop-element.invariant c.add_new.new.texts.keys c.in-Some.name.now c.in_ok-add_new.field-0 c.in-Some.ensures c.if-not-branch.true
    (subst (λ (t : List ℕ). Adds c.loop-element.seen.keys t c.add_new.new.texts.keys c.in_ok-add_new.field-0) c.bytes.ensures c.in_ok-add_new.ensures)

pub loop-element-preserved : goal.loop-element-preserved
loop-element-preserved c = once_next c.loop-element.seen.keys c.args.elements.now c.loop-element.element-index c.element-item.result c.loop-element-test.true c.element-item.is c.loop-element.invariant c.add_new.new.texts.keys c.in-Some.name.now c.in_ok-add_new.field-0 c.in-Some.ensures c.if-not-branch.false
    (subst (λ (t : List ℕ). Adds c.loop-element.seen.keys t c.add_new.new.texts.keys c.in_ok-add_new.field-0) c.bytes.ensures c.in_ok-add_new.ensures)

pub returns : goal.returns
returns c = once_done c.loop-element.seen.keys c.args.elements.now c.loop-element.element-index (omega arith) c.loop-element.invariant
