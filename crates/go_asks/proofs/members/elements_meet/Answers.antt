use Rattle.std.proofs.Common.{arith}
use Rattle.go_nodes.proofs.EachItems.{each_done, each_next, each_not}
use Rattle.go_rules.specs.Asks.{ElementMeets}
use Rattle.go_syntax.specs.declared.types.InterfaceElem.{InterfaceElem, out-InterfaceElem}
use Rattle.go_type_terms.specs.Answers.{env_in}
use Rattle.go_asks.proofs.members.elements_meet.Goals as goal

pub returns-then-not-branch : goal.returns-then-not-branch
returns-then-not-branch c = each_not (λ (x : InterfaceElem). ElementMeets (env_in c.args.context.now) (out-InterfaceElem x)) c.args.elements.now c.loop-element.element-index c.element-item.result c.loop-element-test.true c.element-item.is c.loop-element.invariant c.in_ok-element_meets.field-0 c.if-not-branch.true c.in_ok-element_meets.ensures

pub loop-element-preserved : goal.loop-element-preserved
loop-element-preserved c = each_next (λ (x : InterfaceElem). ElementMeets (env_in c.args.context.now) (out-InterfaceElem x)) c.args.elements.now c.loop-element.element-index c.element-item.result c.loop-element-test.true c.element-item.is c.loop-element.invariant c.in_ok-element_meets.field-0 c.if-not-branch.false c.in_ok-element_meets.ensures

pub returns : goal.returns
returns c = each_done (λ (x : InterfaceElem). ElementMeets (env_in c.args.context.now) (out-InterfaceElem x)) c.args.elements.now c.loop-element.element-index (omega arith) c.loop-element.invariant
