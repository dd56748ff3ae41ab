use Rattle.std.proofs.Common.{drop}
use Rattle.go_nodes.proofs.EachItems.{EachFrom}
use Rattle.go_rules.specs.Asks.{ElementMeets}
use Rattle.go_syntax.specs.declared.types.InterfaceElem.{InterfaceElem, out-InterfaceElem}
use Rattle.go_type_terms.specs.Answers.{env_in}
use Rattle.go_asks.proofs.members.elements_meet.Given as goal

abbrev pub invariant-loop-element : goal.invariant-loop-element
invariant-loop-element l = EachFrom (λ (x : InterfaceElem). ElementMeets (env_in l.context) (out-InterfaceElem x)) (drop l.element-index l.elements) l.elements
