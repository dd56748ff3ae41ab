use Rattle.std.proofs.Common.{ℕ, List, ap, ◌∙◌, subst}
use Rattle.go_base.specs.Lists.{Each, Once}
use Rattle.go_nodes.specs.Trees.{texts_of}
use Rattle.go_rules.specs.Asks.{ElementMeets, methods_names}
use Rattle.go_selectors.specs.Answers.{Decides}
use Rattle.go_syntax.specs.declared.types.InterfaceElem.{InterfaceElem, out-InterfaceElem}
use Rattle.go_type_terms.specs.Answers.{env_in}
use Rattle.go_asks.proofs.Both.{first_fails, second_decides}
use Rattle.go_asks.proofs.members.interface_meets.Goals as goal

pub returns-then-not-branch : goal.returns-then-not-branch
returns-then-not-branch c =
    first_fails (Once (methods_names c.args.elements.now)) (Each (λ (x : InterfaceElem). ElementMeets (env_in c.args.context.now) (out-InterfaceElem x)) c.args.elements.now) c.in_ok-are_once.field-0 c.if-not-branch.true
    (subst (λ (ns : List (List ℕ)). Decides c.in_ok-are_once.field-0 (Once ns)) (ap texts_of c.items.ensures ∙ c.in_ok-names.ensures) c.in_ok-are_once.ensures)

pub returns : goal.returns
returns c =
    second_decides (Once (methods_names c.args.elements.now)) (Each (λ (x : InterfaceElem). ElementMeets (env_in c.args.context.now) (out-InterfaceElem x)) c.args.elements.now) c.in_ok-are_once.field-0 c.if-not-branch.false
    (subst (λ (ns : List (List ℕ)). Decides c.in_ok-are_once.field-0 (Once ns)) (ap texts_of c.items.ensures ∙ c.in_ok-names.ensures) c.in_ok-are_once.ensures) c.in_ok-each.each c.in_ok-each.ensures
