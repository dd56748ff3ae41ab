use Rattle.std.proofs.Common.{[]}
use Rattle.go_rules.specs.Nodes.{element_parts}
use Rattle.go_operations.specs.go_type_terms.Answers.{env_in}
use Rattle.go_elements.proofs.go_operators_proofs.Answers.{decided_false, decided_true}
use Rattle.go_literals.specs.Elements.{EachKeyed}
use Rattle.go_literals.specs.Keys.{KeyedOnce}
use Rattle.go_literals.specs.Structs.{AreKeyed}
use Rattle.go_literals.proofs.KeyedFields.{all_keyed, keyed_each, keyed_once}
use Rattle.go_literals.proofs.Parts.{holds_as}
use Rattle.go_literals.proofs.values.Literals.all_keyed.Goals as goal

pub returns-then-not-branch : goal.returns-then-not-branch
returns-then-not-branch g c =
    let E = env_in c.args.self.now.operations.typing.context.now in
    λ a. decided_false (KeyedOnce [] c.args.elements.now) c.in_ok-are_keyed_once.field-0 c.if-not-branch.true c.in_ok-are_keyed_once.ensures (keyed_once E c.args.fields.now c.args.elements.now a)

pub returns : goal.returns
returns g c =
    let E = env_in c.args.self.now.operations.typing.context.now in
    let xs = c.args.elements.now in
    holds_as E (EachKeyed E c.args.fields.now xs) (AreKeyed E c.args.fields.now xs) (element_parts xs) (element_parts xs) c.keyed.result
    (all_keyed E c.args.fields.now xs (decided_true (KeyedOnce [] xs) c.in_ok-are_keyed_once.field-0 c.if-not-branch.false c.in_ok-are_keyed_once.ensures)) (keyed_each E c.args.fields.now xs) (λ b l. l) c.keyed.ensures
