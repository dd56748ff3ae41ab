use Rattle.std.proofs.Common.{inl, inr, sym, ◌∙◌}
use Rattle.go_rules.specs.Nodes.{element_parts}
use Rattle.go_operations.specs.go_type_terms.Answers.{env_in}
use Rattle.go_literals.specs.Structs.{AreKeyed, AreUnkeyed, StructFits}
use Rattle.go_literals.proofs.Parts.{holds_as}
use Rattle.go_literals.proofs.StructElements.{in_keyed, in_unkeyed}
use Rattle.go_literals.proofs.values.Literals.of_struct.Goals as goal

pub returns-then-names_fields : goal.returns-then-names_fields
returns-then-names_fields g c =
    let E = env_in c.args.self.now.operations.typing.context.now in
    let xs = c.args.elements.now in
    holds_as E (AreKeyed E c.args.fields.now xs) (StructFits E c.args.term.now c.args.fields.now xs) (element_parts xs) (element_parts xs) c.all_keyed.result
    (λ a. inl a) (in_keyed E c.args.term.now c.args.fields.now xs (sym c.names_fields.ensures ∙ c.if-names_fields.true)) (λ b l. l) c.all_keyed.ensures

pub returns-else-names_fields : goal.returns-else-names_fields
returns-else-names_fields g c =
    let E = env_in c.args.self.now.operations.typing.context.now in
    let xs = c.args.elements.now in
    holds_as E (AreUnkeyed E c.args.term.now c.args.fields.now xs) (StructFits E c.args.term.now c.args.fields.now xs) (element_parts xs) (element_parts xs) c.all_unkeyed.result
    (λ a. inr a) (in_unkeyed E c.args.term.now c.args.fields.now xs (sym c.names_fields.ensures ∙ c.if-names_fields.false)) (λ b l. l) c.all_unkeyed.ensures
