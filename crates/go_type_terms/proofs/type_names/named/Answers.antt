use Rattle.std.proofs.Common.{◌≡◌, Some, ap, ◌∙◌, sym}
use Rattle.go_rules.specs.Expressions.{is_blank}
use Rattle.go_rules.specs.Meanings.{seen_of}
use Rattle.go_rules.specs.Operands.{denoted, type_name}
use Rattle.go_rules.specs.Universe.{predeclared_operand}
use Rattle.go_rules.specs.declared.seen.Seen.TheVariants as seen
use Rattle.go_rules.proofs.OneName.{one_some}
use Rattle.go_type_terms.specs.Answers.{env_in}
use Rattle.go_type_terms.proofs.NamedTypes.{tells_named}
use Rattle.go_type_terms.proofs.type_names.named.Goals as goal

pub returns-in-Some-Object : goal.returns-in-Some-Object
returns-in-Some-Object c =
    let E = env_in c.args.context.now in
    tells_named E c.args.name.now (ap is_blank (sym c.bytes.ensures) ∙ sym c.is_blank.ensures ∙ c.if-is_blank.false) (seen.Object c.in-Some-Object.entity.now)
    (sym c.in-Some-Object.ensures ∙ ap (λ m. Some (seen_of m)) c.in-Some-Object.field-0-is)
    (λ t. denoted c.in-Some-Object.entity.now ≡ type_name t) c.type_of.result (λ t e. ap Some e) (λ t e. one_some e) c.type_of.ensures

pub returns-in-Some-Universe : goal.returns-in-Some-Universe
returns-in-Some-Universe c =
    let E = env_in c.args.context.now in
    tells_named E c.args.name.now (ap is_blank (sym c.bytes.ensures) ∙ sym c.is_blank.ensures ∙ c.if-is_blank.false) (seen.Universe c.in-Some-Universe.predeclared)
    (sym c.in-Some-Universe.ensures ∙ ap (λ m. Some (seen_of m)) c.in-Some-Universe.field-0-is)
    (λ t. predeclared_operand c.iota.result c.in-Some-Universe.predeclared ≡ Some (type_name t)) c.type_of_universe.result
    (λ t e. ap (λ i. predeclared_operand i c.in-Some-Universe.predeclared) (sym c.iota.ensures) ∙ e) (λ t e. ap (λ i. predeclared_operand i c.in-Some-Universe.predeclared) c.iota.ensures ∙ e) c.type_of_universe.ensures
