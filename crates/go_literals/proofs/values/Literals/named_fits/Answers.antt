use Rattle.std.proofs.Common.{ap, ◌∙◌, sym}
use Rattle.go_rules.specs.Environments.{selector_of}
use Rattle.go_rules.specs.Expressions.{is_blank}
use Rattle.go_operations.specs.go_type_terms.Answers.{env_in}
use Rattle.go_elements.proofs.go_operators_proofs.Answers.{decided_false, decided_true}
use Rattle.go_literals.specs.Elements.{Takes}
use Rattle.go_literals.proofs.KeyedFields.{named_none, named_some}
use Rattle.go_literals.proofs.values.Literals.named_fits.Goals as goal

pub returns-then-not-branch : goal.returns-then-not-branch
returns-then-not-branch g c =
    let E = env_in c.args.self.now.operations.typing.context.now in
    named_none E c.args.fields.now c.args.name.now c.args.expr.now c.in_ok-operand.operand c.in_ok-sel.sel (c.in_ok-sel.ensures ∙ ap (selector_of E) c.bytes-2.ensures) c.in_ok-operand.ensures.0
    (decided_false (Takes E c.args.fields.now c.in_ok-sel.sel c.in_ok-operand.operand) c.in_ok-takes_by.field-0 c.if-not-branch.true c.in_ok-takes_by.ensures)

pub returns : goal.returns
returns g c =
    let E = env_in c.args.self.now.operations.typing.context.now in (
      named_some E c.args.fields.now c.args.name.now c.args.expr.now c.in_ok-operand.operand c.in_ok-sel.sel (ap is_blank (sym c.bytes.ensures) ∙ sym c.is_blank.ensures ∙ c.if-is_blank.false) (c.in_ok-sel.ensures ∙ ap (selector_of E) c.bytes-2.ensures) c.in_ok-operand.ensures.0
          (decided_true (Takes E c.args.fields.now c.in_ok-sel.sel c.in_ok-operand.operand) c.in_ok-takes_by.field-0 c.if-not-branch.false c.in_ok-takes_by.ensures),
      c.in_ok-operand.ensures.1,
    )
