use Rattle.std.proofs.Common.{◌≡◌, List, [], subst}
use Rattle.go_base.specs.Lists.{Each}
use Rattle.go_asks.proofs.EmbeddedTypes.{none_told}
use Rattle.go_rules.specs.Usability.{UsableAs}
use Rattle.go_rules.specs.declared.operand.Operand.{Operand}
use Rattle.go_selectors.specs.Answers.{Decides}
use Rattle.go_asks.proofs.go_operators_proofs.Answers.{decided_false, decided_true}
use Rattle.go_type_terms.specs.Answers.{env_in}
use Rattle.go_declaration_asks.proofs.UsableValues.{usable_empty, usable_given, usable_none}
use Rattle.go_declaration_asks.specs.inner.Values.{GivesValues}
use Rattle.go_declaration_asks.proofs.values.are_usable_as.Goals as goal

pub returns-then-has_none : goal.returns-then-has_none
returns-then-has_none c = usable_empty (env_in c.args.context.now) c.args.form.now c.args.count c.args.values.now (decided_true (c.args.values.now ≡ []) _ c.if-has_none.true c.has_none.ensures)

pub returns-in_ok-answer-in-Ok : goal.returns-in_ok-answer-in-Ok
returns-in_ok-answer-in-Ok c = usable_given (env_in c.args.context.now) c.args.form.now c.args.count c.args.values.now (decided_false (c.args.values.now ≡ []) _ c.if-has_none.false c.has_none.ensures) c.in-Ok.term c.in-Ok.operands c.in-Ok.ensures.0 c.in-Ok.ensures.1 c.in_ok-answer-in-Ok.answer
    (subst (λ (os : List Operand). Decides c.in_ok-answer-in-Ok.answer (Each (λ (o : Operand). UsableAs (env_in c.args.context.now) o c.in-Ok.term) os)) c.items.ensures c.in_ok-answer-in-Ok.ensures)

pub returns-in-Err-Untyped : goal.returns-in-Err-Untyped
returns-in-Err-Untyped c = usable_none (env_in c.args.context.now) c.args.form.now c.args.count c.args.values.now (decided_false (c.args.values.now ≡ []) _ c.if-has_none.false c.has_none.ensures) (none_told (GivesValues (env_in c.args.context.now) c.args.form.now c.args.count c.args.values.now) c.in-Err-Untyped.field-0 c.in-Err-Untyped.field-0-is c.in-Err-Untyped.ensures)
