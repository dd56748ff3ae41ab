use Rattle.std.proofs.Common.{sym, subst}
use Rattle.go_model.specs.declared.types.term.Term.{Term}
use Rattle.go_rules.specs.Operands.{IsTyped}
use Rattle.go_type_terms.specs.Answers.{env_in}
use Rattle.go_type_terms.proofs.NamedTypes.{same_tells}
use Rattle.go_typings.specs.Initializers.{TypeOfValue, own_type}
use Rattle.go_entries.specs.inner.Variables.{IsDefaultType}
use Rattle.go_entries.proofs.VariableSpecs.{in_value, to_value}
use Rattle.go_assignments.proofs.values.value_type.Goals as goal

pub returns-in_ok-copy-in-Some : goal.returns-in_ok-copy-in-Some
returns-in_ok-copy-in-Some c = own_type (subst (λ (t : Term). IsTyped c.args.operand.now t) (sym c.in_ok-copy-in-Some.ensures) c.in-Some.ensures)

pub returns-in-None : goal.returns-in-None
returns-in-None c =
    let E = env_in c.args.context.now in
    let o = c.args.operand.now in
    same_tells (IsDefaultType E o) (TypeOfValue E o) c.default_type.result (to_value E o) (in_value E o c.in-None.ensures) c.default_type.ensures
