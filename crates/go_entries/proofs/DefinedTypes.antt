-- What is underneath a defined type.
use Rattle.std.proofs.Common.{◌≡◌, Bool, ◌&&◌, sym, subst}
use Rattle.go_model.specs.declared.types.term.Term.{Term}
use Rattle.go_rules.specs.Environments.{Env}
use Rattle.go_rules.specs.Expressions.{OfType}
use Rattle.go_rules.proofs.OneOperand.{type_once}
use Rattle.go_syntax.specs.declared.types.«Type».{«Type» as Typ}
use Rattle.go_entries.specs.inner.Types.{IsDefinitionOf, IsUnderneath}

module _ (E : Env) (qualified : Bool) (t : Typ) (u : Term) (of : OfType E t u) (barred : Bool) (same : barred ≡ (E.profile && qualified)) where
  pub to_defined : (x : Term) → IsUnderneath E barred u x → IsDefinitionOf E qualified t x
  to_defined x h = (u, of, subst (λ (b : Bool). IsUnderneath E b u x) same h)

  pub in_defined : (x : Term) → IsDefinitionOf E qualified t x → IsUnderneath E barred u x
  in_defined x h = subst (λ (v : Term). IsUnderneath E barred v x) (type_once E h.1 of) (subst (λ (b : Bool). IsUnderneath E b h.0 x) (sym same) h.2)
