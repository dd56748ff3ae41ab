-- Whether a map's key can be compared, from the one type for which its form stands.
use Rattle.std.proofs.Common.{Bool, true, false, subst}
use Rattle.go_model.specs.declared.types.term.Term.{Term}
use Rattle.go_rules.specs.Environments.{Env}
use Rattle.go_rules.specs.Expressions.{OfType}
use Rattle.go_rules.specs.Usability.{Compares}
use Rattle.go_rules.proofs.OneOperand.{type_once}
use Rattle.go_selectors.specs.Answers.{Decides}
use Rattle.go_syntax.specs.declared.types.«Type».{«Type» as Typ}

module _ (E : Env) (key : Typ) where
  abbrev pub KeyCompares : Type 0
  KeyCompares = (u : Term) × OfType E key u × Compares E u

  pub key_decided : (u : Term) → OfType E key u → (b : Bool) → Decides b (Compares E u) → Decides b KeyCompares
  key_decided u t true c = (u, t, c)
  key_decided u t false none = λ k. none (subst (Compares E) (type_once E k.1 t) k.2)

  pub key_untyped : ((u : Term) → OfType E key u → ⊥) → KeyCompares → ⊥
  key_untyped none k = none k.0 k.1
