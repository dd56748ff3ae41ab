-- Answers about trees, from the answers about their parts.
use Rattle.std.proofs.Common.{◌≡◌, List, Bool, true, false, Option, Some, None, Result, Ok, Err, refl, sym, subst}
use Rattle.go_rules.specs.Environments.{Env}
use Rattle.go_rules.specs.Nodes.{Node}
use Rattle.go_rules.specs.declared.operand.Operand.{Operand}
use Rattle.go_type_terms.specs.Answers.{Types}
use Rattle.go_type_terms.specs.declared.error.ExprError.{ExprError}
use Rattle.go_type_terms.specs.declared.error.ExprError.TheVariants.{NoMemory, Untyped}

pub none_some : {A : Type 0} {x : A} → None ≡ Some x → ⊥
none_some e = absurd (cc)

pub one_some : {A : Type 0} {x y : A} → ◌≡◌ {A = Option A} (Some x) (Some y) → x ≡ y
one_some e = cc

pub true_false : true ≡ false → ⊥
true_false e = absurd (cc)
