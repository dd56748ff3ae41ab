-- The parts of a call's arguments.
use Rattle.std.specs.Prelude.{◌≡◌, Bool, true, false, List, [], ◌∷◌}
use Rattle.go_base.specs.Lists.{Each}
use Rattle.go_model.specs.declared.types.term.Signature.{Signature, out-Signature}
use Rattle.go_model.specs.declared.types.term.Term.{Term, Term-F, out-Term}
use Rattle.go_rules.specs.Environments.{Env}
use Rattle.go_rules.specs.Expressions.{ArgumentsFit, results_of}
use Rattle.go_rules.specs.Usability.{UsableAs}
use Rattle.go_rules.specs.declared.operand.Operand.{Operand}
use Rattle.go_calls.specs.Functions.{Passes}

-- the operands are usable as values of these types, one for each
abbrev pub UsableEach : Env → List Operand → List Term → Type 0
UsableEach E [] [] = Unit {0}
UsableEach E (o ∷ os) (t ∷ ts) = UsableAs E o t × UsableEach E os ts
UsableEach E os ts = ⊥

-- the operands may be passed to a variadic parameter of the type
pub data RestFits (E : Env) : (dots : Bool) → Term → List Operand → Type 0 where
  rest_slice : {t : Term} {o : Operand} → UsableAs E o t → RestFits E true t (o ∷ [])
  rest_elements : {t e : Term} {os : List Operand} → out-Term t ≡ Term-F.Slice e → Each (λ o. UsableAs E o e) os → RestFits E false t os

-- a call of a function with the signature
pub data CallsSignature (E : Env) (dots : Bool) (g : Signature) (os : List Operand) : Operand → Type 0 where
  calls_signature : ArgumentsFit E (out-Signature g).variadic dots (out-Signature g).params os → CallsSignature E dots g os (results_of (out-Signature g).results)

-- a call of a function with the signature, where one argument may stand for several
pub data CallsWith (E : Env) (dots : Bool) (g : Signature) (os : List Operand) : Operand → Type 0 where
  calls_with : {qs : List Operand} {r : Operand} → Passes dots os qs → CallsSignature E dots g qs r → CallsWith E dots g os r
