-- Calls of functions, over operands.
-- Public source: Go specification, "Calls" and "Passing arguments to ... parameters".
use Rattle.std.specs.Prelude.{◌≡◌, Bool, false, List, [], ◌∷◌, map}
use Rattle.go_model.specs.declared.types.term.Signature.{Signature, out-Signature}
use Rattle.go_model.specs.declared.types.term.Term.{Term, Term-F}
use Rattle.go_model.specs.types.Underlying.{under}
use Rattle.go_rules.specs.Environments.{Env}
use Rattle.go_rules.specs.Expressions.{ArgumentsFit, results_of}
use Rattle.go_rules.specs.Operands.{IsTyped, plain, tuple}
use Rattle.go_rules.specs.declared.operand.Operand.{Operand}

-- what is passed for these arguments: each by itself, or the results of one call
pub data Passes : (dots : Bool) → List Operand → List Operand → Type 0 where
  passes_each : {dots : Bool} {os : List Operand} → Passes dots os os
  passes_results : {ts : List Term} → Passes false (tuple ts ∷ []) (map plain ts)

-- a call of a function with these arguments, the last of which stands before `...` or not
pub data CallsFunction (E : Env) (dots : Bool) : Operand → List Operand → Operand → Type 0 where
  calls_function : {o : Operand} {t : Term} {g : Signature} {os qs : List Operand} → IsTyped o t → under E.table t ≡ Term-F.Func g → Passes dots os qs → ArgumentsFit E (out-Signature g).variadic dots (out-Signature g).params qs → CallsFunction E dots o os (results_of (out-Signature g).results)
