-- What one clause of a type switch lists, and bytes that tell it apart.
use Rattle.std.specs.Prelude.{◌≡◌, ℕ, List, [], ◌++◌, Option, None, Some, Result, Ok, Err}
use Rattle.go_model.specs.declared.types.term.Term.{Term}
use Rattle.go_rules.specs.Environments.{Env}
use Rattle.go_statement_rules.specs.Statements.{AreListed}
use Rattle.go_syntax.specs.declared.types.«Type».{«Type» as Typ}
use Rattle.go_type_codes.specs.Codes.{code}
use Rattle.go_type_terms.specs.declared.error.ExprError.{ExprError}
use Rattle.go_type_terms.specs.declared.error.ExprError.TheVariants.{NoMemory, Untyped}

-- the bytes of a type, and none of nil
abbrev pub code_in : Option Term → List ℕ
code_in None = []
code_in (Some t) = code t

-- what the clause lists is added
abbrev pub PushesListed : Env → Term → Option (List Typ) → List (Option Term) → List (Option Term) → Result (Unit {0}) ExprError → Type 0
PushesListed E interface ts old new (Ok u) = (xs : List (Option Term)) × AreListed E interface ts xs × (new ≡ old ++ xs)
PushesListed E interface ts old new (Err NoMemory) = Unit {0}
PushesListed E interface ts old new (Err Untyped) = (xs : List (Option Term)) → AreListed E interface ts xs → ⊥
