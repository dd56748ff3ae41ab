-- The types of the parameters that one declaration gives.
use Rattle.std.specs.Prelude.{◌≡◌, ◌≤◌, Bool, true, false, List, [], ◌∷◌, length}
use Rattle.go_model.specs.declared.types.term.Term.{Term}
use Rattle.go_syntax.specs.declared.name.Name.{Name}
use Rattle.go_syntax.specs.declared.types.ParameterDecl.{ParameterDecl, out-ParameterDecl}
use Rattle.go_rules.specs.Environments.{Env}
use Rattle.go_model.specs.types.Terms.{slice_of}
use Rattle.go_rules.specs.Expressions.{OfParameters, OfType, for_names}

-- the types of the names, which are of this type; a variadic parameter is one, and of the slice type
abbrev pub GivesTerms : (variadic : Bool) → List Name → Term → List Term → Type 0
GivesTerms false ns u us = us ≡ for_names ns u
GivesTerms true ns u us = (length ns ≤ 1) × (us ≡ slice_of u ∷ [])

-- the types of the parameters of a declaration
abbrev pub OfParameter : Env → ParameterDecl → List Term → Type 0
OfParameter E d us = (u : Term) × OfType E (out-ParameterDecl d).type_ u × GivesTerms (out-ParameterDecl d).variadic (out-ParameterDecl d).names u us

-- the types of the parameters behind those that were read: none behind a variadic one
abbrev pub OfOthers : Env → (variadic : Bool) → List ParameterDecl → List Term → Bool → Type 0
OfOthers E false ds us v = OfParameters E ds us v
OfOthers E true ds us v = (ds ≡ []) × (us ≡ []) × (v ≡ true)
