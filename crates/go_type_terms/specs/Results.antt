-- The results of function types, and channel types.
-- Public source: Go specification, "Function types" and "Channel types".
use Rattle.std.specs.Prelude.{◌≡◌, List, [], Option, None, Some}
use Rattle.go_model.specs.declared.types.term.Direction.{Direction}
use Rattle.go_model.specs.declared.types.term.Term.{Term}
use Rattle.go_syntax.specs.declared.types.FuncResult.{FuncResult, out-FuncResult}
use Rattle.go_syntax.specs.declared.types.«Type».{«Type» as Typ}
use Rattle.go_rules.specs.Environments.{Env}
use Rattle.go_rules.specs.Expressions.{OfResult, OfType, channel_of}

-- the types of results, none where there is no result
abbrev pub OfResults : Env → Option FuncResult → List Term → Type 0
OfResults E None us = us ≡ []
OfResults E (Some r) us = OfResult E (out-FuncResult r) us

-- the channel type of the direction and of the element type
abbrev pub IsChannelOf : Env → Direction → Typ → Term → Type 0
IsChannelOf E d t u = (e : Term) × OfType E t e × (u ≡ channel_of d e)
