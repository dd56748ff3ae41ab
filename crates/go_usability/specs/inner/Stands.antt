-- How an operand stands where a value is used.
use Rattle.std.specs.Prelude.{◌≡◌, Bool, true, false, Option, Some, None, []}
use Rattle.go_model.specs.constants.Constants.{is_representable}
use Rattle.go_model.specs.declared.constants.value.Basic.TheVariants as basic
use Rattle.go_model.specs.declared.constants.value.Basic.{Basic}
use Rattle.go_model.specs.declared.constants.value.Untyped.TheVariants as untyped
use Rattle.go_model.specs.declared.constants.value.Untyped.{Untyped}
use Rattle.go_model.specs.declared.constants.value.Value.{Value}
use Rattle.go_model.specs.declared.types.package.ConstTerm.TheVariants as constant
use Rattle.go_model.specs.declared.types.term.Term.{Term, Term-F}
use Rattle.go_model.specs.types.Terms.{Layer}
use Rattle.go_model.specs.types.Underlying.{under}
use Rattle.go_rules.specs.Environments.{Env}
use Rattle.go_rules.specs.Usability.{Assignable, DefaultHolds, holds_nil}
use Rattle.go_rules.specs.declared.operand.Mode.TheVariants as mode
use Rattle.go_rules.specs.declared.operand.Mode.{Mode}
use Rattle.go_rules.specs.declared.operand.Operand.{Operand}
use Rattle.go_rules.specs.declared.operand.Shape.TheVariants as shape
use Rattle.go_rules.specs.declared.operand.Shape.{Shape}
use Rattle.go_usability.specs.declared.operands.Standing.TheVariants as held
use Rattle.go_usability.specs.declared.operands.Standing.{Standing}

-- a value of a type, an untyped constant, an untyped truth value, nil, or nothing that is used as a value
pub data Stand : Type 0 where
  of_type : Term → Stand
  of_constant : Untyped → Value → Stand
  truth : Stand
  no_pointer : Stand
  nothing : Stand

abbrev pub value_stand : Mode → Term → Stand
value_stand mode.Variable t = of_type t
value_stand mode.Plain t = of_type t
value_stand mode.MapElement t = of_type t
value_stand m t = nothing

abbrev pub fixed_stand : Mode → Shape → Stand
fixed_stand mode.Constant (shape.Fixed (constant.OfTerm t) v) = of_type t
fixed_stand mode.Constant (shape.Fixed (constant.OfKind k) v) = of_constant k v
fixed_stand m s = nothing

abbrev pub loose_stand : Mode → Untyped → Stand
loose_stand mode.Plain untyped.BoolKind = truth
loose_stand m k = nothing

abbrev pub empty_stand : Mode → Stand
empty_stand mode.Nil = no_pointer
empty_stand m = nothing

abbrev pub stand_at : Mode → Shape → Stand
stand_at m (shape.Of t) = value_stand m t
stand_at m (shape.Fixed c v) = fixed_stand m (shape.Fixed c v)
stand_at m (shape.Loose k) = loose_stand m k
stand_at m shape.Empty = empty_stand m
stand_at m s = nothing

-- how the operand stands
abbrev pub stand_of : Operand → Stand
stand_of o = stand_at o.mode o.shape

-- what the code holds of it
abbrev pub stood : Standing → Stand
stood (held.OfType t) = of_type t.now
stood (held.Constant k v) = of_constant k v.now
stood held.Truth = truth
stood held.Nil = no_pointer
stood held.Nothing = nothing

-- the basic type that a level is
abbrev pub basic_in : Layer → Option Basic
basic_in (Term-F.Plain b) = Some b
basic_in l = None

-- an untyped constant may be used where this is underneath
abbrev pub ConstantFits : Env → Untyped → Value → Layer → Type 0
ConstantFits E k v (Term-F.Plain b) = is_representable v b E.bits ≡ true
ConstantFits E k v (Term-F.Interface []) = DefaultHolds E k v
ConstantFits E k v l = ⊥

-- an untyped truth value may
abbrev pub truth_fits : Layer → Bool
truth_fits (Term-F.Plain basic.Bool) = true
truth_fits (Term-F.Interface []) = true
truth_fits l = false

-- what stands so may be used as a value of the type
abbrev pub Uses : Env → Stand → Term → Type 0
Uses E (of_type u) t = Assignable E u t
Uses E (of_constant k v) t = ConstantFits E k v (under E.table t)
Uses E truth t = truth_fits (under E.table t) ≡ true
Uses E no_pointer t = holds_nil (under E.table t) ≡ true
Uses E nothing t = ⊥
