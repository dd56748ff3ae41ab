-- The parts of a slice expression.
use Rattle.std.specs.Prelude.{◌≡◌, ℕ, Bool, true, Option, Some, None, length}
use Rattle.go_model.specs.declared.constants.value.Basic.TheVariants as basic
use Rattle.go_model.specs.declared.constants.value.Value.{Value}
use Rattle.go_model.specs.declared.constants.value.Value.TheVariants as value
use Rattle.go_model.specs.declared.types.package.ConstTerm.{ConstTerm}
use Rattle.go_model.specs.declared.types.package.ConstTerm.TheVariants as constant
use Rattle.go_model.specs.declared.types.term.Term.{Term, Term-F}
use Rattle.go_model.specs.types.Terms.{Layer, slice_of}
use Rattle.go_model.specs.types.Underlying.{under}
use Rattle.go_rules.specs.Environments.{Env}
use Rattle.go_rules.specs.Expressions.{IsString}
use Rattle.go_rules.specs.Operands.{basic_term, constant_of, is_variable, plain}
use Rattle.go_rules.specs.declared.operand.Operand.{Operand}

-- a text of this length, of an untyped kind
abbrev pub IsUntypedText : ConstTerm → Value → ℕ → Type 0
IsUntypedText (constant.OfKind k) (value.Str s) n = n ≡ length s
IsUntypedText c v n = ⊥

-- the slice of an untyped string, by two indices
pub record SlicesUntyped (simple : Bool) (o : Operand) (n : Option ℕ) (r : Operand) : Type 0 where
  pub by_two : simple ≡ true
  pub of : ConstTerm
  pub held : Value
  pub constant : o ≡ constant_of of held
  pub size : ℕ
  pub text : IsUntypedText of held size
  pub limit : n ≡ Some size
  pub is : r ≡ plain (basic_term basic.Str)

-- the slice of the array that a pointer to this underlying type points to
abbrev pub SlicesBase : Layer → Option ℕ → Operand → Type 0
SlicesBase (Term-F.Array m e) n r = (n ≡ Some m) × (r ≡ plain (slice_of e))
SlicesBase l n r = ⊥

-- the slice of an operand of the type, by what is underneath that
abbrev pub SlicesAt : Env → Bool → Operand → Term → Layer → Option ℕ → Operand → Type 0
SlicesAt E simple o t (Term-F.Plain b) n r = (simple ≡ true) × IsString E o n × (r ≡ plain t)
SlicesAt E simple o t (Term-F.Array m e) n r = (is_variable o.mode ≡ true) × (n ≡ Some m) × (r ≡ plain (slice_of e))
SlicesAt E simple o t (Term-F.Pointer base) n r = SlicesBase (under E.table base) n r
SlicesAt E simple o t (Term-F.Slice e) n r = (n ≡ None) × (r ≡ plain t)
SlicesAt E simple o t l n r = ⊥
