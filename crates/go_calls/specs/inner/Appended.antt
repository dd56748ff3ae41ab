-- What may be appended and copied to elements of a type.
use Rattle.std.specs.Prelude.{◌≡◌, ℕ, Bool, true, false, Option, List, [], ◌∷◌}
use Rattle.go_base.specs.Lists.{Each}
use Rattle.go_model.specs.declared.constants.value.Basic.TheVariants as basic
use Rattle.go_model.specs.declared.types.term.Term.{Term, Term-F}
use Rattle.go_model.specs.types.Underlying.{under}
use Rattle.go_rules.specs.Environments.{Env}
use Rattle.go_model.specs.types.Terms.{slice_of}
use Rattle.go_rules.specs.Expressions.{IsString}
use Rattle.go_rules.specs.Operands.{IsTyped, basic_term}
use Rattle.go_rules.specs.Usability.{UsableAs}
use Rattle.go_rules.specs.declared.operand.Operand.{Operand}

-- the operand is a string, and the elements are bytes
pub record IsBytesFrom (E : Env) (e : Term) (o : Operand) : Type 0 where
  pub bytes : e ≡ basic_term basic.Uint8
  pub length : Option ℕ
  pub string : IsString E o length

-- the operand may stand before `...`
pub data MayAppend (E : Env) (e : Term) (o : Operand) : Type 0 where
  append_bytes : IsBytesFrom E e o → MayAppend E e o
  append_same : UsableAs E o (slice_of e) → MayAppend E e o

-- the operands may be appended
pub data MayAppendAll (E : Env) (e : Term) : List Operand → (dots : Bool) → Type 0 where
  append_each : {os : List Operand} → Each (λ o. UsableAs E o e) os → MayAppendAll E e os false
  append_last : {o : Operand} → MayAppend E e o → MayAppendAll E e (o ∷ []) true

-- the operand may be copied
pub data MayCopy (E : Env) (e : Term) (o : Operand) : Type 0 where
  copy_bytes : IsBytesFrom E e o → MayCopy E e o
  copy_same : {t : Term} → IsTyped o t → under E.table t ≡ Term-F.Slice e → MayCopy E e o
