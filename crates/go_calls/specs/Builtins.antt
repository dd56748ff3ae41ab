-- Calls of builtin functions, over operands.
-- Public source: Go specification, "Built-in functions" and its sections.
use Rattle.std.specs.Prelude.{◌≡◌, ℕ, pos, Bool, true, false, Option, Some, List, [], ◌∷◌, length}
use Rattle.go_base.specs.Lists.{Each}
use Rattle.go_model.specs.constants.Constants.{is_representable}
use Rattle.go_model.specs.declared.constants.value.Basic.TheVariants as basic
use Rattle.go_model.specs.declared.constants.value.Value.TheVariants as value
use Rattle.go_model.specs.declared.types.term.Direction.{Direction}
use Rattle.go_model.specs.declared.types.term.Term.{Term, Term-F}
use Rattle.go_model.specs.types.Terms.{pointer_to, slice_of}
use Rattle.go_model.specs.types.Underlying.{under}
use Rattle.go_rules.specs.Environments.{Env}
use Rattle.go_rules.specs.Expressions.{IsArray, IsIndex, IsPrinted, IsString, Makes, Sizes, int_constant, is_constant, measures, sends}
use Rattle.go_rules.specs.Operands.{IsTyped, any_term, basic_term, no_value, plain, type_name}
use Rattle.go_rules.specs.Usability.{UsableAs}
use Rattle.go_rules.specs.declared.operand.Operand.{Operand}
use Rattle.go_rules.specs.declared.predeclared.Predeclared.{Predeclared}
use Rattle.go_rules.specs.declared.predeclared.Predeclared.TheVariants as p

-- a value of type int
abbrev pub int_value : Operand
int_value = plain (basic_term basic.Int)

-- `append`
pub data Appends (E : Env) : List Operand → (dots : Bool) → Operand → Type 0 where
  appends_elements : {o : Operand} {os : List Operand} {t u : Term} → IsTyped o t → under E.table t ≡ Term-F.Slice u → Each (λ q. UsableAs E q u) os → Appends E (o ∷ os) false (plain t)
  appends_slice : {o q : Operand} {t u : Term} → IsTyped o t → under E.table t ≡ Term-F.Slice u → UsableAs E q (slice_of u) → Appends E (o ∷ q ∷ []) true (plain t)
  appends_string : {o q : Operand} {t : Term} {n : Option ℕ} → IsTyped o t → under E.table t ≡ Term-F.Slice (basic_term basic.Uint8) → IsString E q n → Appends E (o ∷ q ∷ []) true (plain t)

-- `len` or `cap` of an operand; in an array's expression, or that of a pointer to one, a receive, or a call that is
-- neither a conversion nor constant, stands or not
pub data Measures (E : Env) (f : Predeclared) : (loud : Bool) → Operand → Operand → Type 0 where
  measures_string : {loud : Bool} {o : Operand} {n : ℕ} → f ≡ p.Len → IsString E o (Some n) → is_representable (value.Int (pos n)) basic.Int E.bits ≡ true → Measures E f loud o (int_constant n)
  measures_constant_array : {o : Operand} {t u : Term} {pointer : Bool} {n : ℕ} → IsTyped o t → IsArray E t pointer n u → is_representable (value.Int (pos n)) basic.Int E.bits ≡ true → Measures E f false o (int_constant n)
  measures_array : {o : Operand} {t u : Term} {pointer : Bool} {n : ℕ} → IsTyped o t → IsArray E t pointer n u → Measures E f true o int_value
  measures_value : {loud : Bool} {o : Operand} {t : Term} → is_constant o.mode ≡ false → IsTyped o t → measures f (under E.table t) ≡ true → Measures E f loud o int_value

-- `close`
pub data Closes (E : Env) : Operand → Operand → Type 0 where
  closes : {o : Operand} {t u : Term} {d : Direction} → IsTyped o t → under E.table t ≡ Term-F.Chan d u → sends d ≡ true → Closes E o no_value

-- `copy`
pub data Copies (E : Env) : Operand → Operand → Operand → Type 0 where
  copies_slice : {o q : Operand} {t u v : Term} → IsTyped o t → under E.table t ≡ Term-F.Slice v → IsTyped q u → under E.table u ≡ Term-F.Slice v → Copies E o q int_value
  copies_string : {o q : Operand} {t : Term} {n : Option ℕ} → IsTyped o t → under E.table t ≡ Term-F.Slice (basic_term basic.Uint8) → IsString E q n → Copies E o q int_value

-- `delete`
pub data Deletes (E : Env) : Operand → Operand → Operand → Type 0 where
  deletes : {o q : Operand} {t k u : Term} → IsTyped o t → under E.table t ≡ Term-F.Map k u → UsableAs E q k → Deletes E o q no_value

-- sizes, with their values where they are constant
pub data AreSizes (E : Env) : List Operand → List (Option ℕ) → Type 0 where
  no_sizes : AreSizes E [] []
  more_sizes : {o : Operand} {os : List Operand} {n : Option ℕ} {ns : List (Option ℕ)} → IsIndex E o n → AreSizes E os ns → AreSizes E (o ∷ os) (n ∷ ns)

-- `make` of a type, with sizes
pub data MakesOf (E : Env) : Operand → List Operand → Operand → Type 0 where
  makes_of : {t : Term} {os : List Operand} {ns : List (Option ℕ)} → AreSizes E os ns → Makes (under E.table t) (length ns) → Sizes ns → MakesOf E (type_name t) os (plain t)

-- `new` of a type
pub data News : Operand → Operand → Type 0 where
  news : {t : Term} → News (type_name t) (plain (pointer_to t))

-- `panic`
pub data Panics (E : Env) : Operand → Operand → Type 0 where
  panics : {o : Operand} → UsableAs E o any_term → Panics E o no_value

-- `print` and `println`
pub data Prints (E : Env) : List Operand → Operand → Type 0 where
  prints_each : {os : List Operand} → Each (IsPrinted E) os → Prints E os no_value

-- a function of no operand, of one, of two, or of one and others, without `...`
abbrev pub OfNone : (Operand → Type 0) → List Operand → Bool → Operand → Type 0
OfNone P [] false r = P r
OfNone P os dots r = ⊥

abbrev pub OfOne : (Operand → Operand → Type 0) → List Operand → Bool → Operand → Type 0
OfOne P (o ∷ []) false r = P o r
OfOne P os dots r = ⊥

abbrev pub OfTwo : (Operand → Operand → Operand → Type 0) → List Operand → Bool → Operand → Type 0
OfTwo P (o ∷ q ∷ []) false r = P o q r
OfTwo P os dots r = ⊥

abbrev pub OfMore : (Operand → List Operand → Operand → Type 0) → List Operand → Bool → Operand → Type 0
OfMore P (o ∷ os) false r = P o os r
OfMore P os dots r = ⊥

abbrev pub OfAny : (List Operand → Operand → Type 0) → List Operand → Bool → Operand → Type 0
OfAny P os false r = P os r
OfAny P os true r = ⊥

-- a call of a builtin function with these operands, `...` after the last or not; loud is for `len` and `cap`
abbrev pub CallsBuiltin : Env → (loud : Bool) → Predeclared → List Operand → (dots : Bool) → Operand → Type 0
CallsBuiltin E loud p.Append os dots r = Appends E os dots r
CallsBuiltin E loud p.Cap os dots r = OfOne (Measures E p.Cap loud) os dots r
CallsBuiltin E loud p.Close os dots r = OfOne (Closes E) os dots r
CallsBuiltin E loud p.Copy os dots r = OfTwo (Copies E) os dots r
CallsBuiltin E loud p.Delete os dots r = OfTwo (Deletes E) os dots r
CallsBuiltin E loud p.Len os dots r = OfOne (Measures E p.Len loud) os dots r
CallsBuiltin E loud p.Make os dots r = OfMore (MakesOf E) os dots r
CallsBuiltin E loud p.New os dots r = OfOne News os dots r
CallsBuiltin E loud p.Panic os dots r = OfOne (Panics E) os dots r
CallsBuiltin E loud p.Print os dots r = OfAny (Prints E) os dots r
CallsBuiltin E loud p.Println os dots r = OfAny (Prints E) os dots r
CallsBuiltin E loud p.Recover os dots r = OfNone (λ s. s ≡ plain any_term) os dots r
CallsBuiltin E loud f os dots r = ⊥
