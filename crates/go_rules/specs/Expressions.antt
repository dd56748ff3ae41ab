-- What an expression is, and which type a type form stands for, by cases: one for each rule of the Go specification.
-- What a type form asks besides (a map's key is comparable, say) stands in Asks.
-- Public source: Go specification, "Expressions", "Types", "Constant expressions", "Conversions" and
-- "Built-in functions".
-- Own: there are no floating-point constants, so a whole number used as a float is no constant any more; an untyped
-- constant isn't shifted by what is no constant; types have bounds; constant keys may stand twice in a composite
-- literal of an array, a slice or a map.
use Rattle.std.specs.Prelude.{◌≡◌, ◌⊎◌, ◌<◌, ◌≤◌, ℕ, suc, max, ℤ, pos, Bool, true, false, ◌&&◌, if◌then◌else◌, Option, Some, None, List, [], ◌∷◌, ◌++◌, map, length, replicate}
use Rattle.std.specs.List.Sorted.{IsStrictlySortedBy}
use Rattle.std.specs.Ordering.{int_eq}
use Rattle.std.specs.Str.{bytes_eq}
use Rattle.go_syntax.specs.go_base.Lists.{Has as In, Each, Once}
use Rattle.go_syntax.specs.go_base.declared.operator.CompareOp.{CompareOp}
use Rattle.go_syntax.specs.go_base.declared.operator.CompareOp.TheVariants as compare
use Rattle.go_syntax.specs.go_base.declared.operator.PrefixOperator.{PrefixOperator}
use Rattle.go_syntax.specs.go_base.declared.operator.PrefixOperator.TheVariants as prefix
use Rattle.go_syntax.specs.go_base.declared.operator.ProductOperator.{ProductOperator}
use Rattle.go_syntax.specs.go_base.declared.operator.ProductOperator.TheVariants as product
use Rattle.go_syntax.specs.go_base.declared.operator.SumOperator.{SumOperator}
use Rattle.go_syntax.specs.go_base.declared.operator.SumOperator.TheVariants as sum
use Rattle.go_model.specs.constants.Classes.{class_of, class_of_basic, is_inexact, is_integer}
use Rattle.go_model.specs.constants.Constants.{binary_value, comparison, converted, is_representable, shift_value, unary_value}
use Rattle.go_model.specs.constants.Operators.{binary_applies, comparison_applies, unary_applies}
use Rattle.go_model.specs.declared.constants.value.Basic.{Basic}
use Rattle.go_model.specs.declared.constants.value.Basic.TheVariants as basic
use Rattle.go_model.specs.declared.constants.value.BinaryOp.{BinaryOp}
use Rattle.go_model.specs.declared.constants.value.BinaryOp.TheVariants as binary
use Rattle.go_model.specs.declared.constants.value.Kind.{Kind}
use Rattle.go_model.specs.declared.constants.value.UnaryOp.{UnaryOp}
use Rattle.go_model.specs.declared.constants.value.UnaryOp.TheVariants as unary
use Rattle.go_model.specs.declared.constants.value.Untyped.{Untyped}
use Rattle.go_model.specs.declared.constants.value.Untyped.TheVariants as untyped
use Rattle.go_model.specs.declared.constants.value.Value.{Value}
use Rattle.go_model.specs.declared.constants.value.Value.TheVariants as value
use Rattle.go_model.specs.declared.types.package.ConstTerm.{ConstTerm}
use Rattle.go_model.specs.declared.types.package.ConstTerm.TheVariants as constant
use Rattle.go_model.specs.declared.types.package.Entity.{Entity}
use Rattle.go_model.specs.declared.types.term.Direction.{Direction}
use Rattle.go_model.specs.declared.types.term.Direction.TheVariants as direction
use Rattle.go_model.specs.declared.types.term.Field.{Field, out-Field, roll-Field}
use Rattle.go_model.specs.declared.types.term.Method.{Method, roll-Method}
use Rattle.go_model.specs.declared.types.term.Signature.{Signature, out-Signature, roll-Signature}
use Rattle.go_model.specs.declared.types.term.Term.{Term, Term-F, out-Term, roll-Term}
use Rattle.go_model.specs.types.Bounds.{IsWithinBounds}
use Rattle.go_model.specs.types.Imports.{is_imported_struct}
use Rattle.go_model.specs.types.MethodSets.{method_sel, sel_order}
use Rattle.go_model.specs.types.Selectors.{field as found_field}
use Rattle.go_model.specs.types.Terms.{Layer, blank, pointer_to, slice_of}
use Rattle.go_model.specs.types.Underlying.{under}
use Rattle.go_syntax.specs.declared.body.BodyRange.{BodyRange}
use Rattle.go_syntax.specs.declared.expression.Element.{Element, out-Element}
use Rattle.go_syntax.specs.declared.expression.ElementValue.{ElementValue, ElementValue-F, out-ElementValue}
use Rattle.go_syntax.specs.declared.expression.Expr.{Expr, Expr-F, out-Expr}
use Rattle.go_syntax.specs.declared.expression.Expr.TheVariants as expr
use Rattle.go_syntax.specs.declared.expression.Literal.TheVariants as literal
use Rattle.go_syntax.specs.declared.expression.Post.{Post, Post-F, out-Post}
use Rattle.go_syntax.specs.declared.name.Name.{Name}
use Rattle.go_syntax.specs.declared.name.QualifiedName.{QualifiedName}
use Rattle.go_syntax.specs.declared.types.FieldDecl.{FieldDecl, FieldDecl-F, out-FieldDecl}
use Rattle.go_syntax.specs.declared.types.FuncResult.{FuncResult, FuncResult-F, out-FuncResult}
use Rattle.go_syntax.specs.declared.types.InterfaceElem.{InterfaceElem, InterfaceElem-F, out-InterfaceElem}
use Rattle.go_syntax.specs.declared.types.ParameterDecl.{ParameterDecl, out-ParameterDecl}
use Rattle.go_syntax.specs.declared.types.Signature.{Signature as Sig, out-Signature as out-Sig}
use Rattle.go_syntax.specs.declared.types.«Type».{«Type» as Typ, «Type-F» as Typ-F, «out-Type» as out-Typ}
use Rattle.go_syntax.specs.declared.types.«Type».TheVariants as type
use Rattle.go_rules.specs.Environments.{Env, Entered, Found, HasMethod, is_exported, selector_of}
use Rattle.go_rules.specs.Nodes.{ExprLayer, PostLayer, TypeLayer, ResultLayer, Stands, expression as at_expression}
use Rattle.go_rules.specs.Operands.{IsOf, IsTyped, IsUntyped, HasKind, ShapeWithin, any_term, basic_term, builtin, computed, constant_of, default_type, denoted, function_of, is_variable, loose, nil, no_value, plain, tuple, type_name, value_of, variable}
use Rattle.go_rules.specs.Universe.{predeclared_operand}
use Rattle.go_rules.specs.Usability.{Compares, Convertible, DefaultHolds, Implements, Match, UsableAs}
use Rattle.go_rules.specs.declared.operand.Mode.{Mode}
use Rattle.go_rules.specs.declared.operand.Mode.TheVariants as mode
use Rattle.go_rules.specs.declared.operand.Operand.{Operand}
use Rattle.go_rules.specs.declared.operand.Shape.{Shape}
use Rattle.go_rules.specs.declared.operand.Shape.TheVariants as shape
use Rattle.go_rules.specs.declared.predeclared.Predeclared.{Predeclared}
use Rattle.go_rules.specs.declared.predeclared.Predeclared.TheVariants as p
use Rattle.go_rules.specs.declared.seen.Seen.{Seen}
use Rattle.go_rules.specs.declared.seen.Seen.TheVariants as seen

-- ---- names

-- the blank name
abbrev pub is_blank : List ℕ → Bool
is_blank name = bytes_eq name blank

-- what a meaning denotes as an operand: an imported package by itself nothing
abbrev pub seen_operand : Option ℕ → Seen → Option Operand
seen_operand iota (seen.Local t) = Some (variable t)
seen_operand iota (seen.LocalConst c v) = Some (constant_of c v)
seen_operand iota (seen.Object e) = Some (denoted e)
seen_operand iota (seen.Import path) = None
seen_operand iota (seen.Universe u) = predeclared_operand iota u

-- a name denotes this operand
pub record Denotes (E : Env) (n : Name) (o : Operand) : Type 0 where
  pub names : is_blank n.text ≡ false
  pub meaning : Seen
  pub means : E.meaning n.text ≡ Some meaning
  pub denotes : seen_operand E.iota meaning ≡ Some o

-- a name of an imported package denotes this operand: an exported object of the package
pub record DenotesImported (E : Env) (package_name name : Name) (o : Operand) : Type 0 where
  pub names : is_blank package_name.text ≡ false
  pub path : List ℕ
  pub object : Entity
  pub imported : E.meaning package_name.text ≡ Some (seen.Import path)
  pub exported : is_exported name.text ≡ true
  pub declared : E.object path name.text ≡ Some object
  pub denotes : denoted object ≡ o

-- a type's name stands for this type
abbrev pub NamesType : Env → Option Name → Name → Term → Type 0
NamesType E None n t = Denotes E n (type_name t)
NamesType E (Some q) n t = DenotesImported E q n (type_name t)

-- a type's name, with its qualifier where there is one, stands for this type
abbrev pub IsTypeName : Env → QualifiedName → Term → Type 0
IsTypeName E q t = NamesType E q.qualifier q.name t

-- ---- types of levels

-- the array type of the length and the element type
abbrev pub array_of : ℕ → Term → Term
array_of n t = roll-Term (Term-F.Array n t)

-- the channel type of the direction and the element type
abbrev pub channel_of : Direction → Term → Term
channel_of d t = roll-Term (Term-F.Chan d t)

-- the signature of the types of parameters, whether the last is variadic, and the types of results
abbrev pub signature : List Term → Bool → List Term → Signature
signature params variadic results = roll-Signature (record { params = params; variadic = variadic; results = results })

-- the function that a method expression stands for, with the receiver before the parameters
abbrev pub with_receiver : Term → Signature → Signature
with_receiver t g = signature (t ∷ (out-Signature g).params) (out-Signature g).variadic (out-Signature g).results

-- what a call of the function is
abbrev pub results_of : List Term → Operand
results_of [] = no_value
results_of (t ∷ []) = plain t
results_of ts = tuple ts

-- as many terms as there are names, and one where there is none
abbrev pub for_names : List Name → Term → List Term
for_names [] t = t ∷ []
for_names (n ∷ ns) t = replicate (length (n ∷ ns)) t

-- a field without a tag has an empty one
abbrev pub tag_of : Option (List ℕ) → List ℕ
tag_of None = []
tag_of (Some tag) = tag

-- the field of this name and type
abbrev pub field_of : Env → Bool → Term → Option (List ℕ) → Name → Field
field_of E embedded t tag n = roll-Field (record { sel = selector_of E n.text; embedded = embedded; term = t; tag = tag_of tag })

-- the type, or the pointer type where a star stands before it
abbrev pub starred : Bool → Term → Term
starred false t = t
starred true t = pointer_to t

-- the channels that can be received from
abbrev pub receives : Direction → Bool
receives direction.SendOnly = false
receives d = true

-- the channels that can be sent to
abbrev pub sends : Direction → Bool
sends direction.ReceiveOnly = false
sends d = true

-- a level that is neither a basic type nor a name
abbrev pub is_composed : Layer → Bool
is_composed (Term-F.Plain b) = false
is_composed (Term-F.Named n) = false
is_composed l = true

-- ---- operators

-- the operator on one value that stands for itself; the other ones have cases of their own
abbrev pub unary_operator : PrefixOperator → Option UnaryOp
unary_operator prefix.Plus = Some unary.Plus
unary_operator prefix.Minus = Some unary.Minus
unary_operator prefix.Not = Some unary.Not
unary_operator prefix.Xor = Some unary.Xor
unary_operator op = None

-- the operator of a sum
abbrev pub sum_operator : SumOperator → BinaryOp
sum_operator sum.Add = binary.Add
sum_operator sum.Subtract = binary.Subtract
sum_operator sum.Or = binary.Or
sum_operator sum.Xor = binary.Xor

-- an operator of a product: a shift to the left or not, or one on two values of one kind
pub data ProductKind : Type 0 where
  shift : Bool → ProductKind
  arithmetic : BinaryOp → ProductKind

-- the operator of a product
abbrev pub product_operator : ProductOperator → ProductKind
product_operator product.Multiply = arithmetic binary.Multiply
product_operator product.Divide = arithmetic binary.Divide
product_operator product.Remainder = arithmetic binary.Remainder
product_operator product.ShiftLeft = shift true
product_operator product.ShiftRight = shift false
product_operator product.And = arithmetic binary.And
product_operator product.AndNot = arithmetic binary.AndNot

-- the mode of constants
abbrev pub is_constant : Mode → Bool
is_constant mode.Constant = true
is_constant m = false

-- the operators of divisions
abbrev pub divides : BinaryOp → Bool
divides binary.Divide = true
divides binary.Remainder = true
divides op = false

-- the number 0
abbrev pub is_zero : Value → Bool
is_zero (value.Int x) = int_eq x (pos 0)
is_zero v = false

-- the constant 0
abbrev pub is_zero_constant : Shape → Bool
is_zero_constant (shape.Fixed c v) = is_zero v
is_zero_constant s = false

-- the result of an operator between two operands that match
pub data Computes (E : Env) (op : BinaryOp) : Operand → Operand → Operand → Type 0 where
  computes_constant : {b c d : ConstTerm} {v w z : Value} {k : Kind} → Match E (constant_of b v) (constant_of c w) d → HasKind E d k → binary_value op v w k E.bits ≡ Some z → Computes E op (constant_of b v) (constant_of c w) (constant_of d z)
  computes_value : {left right : Operand} {d : ConstTerm} {k : Kind} → (is_constant left.mode && is_constant right.mode) ≡ false → Match E left right d → HasKind E d k → binary_applies op (class_of k) ≡ true
      → ((divides op && is_integer (class_of k)) && is_zero_constant right.shape) ≡ false → Computes E op left right (computed d)

-- the count of a shift: its value where it is constant
pub data IsCount (E : Env) : Operand → Option Value → Type 0 where
  count_value : {o : Operand} {t : Term} {b : Basic} → is_constant o.mode ≡ false → IsTyped o t → under E.table t ≡ Term-F.Plain b → is_integer (class_of_basic b) ≡ true → IsCount E o None
  count_typed : {t : Term} {b : Basic} {n : ℕ} → under E.table t ≡ Term-F.Plain b → is_integer (class_of_basic b) ≡ true → IsCount E (constant_of (constant.OfTerm t) (value.Int (pos n))) (Some (value.Int (pos n)))
  count_untyped : {k : Untyped} {n : ℕ} → is_representable (value.Int (pos n)) basic.Uint E.bits ≡ true → IsCount E (constant_of (constant.OfKind k) (value.Int (pos n))) (Some (value.Int (pos n)))

-- the result of a shift
pub data Shifts (E : Env) (left : Bool) : Operand → Operand → Operand → Type 0 where
  shifts_constant : {c : ConstTerm} {x : ℤ} {w z : Value} {o : Operand} {k : Kind} → HasKind E c k → IsCount E o (Some w) → shift_value left (value.Int x) w k E.bits ≡ Some z → Shifts E left (constant_of c (value.Int x)) o (constant_of c z)
  shifts_value : {l o : Operand} {t : Term} {b : Basic} {w : Option Value} → (is_constant l.mode ≡ false) ⊎ (w ≡ None) → IsTyped l t → under E.table t ≡ Term-F.Plain b → is_integer (class_of_basic b) ≡ true → IsCount E o w → Shifts E left l o (plain t)

-- the result of an operator of a product
abbrev pub ProductComputes : Env → ProductKind → Operand → Operand → Operand → Type 0
ProductComputes E (shift left) l o r = Shifts E left l o r
ProductComputes E (arithmetic op) l o r = Computes E op l o r

-- two values, one of which is usable as the other's type, are comparable
pub data Equates (E : Env) : Operand → Operand → Type 0 where
  equates_right : {left right : Operand} {t u : Term} → IsTyped left t → IsTyped right u → UsableAs E left u → Compares E t → Compares E u → Equates E left right
  equates_left : {left right : Operand} {t u : Term} → IsTyped left t → IsTyped right u → UsableAs E right t → Compares E t → Compares E u → Equates E left right
  equates_untyped_left : {left right : Operand} {k : Untyped} {u : Term} → IsUntyped left k → IsTyped right u → UsableAs E left u → Compares E u → Equates E left right
  equates_untyped_right : {left right : Operand} {k : Untyped} {t : Term} → IsTyped left t → IsUntyped right k → UsableAs E right t → Compares E t → Equates E left right
  equates_kinds : {left right : Operand} {k : Untyped} → Match E left right (constant.OfKind k) → Equates E left right
  equates_nil_left : {right : Operand} {t : Term} → IsTyped right t → UsableAs E nil t → Equates E nil right
  equates_nil_right : {left : Operand} {t : Term} → IsTyped left t → UsableAs E nil t → Equates E left nil

-- == and !=
abbrev pub is_equality : CompareOp → Bool
is_equality compare.Equal = true
is_equality compare.NotEqual = true
is_equality op = false

-- ---- indices

-- the index is a whole number from 0 that is representable in int: its value where it is constant
pub data IsIndex (E : Env) : Operand → Option ℕ → Type 0 where
  index_value : {o : Operand} {t : Term} {b : Basic} → is_constant o.mode ≡ false → IsTyped o t → under E.table t ≡ Term-F.Plain b → is_integer (class_of_basic b) ≡ true → IsIndex E o None
  index_typed : {t : Term} {b : Basic} {n : ℕ} → under E.table t ≡ Term-F.Plain b → is_integer (class_of_basic b) ≡ true → is_representable (value.Int (pos n)) basic.Int E.bits ≡ true → IsIndex E (constant_of (constant.OfTerm t) (value.Int (pos n))) (Some n)
  index_untyped : {k : Untyped} {n : ℕ} → is_representable (value.Int (pos n)) basic.Int E.bits ≡ true → IsIndex E (constant_of (constant.OfKind k) (value.Int (pos n))) (Some n)

-- the constant value, where there is one, is below the constant length, where there is one
abbrev pub Below : Option ℕ → Option ℕ → Type 0
Below (Some n) (Some limit) = n < limit
Below n limit = Unit {0}

-- the same up to the length itself
abbrev pub UpTo : Option ℕ → Option ℕ → Type 0
UpTo (Some n) (Some limit) = n ≤ limit
UpTo n limit = Unit {0}

-- the constant values among these ascend, up to the constant length
abbrev pub Ascend : List (Option ℕ) → Option ℕ → Type 0
Ascend [] limit = Unit {0}
Ascend (n ∷ ns) limit = UpTo n limit × Each (UpTo n) ns × Ascend ns limit

-- an array, or a pointer to one
pub data IsArray (E : Env) (t : Term) : Bool → ℕ → Term → Type 0 where
  array_itself : {n : ℕ} {e : Term} → under E.table t ≡ Term-F.Array n e → IsArray E t false n e
  array_pointer : {n : ℕ} {base e : Term} → under E.table t ≡ Term-F.Pointer base → under E.table base ≡ Term-F.Array n e → IsArray E t true n e

-- a string, and its length where it is constant
pub data IsString (E : Env) : Operand → Option ℕ → Type 0 where
  string_value : {o : Operand} {t : Term} → is_constant o.mode ≡ false → IsTyped o t → under E.table t ≡ Term-F.Plain basic.Str → IsString E o None
  string_typed : {t : Term} {s : List ℕ} → under E.table t ≡ Term-F.Plain basic.Str → IsString E (constant_of (constant.OfTerm t) (value.Str s)) (Some (length s))
  string_untyped : {k : Untyped} {s : List ℕ} → IsString E (constant_of (constant.OfKind k) (value.Str s)) (Some (length s))

-- an element, field or operand that was reached from a variable or through a pointer
abbrev pub reached : Bool → Mode
reached true = mode.Variable
reached false = mode.Plain

-- the mode of types
abbrev pub is_type : Mode → Bool
is_type mode.TypeName = true
is_type m = false

-- a composite literal, parentheses aside
pub data IsComposite : Expr → Type 0 where
  composite : {e : Expr} {t : Typ} {xs : List Element} → out-Expr e ≡ Expr-F.Composite t xs → IsComposite e
  composite_array : {e : Expr} {t : Typ} {xs : List Element} → out-Expr e ≡ Expr-F.CompositeArray t xs → IsComposite e
  composite_paren : {e x : Expr} → out-Expr e ≡ Expr-F.«Expr::Paren» x → IsComposite x → IsComposite e

-- a value of the interface type may be one of the other type: an interface, or one that implements it
abbrev pub MayHold : Env → Term → Term → Type 0
MayHold E t u = ((ms : List Method) × (under E.table u ≡ Term-F.Interface ms)) ⊎ Implements E u t

-- the truth or falsehood of a comparison
pub data IsComparison (E : Env) (op : CompareOp) : Operand → Operand → Operand → Type 0 where
  comparison_constant : {b c d : ConstTerm} {v w : Value} {k : Kind} {truth : Bool} → Match E (constant_of b v) (constant_of c w) d → HasKind E d k → comparison_applies op (class_of k) ≡ true → comparison op v w ≡ Some truth → IsComparison E op (constant_of b v) (constant_of c w) (constant_of (constant.OfKind untyped.BoolKind) (value.Truth truth))
  comparison_equality : {left right : Operand} → (is_constant left.mode && is_constant right.mode) ≡ false → is_equality op ≡ true → Equates E left right → IsComparison E op left right (loose untyped.BoolKind)
  comparison_order : {left right : Operand} {d : ConstTerm} {k : Kind} → (is_constant left.mode && is_constant right.mode) ≡ false → is_equality op ≡ false → Match E left right d → HasKind E d k → comparison_applies op (class_of k) ≡ true → IsComparison E op left right (loose untyped.BoolKind)

-- what is sliced, whether by two indices, its constant length, and the result
pub data Slices (E : Env) (simple : Bool) : Operand → Option ℕ → Operand → Type 0 where
  slices_string : {o : Operand} {t : Term} {n : Option ℕ} → simple ≡ true → IsTyped o t → IsString E o n → Slices E simple o n (plain t)
  slices_untyped : {k : Untyped} {s : List ℕ} → simple ≡ true → Slices E simple (constant_of (constant.OfKind k) (value.Str s)) (Some (length s)) (plain (basic_term basic.Str))
  slices_array : {t e : Term} {n : ℕ} → under E.table t ≡ Term-F.Array n e → Slices E simple (variable t) (Some n) (plain (slice_of e))
  slices_array_pointer : {o : Operand} {t base e : Term} {n : ℕ} → IsTyped o t → under E.table t ≡ Term-F.Pointer base → under E.table base ≡ Term-F.Array n e → Slices E simple o (Some n) (plain (slice_of e))
  slices_slice : {o : Operand} {t e : Term} → IsTyped o t → under E.table t ≡ Term-F.Slice e → Slices E simple o None (plain t)

-- an operand with what follows it
abbrev pub chain : Expr → List Post → ExprLayer
chain x [] = out-Expr x
chain x (q ∷ qs) = Expr-F.Primary x (q ∷ qs)

-- a receive
abbrev pub is_receive : ExprLayer → Bool
is_receive (Expr-F.Prefix prefix.Receive e) = true
is_receive l = false

-- the post is a call with these arguments, and whether `...` follows them
pub data IsCall : PostLayer → List Expr → Bool → Type 0 where
  call : {xs : List Expr} {dots : Bool} → IsCall (Post-F.Call xs dots) xs dots
  call_receive_type : {t : Typ} {xs : List Expr} {dots : Bool} → IsCall (Post-F.CallReceiveChan t xs dots) (expr.Type (type.ReceiveChan t) ∷ xs) dots

-- the posts after an operand are some, then a call, then others
pub data CallsAt (e x : Expr) (before : List Post) (c : Post) : Type 0 where
  calls_at : (after : List Post) {es : List Expr} {dots : Bool} → out-Expr e ≡ Expr-F.Primary x (before ++ c ∷ after) → IsCall (out-Post c) es dots → CallsAt e x before c

-- ---- elements of composite literals

-- the field's name that an element has as a key, where the key is a name alone
pub data HasFieldKey : Element → Name → Type 0 where
  field_key : {x : Element} {v : ElementValue} {e : Expr} {n : Name} → (out-Element x).key ≡ Some v → out-ElementValue v ≡ ElementValue-F.Value e → out-Expr e ≡ Expr-F.Name n → HasFieldKey x n

-- the fields of a struct that a literal without keys gives values: exported ones, and those of this package
abbrev pub IsReachable : Env → Field → Type 0
IsReachable E f = ((out-Field f).sel.«package» ≡ []) ⊎ ((out-Field f).sel.«package» ≡ E.path)

-- ---- calls

-- the arguments may be passed to parameters of these types, the last of which may be variadic
pub data ArgumentsFit (E : Env) : (variadic dots : Bool) → List Term → List Operand → Type 0 where
  fits_none : ArgumentsFit E false false [] []
  fits_more : {variadic dots : Bool} {t : Term} {ts : List Term} {o : Operand} {os : List Operand} → UsableAs E o t → ArgumentsFit E variadic dots ts os → ArgumentsFit E variadic dots (t ∷ ts) (o ∷ os)
  fits_slice : {t : Term} {o : Operand} → UsableAs E o t → ArgumentsFit E true true (t ∷ []) (o ∷ [])
  fits_rest : {t e : Term} {os : List Operand} → out-Term t ≡ Term-F.Slice e → Each (λ o. UsableAs E o e) os → ArgumentsFit E true false (t ∷ []) os

-- the conversion of an operand to a type, and what it is
pub data Converts (E : Env) : Operand → Term → Operand → Type 0 where
  converts_constant : {c : ConstTerm} {v w : Value} {t : Term} {b : Basic} {k : Kind} → under E.table t ≡ Term-F.Plain b → is_inexact (class_of_basic b) ≡ false → HasKind E c k → converted v k b E.bits ≡ Some w → Converts E (constant_of c v) t (constant_of (constant.OfTerm t) w)
  converts_inexact : {c : ConstTerm} {x : ℤ} {t : Term} {b : Basic} → under E.table t ≡ Term-F.Plain b → is_inexact (class_of_basic b) ≡ true → Converts E (constant_of c (value.Int x)) t (plain t)
  converts_value : {o : Operand} {t u : Term} → is_constant o.mode ≡ false → IsTyped o u → Convertible E u t → Converts E o t (plain t)
  converts_typed : {v : Value} {t u : Term} → is_composed (under E.table t) ≡ true → Convertible E u t → Converts E (constant_of (constant.OfTerm u) v) t (plain t)
  converts_untyped : {k : Untyped} {v : Value} {t : Term} → is_composed (under E.table t) ≡ true → DefaultHolds E k v → Convertible E (default_type k) t → Converts E (constant_of (constant.OfKind k) v) t (plain t)
  converts_truth : {k : Untyped} {t : Term} → Convertible E (default_type k) t → Converts E (loose k) t (plain t)
  converts_nil : {t : Term} → UsableAs E nil t → Converts E nil t (plain t)

-- the sizes that `make` is given: of two constant ones the first isn't greater than the second
abbrev pub Sizes : List (Option ℕ) → Type 0
Sizes [] = Unit {0}
Sizes (n ∷ []) = Unit {0}
Sizes (n ∷ m ∷ []) = UpTo n m
Sizes ns = ⊥

-- how many sizes a type takes
pub data Makes : Layer → ℕ → Type 0 where
  makes_slice : {e : Term} → Makes (Term-F.Slice e) 1
  makes_slice_with_capacity : {e : Term} → Makes (Term-F.Slice e) 2
  makes_map : {k e : Term} → Makes (Term-F.Map k e) 0
  makes_map_with_room : {k e : Term} → Makes (Term-F.Map k e) 1
  makes_channel : {d : Direction} {e : Term} → Makes (Term-F.Chan d e) 0
  makes_channel_with_buffer : {d : Direction} {e : Term} → Makes (Term-F.Chan d e) 1

-- what has a length that no constant tells
abbrev pub has_length : Layer → Bool
has_length (Term-F.Slice e) = true
has_length (Term-F.Map k e) = true
has_length (Term-F.Chan d e) = true
has_length (Term-F.Plain basic.Str) = true
has_length l = false

-- what has a capacity that no constant tells
abbrev pub has_capacity : Layer → Bool
has_capacity (Term-F.Slice e) = true
has_capacity (Term-F.Chan d e) = true
has_capacity l = false

-- `len` and `cap`, of what is no array
abbrev pub measures : Predeclared → Layer → Bool
measures p.Len l = has_length l
measures p.Cap l = has_capacity l
measures f l = false

-- `len` and `cap`
abbrev pub measures_arrays : Predeclared → Bool
measures_arrays p.Len = true
measures_arrays p.Cap = true
measures_arrays f = false

-- `print` and `println`
abbrev pub prints : Predeclared → Bool
prints p.Print = true
prints p.Println = true
prints f = false

-- a value, which in the end has a type
pub data IsPrinted (E : Env) : Operand → Type 0 where
  printed_typed : {o : Operand} {t : Term} → IsTyped o t → IsPrinted E o
  printed_constant : {k : Untyped} {v : Value} → DefaultHolds E k v → IsPrinted E (constant_of (constant.OfKind k) v)
  printed_truth : {k : Untyped} → IsPrinted E (loose k)

-- the number as a constant of type int
abbrev pub int_constant : ℕ → Operand
int_constant n = constant_of (constant.OfTerm (basic_term basic.Int)) (value.Int (pos n))

mutual
  -- an expression is this operand, whose types are within bounds
  pub data Has (E : Env) : Expr → Operand → Type 0 where
    has_operand : {e : Expr} {o : Operand} → HasForm E (out-Expr e) o → ShapeWithin o.shape → Has E e o

  -- the same, by the form of the expression
  pub data HasForm (E : Env) : ExprLayer → Operand → Type 0 where
    -- literals
    has_int : {x : ℤ} → HasForm E (Expr-F.«Expr::Literal» (literal.Int x)) (constant_of (constant.OfKind untyped.IntKind) (value.Int x))
    has_rune : {c : ℕ} → HasForm E (Expr-F.«Expr::Literal» (literal.Rune c)) (constant_of (constant.OfKind untyped.RuneKind) (value.Int (pos c)))
    has_string : {s : List ℕ} → length s ≤ 65536 → HasForm E (Expr-F.«Expr::Literal» (literal.Str s)) (constant_of (constant.OfKind untyped.StrKind) (value.Str s))
    -- operands
    has_name : {n : Name} {o : Operand} → Denotes E n o → HasForm E (Expr-F.Name n) o
    has_paren : {e : Expr} {o : Operand} → Has E e o → HasForm E (Expr-F.«Expr::Paren» e) o
    has_type : {t : Typ} {u : Term} → OfType E t u → HasForm E (Expr-F.«Expr::Type» t) (type_name u)
    has_receive_type : {t : Typ} {u : Term} → OfType E t u → HasForm E (Expr-F.ParenReceiveChan t) (type_name (channel_of direction.ReceiveOnly u))
    has_function : {g : Sig} {body : BodyRange} {h : Signature} → OfSignature E (out-Sig g).parameters (out-Sig g).result h → HasForm E (Expr-F.FuncLit g body) (plain (function_of h))
    has_composite : {t : Typ} {u : Term} {xs : List Element} → OfType E t u → HasElements E u xs → HasForm E (Expr-F.Composite t xs) (plain u)
    has_composite_array : {t : Typ} {u : Term} {xs : List Element} {n : ℕ} → OfType E t u → HasIndexed E u None 0 xs n → HasForm E (Expr-F.CompositeArray t xs) (plain (array_of n u))
    -- operators before an operand
    has_dereference : {e : Expr} {o : Operand} {t u : Term} → Has E e o → IsTyped o t → under E.table t ≡ Term-F.Pointer u → HasForm E (Expr-F.Prefix prefix.Dereference e) (variable u)
    has_pointer_type : {e : Expr} {t : Term} → Has E e (type_name t) → HasForm E (Expr-F.Prefix prefix.Dereference e) (type_name (pointer_to t))
    has_address : {e : Expr} {t : Term} → Has E e (variable t) → HasForm E (Expr-F.Prefix prefix.Address e) (plain (pointer_to t))
    has_literal_address : {e : Expr} {t : Term} → IsComposite e → Has E e (plain t) → HasForm E (Expr-F.Prefix prefix.Address e) (plain (pointer_to t))
    has_receive : {e : Expr} {o : Operand} {t u : Term} {d : Direction} → Has E e o → IsTyped o t → under E.table t ≡ Term-F.Chan d u → receives d ≡ true → HasForm E (Expr-F.Prefix prefix.Receive e) (plain u)
    has_constant_prefix : {op : PrefixOperator} {u : UnaryOp} {e : Expr} {c : ConstTerm} {v w : Value} {k : Kind} → unary_operator op ≡ Some u → Has E e (constant_of c v) → HasKind E c k → unary_value u v k E.bits ≡ Some w → HasForm E (Expr-F.Prefix op e) (constant_of c w)
    has_prefix : {op : PrefixOperator} {u : UnaryOp} {e : Expr} {o : Operand} {c : ConstTerm} {k : Kind} → unary_operator op ≡ Some u → Has E e o → is_constant o.mode ≡ false → IsOf o c → HasKind E c k → unary_applies u (class_of k) ≡ true → HasForm E (Expr-F.Prefix op e) (computed c)
    -- chains of operators
    has_or : {e : Expr} {es : List Expr} {o r : Operand} → Has E e o → HasLogical E binary.LogicalOr o es r → HasForm E (Expr-F.Or e es) r
    has_and : {e : Expr} {es : List Expr} {o r : Operand} → Has E e o → HasLogical E binary.LogicalAnd o es r → HasForm E (Expr-F.And e es) r
    has_compare : {e : Expr} {ops : List CompareOp} {es : List Expr} {o r : Operand} → Has E e o → HasComparisons E o ops es r → HasForm E (Expr-F.Compare e ops es) r
    has_sum : {e : Expr} {ops : List SumOperator} {es : List Expr} {o r : Operand} → Has E e o → HasSum E o ops es r → HasForm E (Expr-F.Sum e ops es) r
    has_product : {e : Expr} {ops : List ProductOperator} {es : List Expr} {o r : Operand} → Has E e o → HasProduct E o ops es r → HasForm E (Expr-F.Product e ops es) r
    -- an operand and what follows it
    has_primary : {e : Expr} {ps : List Post} {o r : Operand} → Has E e o → HasPosts E o ps r → HasForm E (Expr-F.Primary e ps) r
    has_imported : {e : Expr} {q n : Name} {x : Post} {ps : List Post} {o r : Operand} → out-Expr e ≡ Expr-F.Name q → out-Post x ≡ Post-F.Selector n → DenotesImported E q n o → ShapeWithin o.shape → HasPosts E o ps r → HasForm E (Expr-F.Primary e (x ∷ ps)) r

  -- a chain of `||` or `&&` after an operand
  pub data HasLogical (E : Env) : BinaryOp → Operand → List Expr → Operand → Type 0 where
    logical_none : {op : BinaryOp} {o : Operand} → HasLogical E op o [] o
    logical_more : {op : BinaryOp} {o q r s : Operand} {e : Expr} {es : List Expr} → Has E e q → Computes E op o q r → HasLogical E op r es s → HasLogical E op o (e ∷ es) s

  -- a chain of comparisons after an operand
  pub data HasComparisons (E : Env) : Operand → List CompareOp → List Expr → Operand → Type 0 where
    comparisons_none : {o : Operand} → HasComparisons E o [] [] o
    comparisons_more : {o q r s : Operand} {op : CompareOp} {ops : List CompareOp} {e : Expr} {es : List Expr} → Has E e q → IsComparison E op o q r → HasComparisons E r ops es s → HasComparisons E o (op ∷ ops) (e ∷ es) s

  -- a chain of sums after an operand
  pub data HasSum (E : Env) : Operand → List SumOperator → List Expr → Operand → Type 0 where
    sum_none : {o : Operand} → HasSum E o [] [] o
    sum_more : {o q r s : Operand} {op : SumOperator} {ops : List SumOperator} {e : Expr} {es : List Expr} → Has E e q → Computes E (sum_operator op) o q r → HasSum E r ops es s → HasSum E o (op ∷ ops) (e ∷ es) s

  -- a chain of products and shifts after an operand
  pub data HasProduct (E : Env) : Operand → List ProductOperator → List Expr → Operand → Type 0 where
    product_none : {o : Operand} → HasProduct E o [] [] o
    product_more : {o q r s : Operand} {op : ProductOperator} {ops : List ProductOperator} {e : Expr} {es : List Expr} → Has E e q → ProductComputes E (product_operator op) o q r → HasProduct E r ops es s → HasProduct E o (op ∷ ops) (e ∷ es) s

  -- what follows an operand, each result within bounds
  pub data HasPosts (E : Env) : Operand → List Post → Operand → Type 0 where
    posts_none : {o : Operand} → HasPosts E o [] o
    posts_more : {o q r : Operand} {x : Post} {xs : List Post} → HasPost E o (out-Post x) q → ShapeWithin q.shape → HasPosts E q xs r → HasPosts E o (x ∷ xs) r

  -- one post after an operand
  pub data HasPost (E : Env) : Operand → PostLayer → Operand → Type 0 where
    post_field : {o : Operand} {t u : Term} {n : Name} {through : Bool} → is_blank n.text ≡ false → IsTyped o t → Found E (selector_of E n.text) t (record { through = through; target = found_field u }) → HasPost E o (Post-F.Selector n) (value_of (reached (if through then true else is_variable o.mode)) u)
    post_method : {o : Operand} {t : Term} {n : Name} {g : Signature} → is_blank n.text ≡ false → IsTyped o t → HasMethod E (is_variable o.mode) t (selector_of E n.text) g → HasPost E o (Post-F.Selector n) (plain (function_of g))
    post_method_expression : {t : Term} {n : Name} {g : Signature} → is_blank n.text ≡ false → HasMethod E false t (selector_of E n.text) g → HasPost E (type_name t) (Post-F.Selector n) (plain (function_of (with_receiver t g)))
    post_assertion : {o : Operand} {t u : Term} {ms : List Method} {x : Typ} → IsTyped o t → under E.table t ≡ Term-F.Interface ms → OfType E x u → MayHold E t u → HasPost E o (Post-F.TypeAssertion x) (plain u)
    post_array : {o i : Operand} {t e : Term} {n : ℕ} {c : Option ℕ} {x : Expr} → IsTyped o t → under E.table t ≡ Term-F.Array n e → Has E x i → IsIndex E i c → Below c (Some n) → HasPost E o (Post-F.Index x) (value_of (reached (is_variable o.mode)) e)
    post_array_pointer : {o i : Operand} {t base e : Term} {n : ℕ} {c : Option ℕ} {x : Expr} → IsTyped o t → under E.table t ≡ Term-F.Pointer base → under E.table base ≡ Term-F.Array n e → Has E x i → IsIndex E i c → Below c (Some n) → HasPost E o (Post-F.Index x) (variable e)
    post_slice_index : {o i : Operand} {t e : Term} {c : Option ℕ} {x : Expr} → IsTyped o t → under E.table t ≡ Term-F.Slice e → Has E x i → IsIndex E i c → HasPost E o (Post-F.Index x) (variable e)
    post_string : {o i : Operand} {n c : Option ℕ} {x : Expr} → IsString E o n → Has E x i → IsIndex E i c → Below c n → HasPost E o (Post-F.Index x) (plain (basic_term basic.Uint8))
    post_map : {o i : Operand} {t k e : Term} {x : Expr} → IsTyped o t → under E.table t ≡ Term-F.Map k e → Has E x i → UsableAs E i k → HasPost E o (Post-F.Index x) (value_of mode.MapElement e)
    post_slice : {o r : Operand} {n i j : Option ℕ} {low high : Option Expr} → Slices E true o n r → HasOptional E low i → HasOptional E high j → Ascend (i ∷ j ∷ []) n → HasPost E o (Post-F.«Post::Slice» low high) r
    post_full_slice : {o r : Operand} {n i j k : Option ℕ} {low : Option Expr} {high bound : Expr} → Slices E false o n r → HasOptional E low i → HasOptional E (Some high) j → HasOptional E (Some bound) k → Ascend (i ∷ j ∷ k ∷ []) n → HasPost E o (Post-F.FullSlice low high bound) r
    post_conversion : {x : PostLayer} {e : Expr} {t : Term} {o r : Operand} → IsCall x (e ∷ []) false → Has E e o → Converts E o t r → HasPost E (type_name t) x r
    post_call : {x : PostLayer} {es : List Expr} {dots : Bool} {o : Operand} {t : Term} {g : Signature} {os : List Operand} → IsCall x es dots → IsTyped o t → under E.table t ≡ Term-F.Func g → HasArguments E dots es os → ArgumentsFit E (out-Signature g).variadic dots (out-Signature g).params os → HasPost E o x (results_of (out-Signature g).results)
    post_builtin : {x : PostLayer} {es : List Expr} {dots : Bool} {f : Predeclared} {r : Operand} → IsCall x es dots → HasBuiltin E f es dots r → HasPost E (builtin f) x r

  -- an index that may be left out
  pub data HasOptional (E : Env) : Option Expr → Option ℕ → Type 0 where
    optional_none : HasOptional E None None
    optional_some : {e : Expr} {o : Operand} {c : Option ℕ} → Has E e o → IsIndex E o c → HasOptional E (Some e) c

  -- each expression is the operand at its place
  pub data HasEach (E : Env) : List Expr → List Operand → Type 0 where
    each_none : HasEach E [] []
    each_more : {e : Expr} {es : List Expr} {o : Operand} {os : List Operand} → Has E e o → HasEach E es os → HasEach E (e ∷ es) (o ∷ os)

  -- the arguments of a call: each by itself, or the results of one call
  pub data HasArguments (E : Env) : (dots : Bool) → List Expr → List Operand → Type 0 where
    arguments_each : {dots : Bool} {es : List Expr} {os : List Operand} → HasEach E es os → HasArguments E dots es os
    arguments_tuple : {e : Expr} {ts : List Term} → Has E e (tuple ts) → HasArguments E false (e ∷ []) (map plain ts)

  -- the elements of a composite literal of the type
  pub data HasElements (E : Env) : Term → List Element → Type 0 where
    elements_keyed : {t : Term} {fs : List Field} {xs : List Element} {ns : List (List ℕ)} → under E.table t ≡ Term-F.Struct fs → HasKeyed E fs xs ns → Once ns → HasElements E t xs
    elements_unkeyed : {t : Term} {fs : List Field} {xs : List Element} → under E.table t ≡ Term-F.Struct fs → Entered E t → (E.profile && is_imported_struct E.table t) ≡ false → HasUnkeyed E fs xs → HasElements E t xs
    elements_array : {t e : Term} {n m : ℕ} {xs : List Element} → under E.table t ≡ Term-F.Array n e → HasIndexed E e (Some n) 0 xs m → HasElements E t xs
    elements_slice : {t e : Term} {m : ℕ} {xs : List Element} → under E.table t ≡ Term-F.Slice e → HasIndexed E e None 0 xs m → HasElements E t xs
    elements_map : {t k e : Term} {xs : List Element} → under E.table t ≡ Term-F.Map k e → HasPairs E k e xs → HasElements E t xs

  -- values of fields by their names
  pub data HasKeyed (E : Env) : List Field → List Element → List (List ℕ) → Type 0 where
    keyed_none : {fs : List Field} → HasKeyed E fs [] []
    keyed_more : {fs : List Field} {x : Element} {xs : List Element} {n : Name} {ns : List (List ℕ)} {e : Expr} {o : Operand} (f : Field) → HasFieldKey x n → is_blank n.text ≡ false → In fs f → (out-Field f).sel ≡ selector_of E n.text
        → out-ElementValue (out-Element x).value ≡ ElementValue-F.Value e → Has E e o → UsableAs E o (out-Field f).term → HasKeyed E fs xs ns → HasKeyed E fs (x ∷ xs) (n.text ∷ ns)

  -- a value for each field in order
  pub data HasUnkeyed (E : Env) : List Field → List Element → Type 0 where
    unkeyed_none : HasUnkeyed E [] []
    unkeyed_more : {f : Field} {fs : List Field} {x : Element} {xs : List Element} {e : Expr} {o : Operand} → (out-Element x).key ≡ None → out-ElementValue (out-Element x).value ≡ ElementValue-F.Value e → Has E e o → UsableAs E o (out-Field f).term → IsReachable E f → HasUnkeyed E fs xs → HasUnkeyed E (f ∷ fs) (x ∷ xs)

  -- elements by their indices, the next of which is given; at last one more than the greatest
  pub data HasIndexed (E : Env) : Term → Option ℕ → ℕ → List Element → ℕ → Type 0 where
    indexed_none : {t : Term} {limit : Option ℕ} {next : ℕ} → HasIndexed E t limit next [] 0
    indexed_more : {t : Term} {limit : Option ℕ} {next n : ℕ} {x : Element} {xs : List Element} → (out-Element x).key ≡ None → is_representable (value.Int (pos next)) basic.Int E.bits ≡ true → Below (Some next) limit → ElementFits E t (out-Element x).value → HasIndexed E t limit (suc next) xs n → HasIndexed E t limit next (x ∷ xs) (max (suc next) n)
    indexed_keyed : {t : Term} {limit : Option ℕ} {next at n : ℕ} {x : Element} {xs : List Element} {v : ElementValue} {e : Expr} {o : Operand} → (out-Element x).key ≡ Some v → out-ElementValue v ≡ ElementValue-F.Value e → Has E e o → IsIndex E o (Some at) → Below (Some at) limit → ElementFits E t (out-Element x).value → HasIndexed E t limit (suc at) xs n → HasIndexed E t limit next (x ∷ xs) (max (suc at) n)

  -- keys and elements of a map
  pub data HasPairs (E : Env) : Term → Term → List Element → Type 0 where
    pairs_none : {k t : Term} → HasPairs E k t []
    pairs_more : {k t : Term} {x : Element} {xs : List Element} {v : ElementValue} → (out-Element x).key ≡ Some v → ElementFits E k v → ElementFits E t (out-Element x).value → HasPairs E k t xs → HasPairs E k t (x ∷ xs)

  -- a value of the type, which a literal without a type has, or the address of one of its base
  pub data ElementFits (E : Env) : Term → ElementValue → Type 0 where
    fits_value : {t : Term} {v : ElementValue} {e : Expr} {o : Operand} → out-ElementValue v ≡ ElementValue-F.Value e → Has E e o → UsableAs E o t → ElementFits E t v
    fits_literal : {t : Term} {v : ElementValue} {xs : List Element} → out-ElementValue v ≡ ElementValue-F.«ElementValue::Literal» xs → HasElements E t xs → ElementFits E t v
    fits_address : {t base : Term} {v : ElementValue} {xs : List Element} → out-ElementValue v ≡ ElementValue-F.«ElementValue::Literal» xs → under E.table t ≡ Term-F.Pointer base → HasElements E base xs → ElementFits E t v

  -- a call of a builtin function
  pub data HasBuiltin (E : Env) : Predeclared → List Expr → (dots : Bool) → Operand → Type 0 where
    append_elements : {e : Expr} {es : List Expr} {o : Operand} {os : List Operand} {t u : Term} → Has E e o → IsTyped o t → under E.table t ≡ Term-F.Slice u → HasEach E es os → Each (λ q. UsableAs E q u) os → HasBuiltin E p.Append (e ∷ es) false (plain t)
    append_slice : {e x : Expr} {o q : Operand} {t u : Term} → Has E e o → IsTyped o t → under E.table t ≡ Term-F.Slice u → Has E x q → UsableAs E q (slice_of u) → HasBuiltin E p.Append (e ∷ x ∷ []) true (plain t)
    append_string : {e x : Expr} {o q : Operand} {t : Term} {n : Option ℕ} → Has E e o → IsTyped o t → under E.table t ≡ Term-F.Slice (basic_term basic.Uint8) → Has E x q → IsString E q n → HasBuiltin E p.Append (e ∷ x ∷ []) true (plain t)
    len_string : {e : Expr} {o : Operand} {n : ℕ} → Has E e o → IsString E o (Some n) → is_representable (value.Int (pos n)) basic.Int E.bits ≡ true → HasBuiltin E p.Len (e ∷ []) false (int_constant n)
    array_constant : {f : Predeclared} {e : Expr} {o : Operand} {t u : Term} {pointer : Bool} {n : ℕ} → measures_arrays f ≡ true → Has E e o → IsTyped o t → IsArray E t pointer n u → HoldsNone E e → is_representable (value.Int (pos n)) basic.Int E.bits ≡ true → HasBuiltin E f (e ∷ []) false (int_constant n)
    array_value : {f : Predeclared} {e : Expr} {o : Operand} {t u : Term} {pointer : Bool} {n : ℕ} → measures_arrays f ≡ true → Has E e o → IsTyped o t → IsArray E t pointer n u → HoldsOne E e → HasBuiltin E f (e ∷ []) false (plain (basic_term basic.Int))
    measure : {f : Predeclared} {e : Expr} {o : Operand} {t : Term} → Has E e o → is_constant o.mode ≡ false → IsTyped o t → measures f (under E.table t) ≡ true → HasBuiltin E f (e ∷ []) false (plain (basic_term basic.Int))
    close : {e : Expr} {o : Operand} {t u : Term} {d : Direction} → Has E e o → IsTyped o t → under E.table t ≡ Term-F.Chan d u → sends d ≡ true → HasBuiltin E p.Close (e ∷ []) false no_value
    copy_slice : {e x : Expr} {o q : Operand} {t u v : Term} → Has E e o → IsTyped o t → under E.table t ≡ Term-F.Slice v → Has E x q → IsTyped q u → under E.table u ≡ Term-F.Slice v → HasBuiltin E p.Copy (e ∷ x ∷ []) false (plain (basic_term basic.Int))
    copy_string : {e x : Expr} {o q : Operand} {t : Term} {n : Option ℕ} → Has E e o → IsTyped o t → under E.table t ≡ Term-F.Slice (basic_term basic.Uint8) → Has E x q → IsString E q n → HasBuiltin E p.Copy (e ∷ x ∷ []) false (plain (basic_term basic.Int))
    delete : {e x : Expr} {o q : Operand} {t k u : Term} → Has E e o → IsTyped o t → under E.table t ≡ Term-F.Map k u → Has E x q → UsableAs E q k → HasBuiltin E p.Delete (e ∷ x ∷ []) false no_value
    make : {e : Expr} {es : List Expr} {t : Term} {ns : List (Option ℕ)} → Has E e (type_name t) → HasSizes E es ns → Makes (under E.table t) (length ns) → Sizes ns → HasBuiltin E p.Make (e ∷ es) false (plain t)
    new : {e : Expr} {t : Term} → Has E e (type_name t) → HasBuiltin E p.New (e ∷ []) false (plain (pointer_to t))
    panic : {e : Expr} {o : Operand} → Has E e o → UsableAs E o any_term → HasBuiltin E p.Panic (e ∷ []) false no_value
    print : {f : Predeclared} {es : List Expr} {os : List Operand} → prints f ≡ true → HasEach E es os → Each (IsPrinted E) os → HasBuiltin E f es false no_value
    recover : HasBuiltin E p.Recover [] false (plain any_term)

  -- sizes that `make` is given, with their values where they are constant
  pub data HasSizes (E : Env) : List Expr → List (Option ℕ) → Type 0 where
    sizes_none : HasSizes E [] []
    sizes_more : {e : Expr} {es : List Expr} {o : Operand} {n : Option ℕ} {ns : List (Option ℕ)} → Has E e o → IsIndex E o n → HasSizes E es ns → HasSizes E (e ∷ es) (n ∷ ns)

  -- no receive stands in the expression, and each call in it is a conversion or constant
  pub data HoldsNone (E : Env) : Expr → Type 0 where
    holds_none : {e : Expr} → ((x : Expr) → Stands (at_expression e) (at_expression x) → is_receive (out-Expr x) ≡ false)
        → ((y x : Expr) (before : List Post) (c : Post) → Stands (at_expression e) (at_expression y) → CallsAt y x before c → IsQuietCall E x before c) → HoldsNone E e

  -- a call is a conversion, or constant
  pub data IsQuietCall (E : Env) : Expr → List Post → Post → Type 0 where
    quiet_conversion : {x : Expr} {before : List Post} {c : Post} {t : Term} → HasForm E (chain x before) (type_name t) → IsQuietCall E x before c
    quiet_constant : {x : Expr} {before : List Post} {c : Post} {d : ConstTerm} {v : Value} → HasForm E (chain x (before ++ c ∷ [])) (constant_of d v) → IsQuietCall E x before c

  -- a receive stands in the expression, or a call that is neither a conversion nor constant
  pub data HoldsOne (E : Env) : Expr → Type 0 where
    holds_receive : {e : Expr} (x : Expr) → Stands (at_expression e) (at_expression x) → is_receive (out-Expr x) ≡ true → HoldsOne E e
    holds_call : {e : Expr} (y x : Expr) (before : List Post) (c : Post) {o r : Operand} → Stands (at_expression e) (at_expression y) → CallsAt y x before c → HasForm E (chain x before) o → is_type o.mode ≡ false
        → HasForm E (chain x (before ++ c ∷ [])) r → is_constant r.mode ≡ false → HoldsOne E e

  -- a type form stands for this type, which is within bounds
  pub data OfType (E : Env) : Typ → Term → Type 0 where
    of_type : {t : Typ} {u : Term} → OfForm E (out-Typ t) u → IsWithinBounds u → OfType E t u

  -- the same, by the form of the type form
  pub data OfForm (E : Env) : TypeLayer → Term → Type 0 where
    of_name : {q : QualifiedName} {u : Term} → IsTypeName E q u → OfForm E (Typ-F.«Type::Named» q) u
    of_paren : {t : Typ} {u : Term} → OfType E t u → OfForm E (Typ-F.«Type::Paren» t) u
    of_pointer : {t : Typ} {u : Term} → OfType E t u → OfForm E (Typ-F.Pointer t) (pointer_to u)
    of_slice : {t : Typ} {u : Term} → OfType E t u → OfForm E (Typ-F.«Type::Slice» t) (slice_of u)
    of_array : {e : Expr} {t : Typ} {u : Term} {c : ConstTerm} {n : ℕ} → Has E e (constant_of c (value.Int (pos n))) → is_representable (value.Int (pos n)) basic.Int E.bits ≡ true → OfType E t u → OfForm E (Typ-F.Array e t) (array_of n u)
    of_map : {k t : Typ} {u v : Term} → OfType E k u → OfType E t v → OfForm E (Typ-F.Map k t) (roll-Term (Term-F.Map u v))
    of_channel : {t : Typ} {u : Term} → OfType E t u → OfForm E (Typ-F.Chan t) (channel_of direction.Both u)
    of_send_channel : {t : Typ} {u : Term} → OfType E t u → OfForm E (Typ-F.SendChan t) (channel_of direction.SendOnly u)
    of_receive_channel : {t : Typ} {u : Term} → OfType E t u → OfForm E (Typ-F.ReceiveChan t) (channel_of direction.ReceiveOnly u)
    of_function : {g : Sig} {h : Signature} → OfSignature E (out-Sig g).parameters (out-Sig g).result h → OfForm E (Typ-F.Func g) (function_of h)
    of_struct : {ds : List FieldDecl} {fs : List Field} → OfFields E ds fs → OfForm E (Typ-F.Struct ds) (roll-Term (Term-F.Struct fs))
    of_interface : {xs : List InterfaceElem} (ms all : List Method) → OfMethods E xs all → IsStrictlySortedBy sel_order (map method_sel ms) → ((m : Method) → In ms m → In all m) → ((m : Method) → In all m → In ms m) → OfForm E (Typ-F.Interface xs) (roll-Term (Term-F.Interface ms))

  -- the signature of parameters and a result
  pub data OfSignature (E : Env) : List ParameterDecl → Option FuncResult → Signature → Type 0 where
    signature_alone : {ds : List ParameterDecl} {ts : List Term} {variadic : Bool} → OfParameters E ds ts variadic → OfSignature E ds None (signature ts variadic [])
    signature_result : {ds : List ParameterDecl} {r : FuncResult} {ts us : List Term} {variadic : Bool} → OfParameters E ds ts variadic → OfResult E (out-FuncResult r) us → OfSignature E ds (Some r) (signature ts variadic us)

  -- the types of parameters, and whether the last one is variadic, whose type is the slice of its arguments
  pub data OfParameters (E : Env) : List ParameterDecl → List Term → Bool → Type 0 where
    parameters_none : OfParameters E [] [] false
    parameters_more : {d : ParameterDecl} {ds : List ParameterDecl} {u : Term} {us : List Term} {variadic : Bool} → (out-ParameterDecl d).variadic ≡ false → OfType E (out-ParameterDecl d).type_ u → OfParameters E ds us variadic → OfParameters E (d ∷ ds) (for_names (out-ParameterDecl d).names u ++ us) variadic
    parameters_variadic : {d : ParameterDecl} {u : Term} → (out-ParameterDecl d).variadic ≡ true → length (out-ParameterDecl d).names ≤ 1 → OfType E (out-ParameterDecl d).type_ u → OfParameters E (d ∷ []) (slice_of u ∷ []) true

  -- the types of results
  pub data OfResult (E : Env) : ResultLayer → List Term → Type 0 where
    result_parameters : {ds : List ParameterDecl} {us : List Term} → OfParameters E ds us false → OfResult E (FuncResult-F.Parameters ds) us
    result_type : {t : Typ} {u : Term} → OfType E t u → OfResult E (FuncResult-F.«FuncResult::Type» t) (u ∷ [])

  -- the fields that field declarations declare, in order
  pub data OfFields (E : Env) : List FieldDecl → List Field → Type 0 where
    fields_none : OfFields E [] []
    fields_named : {d : FieldDecl} {ds : List FieldDecl} {ns : List Name} {t : Typ} {tag : Option (List ℕ)} {u : Term} {fs : List Field} → out-FieldDecl d ≡ FieldDecl-F.«FieldDecl::Named» ns t tag → OfType E t u → OfFields E ds fs → OfFields E (d ∷ ds) (map (field_of E false u tag) ns ++ fs)
    fields_embedded : {d : FieldDecl} {ds : List FieldDecl} {star : Bool} {q : QualifiedName} {tag : Option (List ℕ)} (u : Term) {fs : List Field} → out-FieldDecl d ≡ FieldDecl-F.«FieldDecl::Embedded» star q tag → IsTypeName E q u → OfFields E ds fs → OfFields E (d ∷ ds) (field_of E true (starred star u) tag q.name ∷ fs)

  -- the methods that the elements of an interface give, one after another
  pub data OfMethods (E : Env) : List InterfaceElem → List Method → Type 0 where
    methods_none : OfMethods E [] []
    methods_method : {x : InterfaceElem} {xs : List InterfaceElem} {n : Name} {g : Sig} {h : Signature} {ms : List Method} → out-InterfaceElem x ≡ InterfaceElem-F.Method n g → OfSignature E (out-Sig g).parameters (out-Sig g).result h → OfMethods E xs ms → OfMethods E (x ∷ xs) (roll-Method (record { sel = selector_of E n.text; signature = h }) ∷ ms)
    methods_embedded : {x : InterfaceElem} {xs : List InterfaceElem} {q : QualifiedName} (u : Term) {ns ms : List Method} → out-InterfaceElem x ≡ InterfaceElem-F.«InterfaceElem::Embedded» q → IsTypeName E q u → under E.table u ≡ Term-F.Interface ns → OfMethods E xs ms → OfMethods E (x ∷ xs) (ns ++ ms)
