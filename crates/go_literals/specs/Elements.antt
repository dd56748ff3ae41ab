-- One element of a composite literal.
-- Public source: Go specification, "Composite literals".
use Rattle.std.specs.Prelude.{◌≡◌, ◌<◌, ℕ, suc, max, pos, true, false, ◌&&◌, List, [], ◌∷◌, ◌++◌, Option, None, Some}
use Rattle.go_base.specs.Lists.{Has as In}
use Rattle.go_model.specs.constants.Constants.{is_representable}
use Rattle.go_model.specs.declared.constants.value.Basic.TheVariants as basic
use Rattle.go_model.specs.declared.constants.value.Value.TheVariants as value
use Rattle.go_model.specs.declared.types.names.Sel.{Sel}
use Rattle.go_model.specs.declared.types.term.Field.{Field, out-Field}
use Rattle.go_model.specs.declared.types.term.Term.{Term, Term-F}
use Rattle.go_model.specs.types.Terms.{Layer}
use Rattle.go_model.specs.types.Underlying.{under}
use Rattle.go_rules.specs.Environments.{Env, selector_of}
use Rattle.go_rules.specs.Expressions.{Below, ElementFits, Has, HasElements, HasFieldKey, HasIndexed, HasKeyed, HasPairs, HasUnkeyed, IsIndex, IsReachable, is_blank}
use Rattle.go_rules.specs.Nodes.{Node, optional, value as value_node}
use Rattle.go_rules.specs.Usability.{UsableAs}
use Rattle.go_rules.specs.declared.operand.Operand.{Operand}
use Rattle.go_syntax.specs.declared.expression.Element.{Element, out-Element}
use Rattle.go_syntax.specs.declared.expression.ElementValue.{ElementValue, ElementValue-F, out-ElementValue}
use Rattle.go_syntax.specs.declared.expression.Expr.{Expr}
use Rattle.go_syntax.specs.declared.name.Name.{Name}

-- the parts of an element
abbrev pub parts_of : Element → List Node
parts_of x = optional value_node (out-Element x).key ++ value_node (out-Element x).value ∷ []

-- the expression is usable as a value of the type
abbrev pub ExprFits : Env → Term → Expr → Type 0
ExprFits E t e = (o : Operand) × Has E e o × UsableAs E o t

-- a field with the selector takes the operand
abbrev pub Takes : Env → List Field → Sel → Operand → Type 0
Takes E fs s o = (f : Field) × In fs f × ((out-Field f).sel ≡ s) × UsableAs E o (out-Field f).term

-- a field of the name takes the expression
pub record NamedFits (E : Env) (fs : List Field) (n : Name) (e : Expr) : Type 0 where
  pub names : is_blank n.text ≡ false
  pub operand : Operand
  pub has : Has E e operand
  pub takes : Takes E fs (selector_of E n.text) operand

-- the element is a value of the field that its key names
pub record KeyedFits (E : Env) (fs : List Field) (x : Element) : Type 0 where
  pub name : Name
  pub key : HasFieldKey x name
  pub expr : Expr
  pub is : out-ElementValue (out-Element x).value ≡ ElementValue-F.Value expr
  pub fits : NamedFits E fs name expr

-- the element, without a key, is a value of the field
pub record UnkeyedFits (E : Env) (f : Field) (x : Element) : Type 0 where
  pub no_key : (out-Element x).key ≡ None
  pub expr : Expr
  pub is : out-ElementValue (out-Element x).value ≡ ElementValue-F.Value expr
  pub fits : ExprFits E (out-Field f).term expr
  pub reachable : IsReachable E f

-- each element is a value of the field that its key names, in whichever order
pub data EachKeyed (E : Env) (fs : List Field) : List Element → Type 0 where
  keyed_end : EachKeyed E fs []
  keyed_next : {x : Element} {xs : List Element} → KeyedFits E fs x → EachKeyed E fs xs → EachKeyed E fs (x ∷ xs)

-- the constant index that a key is
abbrev pub IsKeyIndex : Env → ElementValue → ℕ → Type 0
IsKeyIndex E v at = (e : Expr) × (o : Operand) × (out-ElementValue v ≡ ElementValue-F.Value e) × Has E e o × IsIndex E o (Some at)

-- the place of an element: that of its key, or the next one
abbrev pub IsPlace : Env → Option ElementValue → ℕ → ℕ → Type 0
IsPlace E None next at = (at ≡ next) × (is_representable (value.Int (pos next)) basic.Int E.bits ≡ true)
IsPlace E (Some v) next at = IsKeyIndex E v at

-- the same within the limit, where there is one
abbrev pub IsPlaceWithin : Env → Option ℕ → ℕ → Option ElementValue → ℕ → Type 0
IsPlaceWithin E limit next key at = IsPlace E key next at × Below (Some at) limit

-- the element stands at the place, and is a value of the type
abbrev pub IndexedFits : Env → Term → Option ℕ → ℕ → Element → ℕ → Type 0
IndexedFits E t limit next x at = IsPlaceWithin E limit next (out-Element x).key at × ElementFits E t (out-Element x).value

-- the elements from the next place on, where the greatest place before them is one less than this
abbrev pub IndexedFrom : Env → Term → Option ℕ → ℕ → ℕ → List Element → ℕ → Type 0
IndexedFrom E t limit next greatest xs length = (n : ℕ) × HasIndexed E t limit next xs n × (length ≡ max greatest n)

-- the element is a key and a value of a map
abbrev pub PairFits : Env → Term → Term → Element → Type 0
PairFits E k t x = (v : ElementValue) × ((out-Element x).key ≡ Some v) × ElementFits E k v × ElementFits E t (out-Element x).value

-- the elements stand at places within the limit, and are values of the type
abbrev pub AreIndexed : Env → Term → Option ℕ → List Element → Type 0
AreIndexed E t limit xs = (n : ℕ) × HasIndexed E t limit 0 xs n

-- elements in braces alone: those of a value of the type, or of the base to which it points
abbrev pub BareFits : Env → Term → Layer → List Element → Type 0
BareFits E t (Term-F.Pointer base) xs = HasElements E base xs
BareFits E t l xs = HasElements E t xs
