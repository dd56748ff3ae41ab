-- The names that are keys of struct literals.
-- Public source: Go specification, "Composite literals".
use Rattle.std.specs.Prelude.{◌≡◌, List, [], ◌∷◌, ◌++◌, Option, None, Some}
use Rattle.go_base.specs.Lists.{Has}
use Rattle.go_model.specs.declared.types.term.Field.{Field}
use Rattle.go_model.specs.declared.types.term.Term.{Term, Term-F}
use Rattle.go_model.specs.types.Terms.{Layer}
use Rattle.go_model.specs.types.Underlying.{under}
use Rattle.go_rules.specs.Environments.{Env}
use Rattle.go_rules.specs.Expressions.{HasFieldKey, OfType, array_of}
use Rattle.go_rules.specs.Nodes.{ExprLayer, Node, ValueLayer, expression, post, value, type, signature}
use Rattle.go_syntax.specs.declared.expression.Element.{Element, out-Element}
use Rattle.go_syntax.specs.declared.expression.ElementValue.{ElementValue, ElementValue-F, out-ElementValue}
use Rattle.go_syntax.specs.declared.expression.Expr.{Expr-F, out-Expr}
use Rattle.go_syntax.specs.declared.name.Name.{Name}
use Rattle.go_typings.specs.References.{HoldsValues, IsOmitted}

-- ---- as lists

-- the name that an expression is
abbrev pub name_alone : ExprLayer → List Name
name_alone (Expr-F.Name n) = n ∷ []
name_alone l = []

abbrev pub value_name : ValueLayer → List Name
value_name (ElementValue-F.Value e) = name_alone (out-Expr e)
value_name (ElementValue-F.«ElementValue::Literal» ys) = []

abbrev pub key_name : Option ElementValue → List Name
key_name None = []
key_name (Some key) = value_name (out-ElementValue key)

-- the keys of elements that are names alone
abbrev pub key_names : List Element → List Name
key_names [] = []
key_names (x ∷ xs) = key_name (out-Element x).key ++ key_names xs

-- the keys of a literal of this underlying type that name fields
abbrev pub field_keys : Layer → List Element → List Name
field_keys (Term-F.Struct fs) xs = key_names xs
field_keys l xs = []

-- ---- as facts

-- the name is the key of a field in a literal of this type with these elements, or in one without a type among them
pub data KeyIn (E : Env) : Term → List Element → Name → Type 0 where
  key_of_field : {t : Term} {fs : List Field} {xs : List Element} {n : Name} (x : Element) → under E.table t ≡ Term-F.Struct fs → Has xs x → HasFieldKey x n → KeyIn E t xs n
  key_in_key : {t k e v : Term} {xs ys : List Element} {key : ElementValue} {n : Name} (x : Element) → Has xs x → (out-Element x).key ≡ Some key → out-ElementValue key ≡ ElementValue-F.«ElementValue::Literal» ys
      → under E.table t ≡ Term-F.Map k e → IsOmitted E k v → KeyIn E v ys n → KeyIn E t xs n
  key_in_value : {t e v : Term} {xs ys : List Element} {n : Name} (x : Element) → Has xs x → out-ElementValue (out-Element x).value ≡ ElementValue-F.«ElementValue::Literal» ys → HoldsValues E t e → IsOmitted E e v → KeyIn E v ys n → KeyIn E t xs n

-- the same of the literal that an expression is
abbrev pub KeyAt : Env → ExprLayer → Name → Type 0
KeyAt E (Expr-F.Composite t xs) n = (v : Term) × OfType E t v × KeyIn E v xs n
KeyAt E (Expr-F.CompositeArray t xs) n = (v : Term) × OfType E t v × KeyIn E (array_of 0 v) xs n
KeyAt E l n = ⊥

-- the same of a tree by itself
abbrev pub KeyHere : Env → Node → Name → Type 0
KeyHere E (expression e) n = KeyAt E (out-Expr e) n
KeyHere E (post p) n = ⊥
KeyHere E (value v) n = ⊥
KeyHere E (type t) n = ⊥
KeyHere E (signature g) n = ⊥
