-- Composite literals by their types, and those without a type that stand among their elements.
-- Public source: Go specification, "Composite literals".
use Rattle.std.specs.Prelude.{◌≡◌, List, [], ◌∷◌, ◌++◌, map, Option, None, Some}
use Rattle.go_model.specs.declared.types.term.Term.{Term, Term-F}
use Rattle.go_model.specs.types.Terms.{Layer}
use Rattle.go_model.specs.types.Underlying.{under}
use Rattle.go_rules.specs.Environments.{Env}
use Rattle.go_rules.specs.Nodes.{ValueLayer}
use Rattle.go_syntax.specs.declared.expression.Element.{Element, out-Element}
use Rattle.go_syntax.specs.declared.expression.ElementValue.{ElementValue, ElementValue-F, out-ElementValue}
use Rattle.go_leads.specs.declared.bares.Bare.{Bare}
use Rattle.go_leads.specs.declared.bares.Bares.{Bares}

-- the type and the elements of a literal
abbrev pub Literal : Type 0
Literal = Term × List Element

abbrev pub bare_of : Bare → Literal
bare_of b = (b.term.now, b.elements.now)

-- the literals in turn
abbrev pub bares_in : Bares → List Literal
bares_in bs = map bare_of bs.items.items

-- the last literal was taken, where there was one
abbrev pub Pops : List Literal → List Literal → Option Bare → Type 0
Pops old new None = old ≡ []
Pops old new (Some b) = old ≡ new ++ bare_of b ∷ []

abbrev pub omitted_layer : Term → Layer → Term
omitted_layer t (Term-F.Pointer base) = base
omitted_layer t l = t

-- the type of a literal without a type where a value of this type is wanted: the same, or the base of a pointer type
abbrev pub omitted : Env → Term → Term
omitted E t = omitted_layer t (under E.table t)

-- the literal without a type that is a value of this type
abbrev pub bare_value : Env → Term → ValueLayer → List Literal
bare_value E t (ElementValue-F.Value e) = []
bare_value E t (ElementValue-F.«ElementValue::Literal» ys) = (omitted E t, ys) ∷ []

abbrev pub bare_key : Env → Term → Option ElementValue → List Literal
bare_key E t None = []
bare_key E t (Some key) = bare_value E t (out-ElementValue key)

-- the literals without a type that are values of elements
abbrev pub bare_values : Env → Term → List Element → List Literal
bare_values E t [] = []
bare_values E t (x ∷ xs) = bare_value E t (out-ElementValue (out-Element x).value) ++ bare_values E t xs

-- the literals without a type that are keys and values of elements
abbrev pub bare_pairs : Env → Term → Term → List Element → List Literal
bare_pairs E k t [] = []
bare_pairs E k t (x ∷ xs) = bare_key E k (out-Element x).key ++ bare_value E t (out-ElementValue (out-Element x).value) ++ bare_pairs E k t xs

-- the literals without a type that stand among the elements of a literal of this underlying type
abbrev pub inner : Env → Layer → List Element → List Literal
inner E (Term-F.Array n t) xs = bare_values E t xs
inner E (Term-F.Slice t) xs = bare_values E t xs
inner E (Term-F.Map k t) xs = bare_pairs E k t xs
inner E l xs = []
