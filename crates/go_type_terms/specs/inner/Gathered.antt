-- The methods of an interface, gathered element by element under their selectors.
use Rattle.std.specs.Prelude.{◌≡◌, ◌⊎◌, ◌↔◌, Bool, true, false, List, map, Result, Ok, Err}
use Rattle.std.specs.Map.{keys_of, values_of}
use Rattle.go_base.specs.Lists.{Has as In}
use Rattle.go_model.specs.declared.types.names.Sel.{Sel}
use Rattle.go_model.specs.declared.types.names.TypeName.{TypeName}
use Rattle.go_model.specs.declared.types.term.Method.{Method}
use Rattle.go_model.specs.declared.types.term.Term.{Term-F}
use Rattle.go_model.specs.types.MethodSets.{method_sel}
use Rattle.go_model.specs.types.Tables.{Table}
use Rattle.go_model.specs.types.Terms.{Layer}
use Rattle.go_model.specs.types.Underlying.{under_layer}
use Rattle.go_syntax.specs.declared.types.InterfaceElem.{InterfaceElem}
use Rattle.go_rules.specs.Environments.{Env}
use Rattle.go_rules.specs.Expressions.{OfMethods}
use Rattle.go_rules.specs.Nodes.{Node}
use Rattle.go_type_terms.specs.Loudness.{AreLoud}
use Rattle.go_type_terms.specs.Members.{IsOrdered}
use Rattle.go_type_terms.specs.declared.error.ExprError.{ExprError}
use Rattle.go_type_terms.specs.declared.error.ExprError.TheVariants.{NoMemory, Untyped}

-- methods under selectors
abbrev pub Entries : Type 0
Entries = List (Sel × Method)

-- each method stands under its selector
abbrev pub AreKeyed : Entries → Type 0
AreKeyed es = map method_sel (values_of es) ≡ keys_of es

-- the method stands among the others; or another one of its selector does
abbrev pub Notes : Entries → Entries → Method → Bool → Type 0
Notes old new m true = AreKeyed new × ((x : Method) → In (values_of new) x ↔ ((m ≡ x) ⊎ In (values_of old) x))
Notes old new m false = (x : Method) × In (values_of old) x × (method_sel x ≡ method_sel m) × (x ≡ m → ⊥)

-- the methods stand among the others
abbrev pub Takes : Entries → Entries → List Method → Type 0
Takes old new ms = AreKeyed new × ((x : Method) → In (values_of new) x ↔ (In ms x ⊎ In (values_of old) x))

-- two of the methods, or one of them and one that stands there, have one selector and differ
abbrev pub Clashes : Entries → List Method → Type 0
Clashes old ms = (x : Method) × (y : Method) × (In ms x ⊎ In (values_of old) x) × In ms y × (method_sel x ≡ method_sel y) × (x ≡ y → ⊥)

abbrev pub NotesAll : Entries → Entries → List Method → Bool → Type 0
NotesAll old new ms true = Takes old new ms
NotesAll old new ms false = Clashes old ms

-- the methods of which the fact holds stand among the others; there are none, or they can't stand there
abbrev pub Gathers : (List Method → Type 0) → Entries → Entries → Result (Unit {0}) ExprError → Type 0
Gathers fact old new (Ok a) = (ms : List Method) × fact ms × Takes old new ms
Gathers fact old new (Err NoMemory) = Unit {0}
Gathers fact old new (Err Untyped) = (ms : List Method) → fact ms → Clashes old ms

-- the same, with the flag of these trees
abbrev pub GathersOf : Env → (List Method → Type 0) → List Node → Entries → Entries → Result Bool ExprError → Type 0
GathersOf E fact ns old new (Ok loud) = ((ms : List Method) × fact ms × Takes old new ms) × AreLoud E ns loud
GathersOf E fact ns old new (Err NoMemory) = Unit {0}
GathersOf E fact ns old new (Err Untyped) = (ms : List Method) → fact ms → Clashes old ms

-- the type has one of the names
abbrev pub Among : List TypeName → Layer → Type 0
Among names l = (n : TypeName) × In names n × (l ≡ Term-F.Named n)

-- each of the names is that of an interface whose methods stand there
abbrev pub AreGathered : Table → List TypeName → Entries → Type 0
AreGathered T names es = (n : TypeName) → In names n → (ms : List Method) × (under_layer T (Term-F.Named n) ≡ Term-F.Interface ms) × ((x : Method) → In ms x → In (values_of es) x)

-- the methods of the elements in order, each once
abbrev pub AreMethods : Env → List InterfaceElem → List Method → Type 0
AreMethods E xs ms = (all : List Method) × OfMethods E xs all × IsOrdered all ms
