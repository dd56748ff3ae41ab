-- The local scopes in which a statement stands, the innermost first, and the environment that they give.
-- Public source: Go specification, "Scopes", "Declarations and scope", "Blank identifier" and "Uniqueness of identifiers".
use Rattle.std.specs.Prelude.{◌≡◌, ℕ, true, false, List, [], ◌∷◌, ◌++◌, map, Option, None, Some}
use Rattle.std.specs.Option.{option_or}
use Rattle.go_model.specs.declared.types.package.Entity.{Entity}
use Rattle.go_model.specs.declared.types.package.Entity.TheVariants as entity
use Rattle.go_model.specs.declared.types.term.Term.{Term}
use Rattle.go_typings.specs.go_rules.Environments.{Env}
use Rattle.go_typings.specs.go_rules.Expressions.{is_blank}
use Rattle.go_typings.specs.go_rules.Names.{Named, value_at, with_value}
use Rattle.go_typings.specs.go_rules.Scopes.{innermost}
use Rattle.go_typings.specs.go_rules.declared.seen.Seen.{Seen}
use Rattle.go_typings.specs.go_rules.declared.seen.Seen.TheVariants as seen
use Rattle.go_syntax.specs.declared.name.Name.{Name}
use Rattle.go_syntax.specs.declared.types.FuncResult.{FuncResult, FuncResult-F, out-FuncResult}
use Rattle.go_syntax.specs.declared.types.ParameterDecl.{ParameterDecl, out-ParameterDecl}
use Rattle.go_typings.specs.go_rules.Nodes.{ResultLayer}

-- the names of the opened scopes with what they mean
abbrev pub Scopes : Type 0
Scopes = List (Named Seen)

-- what stands in these scopes is typed in this environment, where `iota` has no value
abbrev pub within : Env → Scopes → Env
within E s = record { meaning = λ name. option_or (innermost s name) (E.meaning name); object = E.object; table = E.table; missing = E.missing; path = E.path; bits = E.bits; profile = E.profile; iota = None }

-- the same with a value of `iota`
abbrev pub at_place : Env → ℕ → Env
at_place E place = record { meaning = E.meaning; object = E.object; table = E.table; missing = E.missing; path = E.path; bits = E.bits; profile = E.profile; iota = Some place }

-- one more scope, without names
abbrev pub opened : Scopes → Scopes
opened s = [] ∷ s

-- the names, where there is one, get these meanings in the innermost scope, which has none of them; a blank name is declared as none
pub data Declares : Scopes → List (Option Name) → List Seen → Scopes → Type 0 where
  declares_none : {s : Scopes} → Declares s [] [] s
  declares_nothing : {s t : Scopes} {ns : List (Option Name)} {m : Seen} {ms : List Seen} → Declares s ns ms t → Declares s (None ∷ ns) (m ∷ ms) t
  declares_blank : {s t : Scopes} {n : Name} {ns : List (Option Name)} {m : Seen} {ms : List Seen} → is_blank n.text ≡ true → Declares s ns ms t → Declares s (Some n ∷ ns) (m ∷ ms) t
  declares_name : {scope : Named Seen} {outer t : Scopes} {n : Name} {ns : List (Option Name)} {m : Seen} {ms : List Seen} → is_blank n.text ≡ false → value_at scope n.text ≡ None
      → Declares (with_value scope n.text m ∷ outer) ns ms t → Declares (scope ∷ outer) (Some n ∷ ns) (m ∷ ms) t

-- variables of these types
abbrev pub locals : List Term → List Seen
locals ts = map seen.Local ts

-- what a constant or variable that is declared in a function means
abbrev pub local_of : Entity → Seen
local_of (entity.Const c v) = seen.LocalConst c v
local_of (entity.Var t) = seen.Local t
local_of x = seen.Object x

-- one for each parameter: its name, where it has one
abbrev pub slots_of : List Name → List (Option Name)
slots_of [] = None ∷ []
slots_of (n ∷ ns) = map Some (n ∷ ns)

abbrev pub parameter_slots : List ParameterDecl → List (Option Name)
parameter_slots [] = []
parameter_slots (d ∷ ds) = slots_of (out-ParameterDecl d).names ++ parameter_slots ds

abbrev pub layer_slots : ResultLayer → List (Option Name)
layer_slots (FuncResult-F.Parameters ds) = parameter_slots ds
layer_slots (FuncResult-F.«FuncResult::Type» t) = None ∷ []

abbrev pub result_slots : Option FuncResult → List (Option Name)
result_slots None = []
result_slots (Some r) = layer_slots (out-FuncResult r)
