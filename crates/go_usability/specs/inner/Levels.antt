-- The types on the levels of a search, by how many embedded fields lead to them.
use Rattle.std.specs.Prelude.{◌≤◌, ℕ, zero, suc, Bool, true, false, Option, Some, None, List, [], ◌∷◌, if◌then◌else◌}
use Rattle.go_base.specs.Gathered.{gather}
use Rattle.go_base.specs.Lists.{Has}
use Rattle.go_model.specs.declared.types.found.Found.{Found as Find}
use Rattle.go_model.specs.declared.types.found.Found.TheVariants as find
use Rattle.go_model.specs.declared.types.names.Sel.{Sel}
use Rattle.go_model.specs.declared.types.names.TypeName.{TypeName}
use Rattle.go_model.specs.declared.types.term.Field.{Field, out-Field}
use Rattle.go_model.specs.declared.types.term.Method.{Method, out-Method}
use Rattle.go_model.specs.declared.types.term.Term.{Term}
use Rattle.go_model.specs.types.Selectors.{base_of, start}
use Rattle.go_model.specs.types.Tables.{Table}
use Rattle.go_model.specs.types.Underlying.{under, fields_of}
use Rattle.go_rules.specs.Environments.{Env, Begins, Told, ToldTo}
use Rattle.go_types.specs.Parts.{Known, Pushed}

-- the type that an embedded field leads to
abbrev pub embedded : Field → List Term
embedded f = if (out-Field f).embedded then base_of (out-Field f).term ∷ [] else []

-- the types one embedded field further
abbrev pub further : Table → Term → List Term
further T t = gather embedded (fields_of (under T t))

-- the types so many embedded fields further
abbrev pub level : Table → ℕ → Term → List Term
level T zero t = t ∷ []
level T (suc k) t = gather (further T) (level T k t)

-- each type on the levels down to this depth is told
abbrev pub ToldDown : Env → Sel → ℕ → Term → Type 0
ToldDown E s depth t = (k : ℕ) → k ≤ depth → (u : Term) → Has (level E.table k t) u → Told E s u

-- the type is told for the selector of each method
abbrev pub ToldEach : Env → List Method → Term → Type 0
ToldEach E ms t = (m : Method) → Has ms m → Told E (out-Method m).sel t

-- each type on any level is
abbrev pub ToldWhole : Env → List Method → Term → Type 0
ToldWhole E ms t = (k : ℕ) (u : Term) → Has (level E.table k t) u → ToldEach E ms u

-- it is known where paths from the type begin, and each type on the levels down to this depth is told
abbrev pub ToldFrom : Env → Sel → ℕ → Term → Type 0
ToldFrom E s depth t = Begins E t × ToldTo E s depth (start E.table t)

-- it is known where paths from the type begin, and each type on any level is told for the selector of each method
abbrev pub ToldFor : Env → List Method → Term → Type 0
ToldFor E ms t = Begins E t × ToldWhole E ms (start E.table t).term

-- the depth at which something was found
abbrev pub depth_of : Find → Option ℕ
depth_of (find.FieldAt f) = Some f.depth
depth_of (find.MethodAt m) = Some m.depth
depth_of find.Ambiguous = None
depth_of find.Nothing = None

-- the types were added
abbrev pub PushesAll : List Term → List TypeName → List Term → List TypeName → List Term → Type 0
PushesAll old seen new newer ts = Pushed (Has ts) old seen new newer × (Known old seen → (u : Term) → Has ts u → Has new u)

-- a level was visited: a type of it isn't told, or each is, and the types one field further were added
abbrev pub Visits : Env → Sel → List Term → List Term → List TypeName → List Term → List TypeName → Bool → Type 0
Visits E s layer old seen new newer false = (u : Term) × Has layer u × (Told E s u → ⊥)
Visits E s layer old seen new newer true = ((u : Term) → Has layer u → Told E s u) × PushesAll old seen new newer (gather (further E.table) layer)
