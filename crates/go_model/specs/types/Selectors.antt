-- What a selector means in a type: the field or method at the shallowest depth where there is one.
-- Public source: Go specification, "Selectors" and "Struct types".
use Rattle.std.specs.Prelude.{◌≡◌, ◌<◌, ◌≤◌, ◌⊎◌, ℕ, zero, suc, min, List, [], ◌∷◌, ◌++◌, length, Option, Some, None, Bool, true, false, ◌||◌, if◌then◌else◌}
use Rattle.go_base.specs.Gathered.{gather}
use Rattle.go_model.specs.types.Terms.{Layer, same_sel}
use Rattle.go_model.specs.types.Tables.{Table}
use Rattle.go_model.specs.types.Underlying.{under, fields_of, methods_of, declared_methods}
use Rattle.go_model.specs.declared.types.names.Sel.{Sel}
use Rattle.go_model.specs.declared.types.names.TypeName.{TypeName}
use Rattle.go_model.specs.declared.types.term.Term.{Term, Term-F, out-Term}
use Rattle.go_model.specs.declared.types.term.Field.{Field, out-Field}
use Rattle.go_model.specs.declared.types.term.Method.{Method, out-Method}
use Rattle.go_model.specs.declared.types.term.Signature.{Signature}
use Rattle.go_model.specs.declared.types.package.MethodOf.{MethodOf}
use Rattle.go_model.specs.declared.types.found.Found.{Found}
use Rattle.go_model.specs.declared.types.found.Found.TheVariants as found

-- where a path stands, and whether the type that it began at or an embedded field on it is a pointer
pub record Spot : Type 0 where
  pub through : Bool
  pub term : Term

-- what a path ends in: a field of this type; or a method with the defined type that it is declared for, which an interface's has not, and whether its receiver is a pointer
pub data Target : Type 0 where
  field : Term → Target
  method : Option TypeName → Bool → Signature → Target

-- the end of a path
pub record Ending : Type 0 where
  pub through : Bool
  pub target : Target

-- the base of a pointer type, and any other type as it is
abbrev pub base_layer : Term → Layer → Term
base_layer t (Term-F.Pointer base) = base
base_layer t l = t

abbrev pub base_of : Term → Term
base_of t = base_layer t (out-Term t)

abbrev pub is_pointer_layer : Layer → Bool
is_pointer_layer (Term-F.Pointer base) = true
is_pointer_layer l = false

-- a pointer type that isn't defined
abbrev pub is_pointer : Term → Bool
is_pointer t = is_pointer_layer (out-Term t)

-- the name of a defined type
abbrev pub name_of : Layer → Option TypeName
name_of (Term-F.Named n) = Some n
name_of l = None

abbrev pub field_ending : Sel → Bool → Field → List Ending
field_ending s through f = if same_sel (out-Field f).sel s then record { through = through; target = field (out-Field f).term } ∷ [] else []

abbrev pub declared_ending : Option TypeName → Sel → Bool → MethodOf → List Ending
declared_ending owner s through m = if same_sel m.sel s then record { through = through; target = method owner m.pointer m.signature } ∷ [] else []

abbrev pub method_ending : Sel → Bool → Method → List Ending
method_ending s through m = if same_sel (out-Method m).sel s then record { through = through; target = method None false (out-Method m).signature } ∷ [] else []

abbrev pub step : Bool → Field → List Spot
step through f = if (out-Field f).embedded then record { through = through || is_pointer (out-Field f).term; term = base_of (out-Field f).term } ∷ [] else []

-- one embedded field further
abbrev pub steps : Table → Spot → List Spot
steps T at = gather (step at.through) (fields_of (under T at.term))

-- the fields, declared methods and methods of an interface that the selector names in a type itself
abbrev pub endings : Table → Sel → Spot → List Ending
endings T s at = gather (field_ending s at.through) (fields_of (under T at.term)) ++ gather (declared_ending (name_of (out-Term at.term)) s at.through) (declared_methods T (out-Term at.term)) ++ gather (method_ending s at.through) (methods_of (under T at.term))

-- where each path with this many embedded fields ends
unfoldable pub ends : Table → Sel → ℕ → Spot → List Ending
ends T s zero at = endings T s at
ends T s (suc depth) at = gather (ends T s depth) (steps T at)

-- where paths begin: at the base of a pointer to what is neither a pointer nor an interface, at the base underneath a defined pointer type, else at the type
abbrev pub start_pointer : Term → Term → Layer → Spot
start_pointer t base (Term-F.Pointer u) = record { through = false; term = t }
start_pointer t base (Term-F.Interface ms) = record { through = false; term = t }
start_pointer t base l = record { through = true; term = base }

abbrev pub start_named : Term → Layer → Spot
start_named t (Term-F.Pointer base) = record { through = true; term = base }
start_named t l = record { through = false; term = t }

abbrev pub start_layer : Table → Term → Layer → Spot
start_layer T t (Term-F.Pointer base) = start_pointer t base (under T base)
start_layer T t (Term-F.Named n) = start_named t (under T t)
start_layer T t l = record { through = false; term = t }

abbrev pub start : Table → Term → Spot
start T t = start_layer T t (out-Term t)

-- a defined type with a pointer underneath, through which fields are found and no methods
abbrev pub is_defined_layer : Layer → Layer → Bool
is_defined_layer (Term-F.Named n) (Term-F.Pointer base) = true
is_defined_layer l u = false

abbrev pub is_defined_pointer : Table → Term → Bool
is_defined_pointer T t = is_defined_layer (out-Term t) (under T t)

-- no path ends at a smaller depth
abbrev pub NoneBelow : Table → Sel → Spot → ℕ → Type 0
NoneBelow T s at depth = (k : ℕ) → k < depth → ends T s k at ≡ []

-- exactly one path from the spot ends at the shallowest depth where any does, and there
pub record IsOnly (T : Table) (s : Sel) (at : Spot) (depth : ℕ) (e : Ending) : Type 0 where
  pub none : NoneBelow T s at depth
  pub only : ends T s depth at ≡ e ∷ []

-- a depth, or the greatest that an answer can give
abbrev pub bounded_depth : ℕ → ℕ
bounded_depth depth = min depth 4294967295

-- what the selector finds from a spot; the flag says that methods which paths end in aren't found
abbrev pub FindsFrom : Table → Sel → Spot → Bool → Found → Type 0
FindsFrom T s at hidden (found.FieldAt f) = (depth : ℕ) × IsOnly T s at depth (record { through = f.through_pointer; target = field f.term }) × (f.depth ≡ bounded_depth depth)
FindsFrom T s at hidden (found.MethodAt m) = (depth : ℕ) × IsOnly T s at depth (record { through = m.through_pointer; target = method m.owner m.pointer_receiver m.signature }) × (m.depth ≡ bounded_depth depth) × (hidden ≡ false)
FindsFrom T s at hidden found.Ambiguous = (depth : ℕ) × NoneBelow T s at depth × (2 ≤ length (ends T s depth at))
FindsFrom T s at hidden found.Nothing = ((depth : ℕ) → ends T s depth at ≡ []) ⊎ ((depth : ℕ) × (through : Bool) × (owner : Option TypeName) × (pointer : Bool) × (g : Signature) × IsOnly T s at depth (record { through = through; target = method owner pointer g }) × (hidden ≡ true))

-- what the selector finds in the type
abbrev pub Finds : Table → Sel → Term → Found → Type 0
Finds T s t answer = FindsFrom T s (start T t) (is_defined_pointer T t) answer
