-- The declared methods of a selector, and what a table tells of them.
-- Public source: Go specification, "Method declarations".
use Rattle.std.specs.Prelude.{◌≡◌, List, [], ◌∷◌, if◌then◌else◌}
use Rattle.go_base.specs.Gathered.{gather}
use Rattle.go_model.specs.types.Terms.{same_sel}
use Rattle.go_model.specs.declared.types.names.Sel.{Sel}
use Rattle.go_model.specs.declared.types.package.MethodOf.{MethodOf}
use Rattle.go_model.specs.declared.types.declared_method.DeclaredMethod.{DeclaredMethod}
use Rattle.go_model.specs.declared.types.declared_method.DeclaredMethod.TheVariants as told

-- the method, where it has the selector
abbrev pub having : Sel → MethodOf → List MethodOf
having s m = if same_sel m.sel s then m ∷ [] else []

-- those of the methods that have the selector
abbrev pub with_sel : Sel → List MethodOf → List MethodOf
with_sel s ms = gather (having s) ms

-- the methods are none, or exactly this one, or nothing is told of them
abbrev pub TellsMethod : List MethodOf → DeclaredMethod → Type 0
TellsMethod ms told.Absent = ms ≡ []
TellsMethod ms (told.Once m) = ms ≡ m.now ∷ []
TellsMethod ms told.Unknown = Unit {0}
