-- What structs lose of the fields that are found below the top level.
-- Own: words of the contracts inside this crate.
use Rattle.std.specs.Prelude.{◌≡◌, ◌≤◌, ◌<◌, ℕ, Bool, true, List, Option, None, Some}
use Rattle.go_model.specs.types.Tables.{Table}
use Rattle.go_model.specs.types.Selectors.{Finds}
use Rattle.go_model.specs.worlds.Worlds.{Packages}
use Rattle.go_model.specs.declared.types.names.Sel.{Sel}
use Rattle.go_model.specs.declared.types.found.Found.{Found}
use Rattle.go_model.specs.declared.types.found.Found.TheVariants.{FieldAt}
use Rattle.go_model.specs.declared.types.found.FieldFound.{FieldFound}
use Rattle.go_model.specs.declared.types.term.Term.{Term}
use Rattle.go_type_images.specs.declared.pair.TypePair.{TypePair}
use Rattle.api_correspond.specs.Publics.{types_of, IsExported}
use Rattle.api_correspond.specs.Rules.{CoversSelectable, KeepsSelectable, have_structs}
use Rattle.api_correspond.specs.inner.Members.{OfSome}
use Rattle.api_breaks.specs.declared.broken.Lost.{Lost}
use Rattle.api_breaks.specs.declared.broken.Lost.TheVariants as lost

-- whether a field that was found at least so deep was found through a pointer
abbrev pub ThroughOf : Found → ℕ → Option Bool → Type 0
ThroughOf (FieldAt f) least None = f.depth < least
ThroughOf (FieldAt f) least (Some b) = (least ≤ f.depth) × (f.through_pointer ≡ b)
ThroughOf r least None = Unit {0}
ThroughOf r least (Some b) = ⊥

-- the selector finds a field at least so deep, through a pointer or not
abbrev pub IsThrough : Table → Sel → Term → ℕ → Bool → Type 0
IsThrough T s t least b = (f : FieldFound) × Finds T s t (FieldAt f) × (least ≤ f.depth) × (f.through_pointer ≡ b)

abbrev pub FieldThrough : Table → Sel → Term → ℕ → Option Bool → Type 0
FieldThrough T s t least None = (b : Bool) → IsThrough T s t least b → ⊥
FieldThrough T s t least (Some b) = IsThrough T s t least b

-- a field that was found through a pointer, or not, may become one that is found so
abbrev pub KeepsPointer : Bool → Option Bool → Type 0
KeepsPointer before None = ⊥
KeepsPointer before (Some after) = before ≡ true → after ≡ true

-- an exported selector stays that of a field, where it is one below the top level
abbrev pub KeepsSel : Packages → Packages → TypePair → Sel → Type 0
KeepsSel old new p s = IsExported s → (f : FieldFound) → Finds (types_of old) s p.old (FieldAt f) → 1 ≤ f.depth → KeepsSelectable new p s f

abbrev pub IsSelLoss : Packages → Packages → TypePair → Sel → Lost → Type 0
IsSelLoss old new p s l = IsExported s × ((f : FieldFound) × Finds (types_of old) s p.old (FieldAt f) × (1 ≤ f.depth) × (KeepsSelectable new p s f → ⊥) × (lost.Selectable s.name ≡ l))

abbrev pub AreSelLosses : Packages → Packages → TypePair → List Sel → Lost → Type 0
AreSelLosses old new p = OfSome (IsSelLoss old new p)

abbrev pub KeepsSels : Packages → Packages → TypePair → Type 0
KeepsSels old new p = (s : Sel) (f : FieldFound) → CoversSelectable old new p s f → KeepsSelectable new p s f

abbrev pub IsSelectableLoss : Packages → Packages → TypePair → Lost → Type 0
IsSelectableLoss old new p l = (have_structs old new p ≡ true) × ((s : Sel) × IsSelLoss old new p s l)
