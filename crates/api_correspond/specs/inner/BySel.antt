-- Tables of the places at which selectors stand.
-- Own: words of the contracts inside these crates.
use Rattle.std.specs.Prelude.{◌≡◌, ◌<◌, ℕ, List, [], ◌∷◌, ◌++◌, Option, None, Some, if◌then◌else◌}
use Rattle.std.specs.BTreeMap.{BTreeMap, get}
use Rattle.go_base.specs.Lists.{Has}
use Rattle.go_model.specs.types.MethodSets.{sel_order}
use Rattle.go_model.specs.types.Terms.{same_sel}
use Rattle.go_model.specs.declared.types.names.Sel.{Sel}
use Rattle.api_correspond.specs.inner.Tables.{At}

abbrev pub PlaceTable : Type 0
PlaceTable = BTreeMap Sel (List ℕ)

abbrev pub numbers_of : Option (List ℕ) → List ℕ
numbers_of None = []
numbers_of (Some numbers) = numbers

-- the places of a selector
abbrev pub places_at : PlaceTable → Sel → List ℕ
places_at m s = numbers_of (get sel_order m s)

-- a place was added to those of a selector
abbrev pub AddsPlace : PlaceTable → PlaceTable → Sel → ℕ → Type 0
AddsPlace old new k at = (s : Sel) → places_at new s ≡ (if same_sel k s then places_at old s ++ at ∷ [] else places_at old s)

-- exactly the places below a number, and all places
pub record ArePlacesBelow (n : ℕ) (sels : List Sel) (m : PlaceTable) : Type 0 where
  pub sound : (s : Sel) (i : ℕ) → Has (places_at m s) i → At sels i s
  pub complete : (s : Sel) (i : ℕ) → i < n → At sels i s → Has (places_at m s) i

pub record ArePlaces (sels : List Sel) (m : PlaceTable) : Type 0 where
  pub sound : (s : Sel) (i : ℕ) → Has (places_at m s) i → At sels i s
  pub complete : (s : Sel) (i : ℕ) → At sels i s → Has (places_at m s) i
