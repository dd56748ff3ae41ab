-- The places of methods by their selectors, and selectors in their order.
-- Own: words of the contracts inside this crate.
use Rattle.std.specs.Prelude.{◌≡◌, ℕ, true, List, [], ◌∷◌, slice_get, Option, None, Some, is_some, if◌then◌else◌}
use Rattle.std.specs.BTreeMap.{BTreeMap, get}
use Rattle.go_model.specs.declared.types.names.Sel.{Sel}
use Rattle.go_model.specs.declared.types.package.MethodOf.{MethodOf}
use Rattle.go_model.specs.types.DeclaredMethods.{with_sel}
use Rattle.go_model.specs.types.MethodSets.{sel_order}
use Rattle.go_model.specs.types.Terms.{same_sel}
use Rattle.go_rules.specs.Environments.{is_among}
use Rattle.go_rules.specs.Scopes.{is_had}
use Rattle.go_rules.specs.declared.place.Place.{Place}
use Rattle.go_rules.specs.declared.place.Place.TheVariants as place

-- where the methods of the selector stand: the only one here, several, or none
abbrev pub IsPlace : Sel → List MethodOf → Option Place → Type 0
IsPlace s ms None = with_sel s ms ≡ []
IsPlace s ms (Some (place.Once i)) = (m : MethodOf) × (slice_get ms i ≡ Some m) × (with_sel s ms ≡ m ∷ [])
IsPlace s ms (Some place.Several) = is_had s ms ≡ true

-- each selector has its place
abbrev pub ArePlaces : List MethodOf → BTreeMap Sel Place → Type 0
ArePlaces ms places = (s : Sel) → IsPlace s ms (get sel_order places s)

-- the place of a selector with one more method
abbrev pub noted : Option Place → ℕ → Place
noted None at = place.Once at
noted (Some p) at = place.Several

abbrev pub NotesPlace : BTreeMap Sel Place → BTreeMap Sel Place → Sel → ℕ → Type 0
NotesPlace old new k at = (s : Sel) → get sel_order new s ≡ (if same_sel k s then Some (noted (get sel_order old k) at) else get sel_order old s)

-- the map has exactly the selectors
abbrev pub HoldsEach : List Sel → BTreeMap Sel (Unit {0}) → Type 0
HoldsEach ss m = (s : Sel) → is_some (get sel_order m s) ≡ is_among s ss
