-- The objects that names of a declaration are given in the scope of their package.
-- Own: words of the contracts inside this crate.
use Rattle.std.specs.Prelude.{ℕ, suc, Bool, false, ◌&&◌, if◌then◌else◌, nat_eq, List, [], ◌∷◌, Option, None, Some, is_some, slice_get}
use Rattle.go_declared.specs.declared.names.NamePlace.{NamePlace}
use Rattle.go_model.specs.declared.types.package.Entity.{Entity}
use Rattle.go_rules.specs.Names.{Named, value_at, with_value}
use Rattle.go_rules.specs.declared.seen.Seen.{Seen}
use Rattle.go_syntax.specs.declared.name.Name.{Name}
use Rattle.go_typings.specs.PackageEnvironments.{as_object}

-- the name is declared first by the declaration of this number, at this place
abbrev pub is_at : Option NamePlace → ℕ → ℕ → Bool
is_at None number place = false
is_at (Some p) number place = nat_eq p.number number && nat_eq p.place place

-- what the name at a place of the declaration means then, where it is declared first there
abbrev pub object_at : Named NamePlace → ℕ → List Entity → ℕ → List ℕ → Option Seen
object_at t number xs place name = if is_at (value_at t name) number place then as_object (slice_get xs place) else None

-- with a meaning for a name that has none
abbrev pub with_new : Named Seen → List ℕ → Option Seen → Named Seen
with_new old name None = old
with_new old name (Some s) = if is_some (value_at old name) then old else with_value old name s

-- with the meanings of these names of the declaration, from a place on
abbrev pub with_objects : Named NamePlace → ℕ → List Entity → ℕ → List Name → Named Seen → Named Seen
with_objects t number xs place [] old = old
with_objects t number xs place (n ∷ ns) old = with_objects t number xs (suc place) ns (with_new old n.text (object_at t number xs place n.text))
