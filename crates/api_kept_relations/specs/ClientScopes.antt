-- What a client has beside the types of its worlds: what it imports, and its own declarations.
-- Own: the same client on both sides, where some of its types and names may not be had yet.
use Rattle.std.specs.Prelude.{◌≡◌, ◌≢◌, ◌⊎◌, ℕ, Bool, true, false, List, [], Some}
use Rattle.go_model.specs.declared.types.names.Sel.{Sel}
use Rattle.go_model.specs.declared.types.names.TypeName.{TypeName}
use Rattle.go_model.specs.declared.types.package.Defined.{Defined}
use Rattle.go_model.specs.types.Imports.{is_imported}
use Rattle.go_model.specs.types.Terms.{client_path}
use Rattle.go_model.specs.types.Underlying.{entry}
use Rattle.go_model.specs.worlds.Worlds.{Packages, object_in}
use Rattle.go_rules.specs.Environments.{Env}
use Rattle.go_rules.specs.Scopes.{entity_of}
use Rattle.go_rules.specs.declared.seen.Seen.{Seen}
use Rattle.go_rules.specs.declared.seen.Seen.TheVariants as seen
use Rattle.go_type_images.specs.EntryImages.{entry_to}
use Rattle.go_type_images.specs.Images.{Naming}
use Rattle.go_type_images.specs.declared.pair.TypePair.{TypePair}
use Rattle.go_client_types.specs.Keeping.{IsOwnEntry, SeenReached, seen_to}
use Rattle.api_correspond.specs.Publics.{IsPublic, of_std, package_at}

-- the client sees the objects of its worlds, and imports public packages of the module and packages of the standard library that both have
pub record SeesWorlds (old before after : Packages) (E F : Env) : Type 0 where
  pub imports : (name path : List ℕ) → E.meaning name ≡ Some (seen.Import path) → IsPublic old path ⊎ ((of_std (package_at before path) ≡ true) × (of_std (package_at after path) ≡ true))
  pub objects : (path name : List ℕ) → E.object path name ≡ entity_of (object_in (package_at before path) name)
  pub objects_too : (path name : List ℕ) → F.object path name ≡ entity_of (object_in (package_at after path) name)

-- what the client declares has on the new side the images of what it has on the old one, made of types that it reaches
pub record FollowsClient (E F : Env) (r : Naming) (pairs : List TypePair) (std : TypeName → Bool) (is_open : Sel → Bool) : Type 0 where
  pub entries : (n : TypeName) → is_imported n ≡ false → entry F.table n ≡ entry_to r (entry E.table n)
  pub own_entries : (n : TypeName) (d : Defined) → is_imported n ≡ false → entry E.table n ≡ Some d → IsOwnEntry pairs std is_open d
  pub missing : (n : TypeName) → is_imported n ≡ false → F.missing n ≡ E.missing n
  pub none_missing : (n : TypeName) → n.path ≢ client_path → (E.missing n ≡ []) × (F.missing n ≡ [])
  pub meanings : (name : List ℕ) (m : Seen) → E.meaning name ≡ Some m → (F.meaning name ≡ Some (seen_to r m)) × SeenReached pairs std is_open m
  pub path : F.path ≡ E.path
  pub bits : F.bits ≡ E.bits
  pub iota : F.iota ≡ E.iota
  pub client : E.path ≡ client_path
  pub barred : E.profile ≡ true
  pub barred_too : F.profile ≡ true
