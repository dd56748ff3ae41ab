-- Environments of a client that has no type of its own yet, over tables that share types.
-- Own: the least that two versions of what a client imports can have in common.
use Rattle.std.specs.Prelude.{◌≡◌, ℕ, Bool, true, false, List, [], None, Some}
use Rattle.go_model.specs.declared.types.names.Sel.{Sel}
use Rattle.go_model.specs.declared.types.names.TypeName.{TypeName}
use Rattle.go_model.specs.declared.types.package.Entity.{Entity}
use Rattle.go_model.specs.types.Imports.{is_imported}
use Rattle.go_model.specs.types.Terms.{client_path, is_error}
use Rattle.go_rules.specs.Environments.{Env, is_exported}
use Rattle.go_rules.specs.declared.seen.Seen.{Seen}
use Rattle.go_rules.specs.declared.seen.Seen.TheVariants as seen
use Rattle.go_client_types.specs.Keeping.{EntityReached, SeenReached}
use Rattle.go_shared_types.specs.Sharing.{IsShared}

pub record SharesScope (E F : Env) (std : TypeName → Bool) (is_open : Sel → Bool) : Type 0 where
  pub types : IsShared E.table F.table std is_open
  -- neither has an entry for a type of the client, and no method is missing
  pub no_own : (n : TypeName) → is_imported n ≡ false → is_error n ≡ false → (E.table n ≡ None) × (F.table n ≡ None)
  pub none_missing : (n : TypeName) → (E.missing n ≡ []) × (F.missing n ≡ [])
  -- names mean the same, and the imports have the same objects, all of shared types
  pub meanings : (name : List ℕ) (m : Seen) → E.meaning name ≡ Some m → (F.meaning name ≡ Some m) × SeenReached [] std is_open m
  pub objects : (name path object : List ℕ) (x : Entity) → E.meaning name ≡ Some (seen.Import path) → is_exported object ≡ true → E.object path object ≡ Some x → (F.object path object ≡ Some x) × EntityReached [] std is_open x
  -- both are of a client of the profile
  pub path : F.path ≡ E.path
  pub bits : F.bits ≡ E.bits
  pub iota : F.iota ≡ E.iota
  pub client : E.path ≡ client_path
  pub barred : E.profile ≡ true
  pub barred_too : F.profile ≡ true
