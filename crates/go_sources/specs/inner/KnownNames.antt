-- The names that were declared, each with the block that it was declared in, and the first one that was declared before.
-- Own: words of the contracts inside this crate.
use Rattle.std.specs.Prelude.{◌≡◌, ◌≢◌, ◌<◌, ◌⊎◌, ◌↔◌, ℕ, Bool, true, false, List, [], ◌++◌, map, Option, None, Some}
use Rattle.std.specs.Borrow.{Bor}
use Rattle.go_base.specs.Growing.{Grows}
use Rattle.go_base.specs.Lists.{Has}
use Rattle.go_base.specs.declared.text.Text.{Text}
use Rattle.go_syntax.specs.declared.name.Place.{Place}
use Rattle.go_typings.specs.Declarations.{is_init}
use Rattle.go_typings.specs.Redeclarations.{IsLater, Role, of_import, of_package, of_receiver, Site}
use Rattle.go_sources.specs.declared.known_names.ImportName.{ImportName}
use Rattle.go_sources.specs.declared.known_names.KnownNames.{KnownNames}
use Rattle.go_sources.specs.declared.known_names.MethodName.{MethodName}
use Rattle.go_sources.specs.declared.known_names.NameRole.{NameRole}
use Rattle.go_sources.specs.declared.known_names.NameRole.TheVariants as role

-- where a name can't be declared twice
pub data Block : Type 0 where
  -- the imports of the file of this number
  one_file : ℕ → Block
  -- the imports of all files
  all_files : Block
  one_package : Block
  -- the methods of the receiver of this name
  one_receiver : List ℕ → Block

pub record Key : Type 0 where
  pub block : Block
  pub name : List ℕ

abbrev pub key : Block → List ℕ → Key
key b name = record { block = b; name = name }

abbrev pub import_key : ImportName → Key
import_key i = key (one_file i.file) i.name.now

abbrev pub imported_key : Bor Text → Key
imported_key name = key all_files name.now

abbrev pub object_key : Bor Text → Key
object_key name = key one_package name.now

abbrev pub method_key : MethodName → Key
method_key m = key (one_receiver m.receiver.now) m.name.now

-- all names, with their blocks
abbrev pub keys_of : KnownNames → List Key
keys_of known = map import_key known.imports.keys ++ (map imported_key known.imported.keys ++ (map object_key known.objects.keys ++ map method_key known.methods.keys))

abbrev pub role_of : NameRole → Role
role_of (role.Import file) = of_import file
role_of role.«Package» = of_package
role_of (role.Method receiver) = of_receiver receiver.now

-- the keys of a name that is declared so
abbrev pub Puts : List ℕ → Role → Key → Type 0
Puts name (of_import file) k = (key (one_file file) name ≡ k) ⊎ (key all_files name ≡ k)
Puts name of_package k = key one_package name ≡ k
Puts name (of_receiver receiver) k = key (one_receiver receiver) name ≡ k

-- a name can't be declared so beside those of these keys
abbrev pub Bars : List Key → List ℕ → Role → Type 0
Bars keys name (of_import file) = (name ≢ []) × (Has keys (key (one_file file) name) ⊎ Has keys (key one_package name))
Bars keys name of_package = ((is_init name ≡ false) × Has keys (key one_package name)) ⊎ ((name ≢ []) × Has keys (key all_files name))
Bars keys name (of_receiver receiver) = Has keys (key (one_receiver receiver) name)

-- the answer says whether the name may be declared so beside those of the old keys; then it is put to them
pub record Declares (name : List ℕ) (role : Role) (old new : List Key) (is_free : Bool) : Type 0 where
  pub barred : is_free ≡ false → Bars old name role
  pub free : is_free ≡ true → Bars old name role → ⊥
  pub grows : is_free ≡ true → Grows (Puts name role) old new

-- the keys are those of these names
abbrev pub AreKeysOf : List Site → List Key → Type 0
AreKeysOf ss keys = (k : Key) → Has keys k ↔ ((s : Site) × Has ss s × Puts s.name s.role k)

-- the keys are those of these names, of which none was declared before
pub record Visited (ss : List Site) (ks : List Key) : Type 0 where
  pub keys : AreKeysOf ss ks
  pub none : (n : ℕ) (s : Site) → IsLater ss n s → ⊥

-- the first of the names that was declared before stands at this place
pub record IsFirstLater (ss : List Site) (p : Place) : Type 0 where
  pub number : ℕ
  pub site : Site
  pub later : IsLater ss number site
  pub first : (m : ℕ) (t : Site) → m < number → IsLater ss m t → ⊥
  pub place : site.place ≡ p

abbrev pub After : List Site → List Key → Option Place → Type 0
After ss keys None = Visited ss keys
After ss keys (Some p) = IsFirstLater ss p

-- after any names these are visited too, up to the first that was declared before
abbrev pub Steps : List Site → List Key → List Key → Option Place → Type 0
Steps added old new found = (ss : List Site) → Visited ss old → After (ss ++ added) new found
