-- Constants of packages whose values are of their types or untyped kinds.
-- Public source: Go specification, "Constants" and "Representability".
use Rattle.std.specs.Prelude.{◌≡◌, ℕ, Bool, true, List, [], None, Some}
use Rattle.go_references.specs.go_base.Keys.{first_with}
use Rattle.go_references.specs.go_base.Lists.{Has}
use Rattle.go_rules.specs.go_model.declared.constants.value.Value.{Value}
use Rattle.go_rules.specs.go_model.declared.types.package.ConstTerm.{ConstTerm}
use Rattle.go_rules.specs.go_model.declared.types.package.Entity.{Entity}
use Rattle.go_rules.specs.go_model.declared.types.package.Entity.TheVariants as entity
use Rattle.go_rules.specs.go_model.worlds.Worlds.{object_in, path_of, table_of}
use Rattle.go_rules.specs.Environments.{Env}
use Rattle.go_rules.specs.KeptConstants.{IsKept}
use Rattle.go_rules.specs.Scopes.{entity_of}
use Rattle.go_typings.specs.Assignments.{At}
use Rattle.go_typings.specs.Declarations.{declarations}
use Rattle.go_typings.specs.PackageEnvironments.{Entries, environment, objects}
use Rattle.go_typings.specs.Sources.{PackageSource, Setting}

-- the packages that imports are of, without a package that is typed
abbrev pub imports_alone : Setting → Env
imports_alone s = record {
  meaning = λ name. None;
  object = λ path name. entity_of (object_in (first_with path_of s.world.packages path) name);
  table = table_of s.world.packages;
  missing = λ n. [];
  path = [];
  bits = s.bits;
  profile = s.profile;
  iota = None;
}

-- the value of each constant of the imports is of its type or untyped kind
abbrev pub ImportsKept : Setting → Type 0
ImportsKept s = (path name : List ℕ) (c : ConstTerm) (v : Value) → (imports_alone s).object path name ≡ Some (entity.Const c v) → IsKept (imports_alone s) c v

-- so is that of each constant of the packages with these paths
abbrev pub ReachedKept : Setting → (List ℕ → Bool) → Type 0
ReachedKept s reached = (path name : List ℕ) (c : ConstTerm) (v : Value) → reached path ≡ true → (imports_alone s).object path name ≡ Some (entity.Const c v) → IsKept (imports_alone s) c v

-- the value of each constant that a declaration is given is of its type or untyped kind
abbrev pub EntriesKept : Setting → PackageSource → Entries → Type 0
EntriesKept s u a = (n : ℕ) (xs : List Entity) (c : ConstTerm) (v : Value) → a n ≡ Some (objects xs) → Has xs (entity.Const c v) → At (declarations u) n (λ d. IsKept (environment s u a d) c v)
