-- Environments that have what others have, and may have more: what an expression is stays as it is.
-- Own: that types are had one by one, and methods after the types that they are declared for.
use Rattle.std.specs.Prelude.{◌≡◌, ℕ, true, false, if◌then◌else◌, List, [], ◌∷◌, Some}
use Rattle.go_syntax.specs.go_base.Gathered.{gather}
use Rattle.go_model.specs.declared.types.names.Sel.{Sel}
use Rattle.go_model.specs.declared.types.names.TypeName.{TypeName}
use Rattle.go_model.specs.declared.types.package.Defined.{Defined}
use Rattle.go_model.specs.declared.types.package.Entity.{Entity}
use Rattle.go_model.specs.declared.types.package.MethodOf.{MethodOf}
use Rattle.go_model.specs.types.Terms.{same_sel}
use Rattle.go_model.specs.types.Underlying.{entry}
use Rattle.go_rules.specs.Environments.{Env, is_among}
use Rattle.go_rules.specs.declared.seen.Seen.{Seen}

-- the method, where it has this selector
abbrev pub if_named : Sel → MethodOf → List MethodOf
if_named s m = if same_sel m.sel s then m ∷ [] else []

-- the methods of this selector
abbrev pub methods_named : Sel → List MethodOf → List MethodOf
methods_named s ms = gather (if_named s) ms

-- a defined type that the first environment has: in the second it has the same underlying type, and for each selector
-- of which no method was missing the same methods, and still none missing
pub record Grown (E F : Env) (n : TypeName) (d : Defined) : Type 0 where
  pub grown : Defined
  pub stored : entry F.table n ≡ Some grown
  pub underlying : d.underlying ≡ grown.underlying
  pub methods : (s : Sel) → is_among s (E.missing n) ≡ false → methods_named s d.methods ≡ methods_named s grown.methods
  pub told : (s : Sel) → is_among s (E.missing n) ≡ false → is_among s (F.missing n) ≡ false

-- the second environment has what the first has, at the same place and of the same sizes, and bars nothing more
pub record Grows (E F : Env) : Type 0 where
  pub meaning : (name : List ℕ) (m : Seen) → E.meaning name ≡ Some m → F.meaning name ≡ Some m
  pub object : (path name : List ℕ) (x : Entity) → E.object path name ≡ Some x → F.object path name ≡ Some x
  pub table : (n : TypeName) (d : Defined) → entry E.table n ≡ Some d → Grown E F n d
  pub path : E.path ≡ F.path
  pub bits : E.bits ≡ F.bits
  pub profile : F.profile ≡ true → E.profile ≡ true
  pub iota : E.iota ≡ F.iota

-- the environment without the flag of the profile
abbrev pub unflagged : Env → Env
unflagged E = record { meaning = E.meaning; object = E.object; table = E.table; missing = E.missing; path = E.path; bits = E.bits; profile = false; iota = E.iota }
