-- The types that two tables share: those of a set of names which is closed under both.
-- Own: what is kept as it is for a client, as types of a standard library that two worlds share.
use Rattle.std.specs.Prelude.{◌≡◌, ◌≢◌, Bool, true, List, [], map, Some}
use Rattle.std.specs.Str.{bytes_eq}
use Rattle.go_base.specs.Lists.{Once, Passes}
use Rattle.go_model.specs.declared.types.names.Sel.{Sel}
use Rattle.go_model.specs.declared.types.names.TypeName.{TypeName}
use Rattle.go_model.specs.declared.types.package.Defined.{Defined}
use Rattle.go_model.specs.declared.types.term.Method.{Method}
use Rattle.go_model.specs.declared.types.term.Term.{Term-F, out-Term}
use Rattle.go_model.specs.types.MethodSets.{method_sel}
use Rattle.go_model.specs.types.Tables.{Table}
use Rattle.go_model.specs.types.Terms.{client_path}
use Rattle.go_model.specs.types.Underlying.{entry}
use Rattle.go_model.specs.worlds.PackageTypes.{defined_selectors}
use Rattle.go_types.specs.Regions.{AgreeOn, IsClosed}

-- an exported selector: it is of no package
abbrev pub is_exported_sel : Sel → Bool
is_exported_sel s = bytes_eq s.«package» []

pub record IsShared (T U : Table) (std : TypeName → Bool) (is_open : Sel → Bool) : Type 0 where
  -- each name of the set has one entry in both tables
  pub entered : (n : TypeName) → std n ≡ true → (d : Defined) × (entry T n ≡ Some d)
  pub agree : AgreeOn std T U
  -- of which the types name types of the set, and have open selectors alone
  pub closed : IsClosed std T
  pub labels : (n : TypeName) (d : Defined) → std n ≡ true → entry T n ≡ Some d → Passes is_open (defined_selectors d)
  -- an interface has each selector once, and no method is declared for it
  pub bare : (n : TypeName) (d : Defined) (ms : List Method) → std n ≡ true → entry T n ≡ Some d → out-Term d.underlying ≡ Term-F.Interface ms → Once (map method_sel ms) × (d.methods ≡ [])
  -- no name of the set and no open selector is a client's, and exported selectors are open
  pub foreign : (n : TypeName) → std n ≡ true → n.path ≢ client_path
  pub strange : (s : Sel) → is_open s ≡ true → s.«package» ≢ client_path
  pub exported : (s : Sel) → s.«package» ≡ [] → is_open s ≡ true
