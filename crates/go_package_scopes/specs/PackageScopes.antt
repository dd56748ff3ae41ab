-- Scopes in which the declarations of a package are typed, where entries tell what is had of it.
-- Public source: Go specification, "Declarations and scope" and "Method declarations". Own: that what is known of a package
-- is kept by name.
use Rattle.std.specs.Prelude.{◌≡◌, ℕ, false, List, [], Option, None, Some, is_some}
use Rattle.go_model.specs.declared.types.names.Sel.{Sel}
use Rattle.go_model.specs.declared.types.package.Defined.{Defined}
use Rattle.go_model.specs.types.Underlying.{methods_of_entry}
use Rattle.go_rules.specs.Environments.{is_among}
use Rattle.go_rules.specs.Growth.{methods_named}
use Rattle.go_rules.specs.Names.{items_at, value_at}
use Rattle.go_rules.specs.Scopes.{imports_of, lacking, Scopes}
use Rattle.go_typings.specs.Declarations.{declared, declarations, Declaration}
use Rattle.go_typings.specs.PackageEnvironments.{Entries, as_object, import_of, iota_of, missing, own_defined, own_entity, path_in}
use Rattle.go_typings.specs.Receivers.{methods}
use Rattle.go_typings.specs.Sources.{PackageSource, Setting}

-- two tables have the same of a defined type: what is underneath it and, for each selector of which no method is missing, the
-- same methods; and methods of the same selectors are missing
pub record IsSameType (missed lacked : List Sel) (d e : Defined) : Type 0 where
  pub underlying : d.underlying ≡ e.underlying
  pub methods : (s : Sel) → is_among s missed ≡ false → methods_named s d.methods ≡ methods_named s e.methods
  pub told : (s : Sel) → is_among s missed ≡ false → is_among s lacked ≡ false
  pub back : (s : Sel) → is_among s lacked ≡ false → is_among s missed ≡ false

abbrev pub HaveSame : List Sel → List Sel → Option Defined → Option Defined → Type 0
HaveSame missed lacked None None = Unit {0}
HaveSame missed lacked (Some d) (Some e) = IsSameType missed lacked d e
HaveSame missed lacked d e = ⊥

-- the scopes keep what is had of the package under these entries
pub record IsScopeOf (s : Setting) (u : PackageSource) (a : Entries) (c : Scopes) : Type 0 where
  pub world : c.world ≡ s.world
  pub path : c.path ≡ u.path
  pub bits : c.bits ≡ s.bits
  pub profile : c.profile ≡ s.profile
  pub opened : c.opened ≡ []
  pub imports : (file : ℕ) (name : List ℕ) → value_at (imports_of c file) name ≡ path_in (import_of u file name)
  pub announced : (name : List ℕ) → is_some (value_at c.announced name) ≡ is_some (declared (declarations u) name)
  pub objects : (name : List ℕ) → value_at c.declared name ≡ as_object (own_entity u a name)
  pub types : (name : List ℕ) → HaveSame (missing a (methods u name)) (lacking (items_at c.awaited name) (methods_of_entry (value_at c.defined name))) (own_defined u a name) (value_at c.defined name)

-- the scopes where a declaration stands
abbrev pub at_declaration : Scopes → Declaration → Scopes
at_declaration c d = record c { file = d.file; iota = iota_of d.form }
