-- What a world asks of the packages in it, part by part: the shape of the defined types, and the names in the types.
-- Public source: Go specification, "Declarations and scope", "Type definitions" and "Method declarations".
use Rattle.std.specs.Prelude.{◌≡◌, ◌≢◌, [], map, true, Some}
use Rattle.go_base.specs.Keys.{first_with}
use Rattle.go_base.specs.Lists.{Ascending, Each, Has}
use Rattle.go_model.specs.declared.types.names.TypeName.{TypeName}
use Rattle.go_model.specs.declared.types.package.Defined.{Defined}
use Rattle.go_model.specs.declared.types.package.MethodOf.{MethodOf}
use Rattle.go_model.specs.declared.types.package.Package.{Package}
use Rattle.go_model.specs.declared.types.term.Field.{Field, out-Field}
use Rattle.go_model.specs.declared.types.term.Term.{Term-F, out-Term}
use Rattle.go_model.specs.types.Members.{AreOrdered}
use Rattle.go_model.specs.types.Tables.{Table}
use Rattle.go_model.specs.types.Underlying.{fields_of}
use Rattle.go_model.specs.worlds.Worlds.{EntityResolves, Resolves, SignatureResolves, bars_methods, declared_sel, name_of, object_name, type_object}

-- a defined type by its shape
pub record IsShaped (d : Defined) : Type 0 where
  -- what is underneath is no name
  pub structured : (n : TypeName) → out-Term d.underlying ≢ Term-F.Named n
  -- its methods are in order, each once, and none is named `_`
  pub methods : AreOrdered (map declared_sel d.methods)
  -- with a pointer or an interface underneath it has no method
  pub bare : bars_methods (out-Term d.underlying) ≡ true → d.methods ≡ []
  -- no method has the name of a field of the struct underneath
  pub apart : (m : MethodOf) (f : Field) → Has d.methods m → Has (fields_of (out-Term d.underlying)) f
      → (out-Field f).sel.name ≢ m.sel.name

-- a package by its shape: all that a world asks of it besides its path and the types that stand in it
pub record HasShape (p : Package) : Type 0 where
  -- its objects and its defined types are in order of their names, each name once
  pub objects : Ascending (map object_name p.objects)
  pub defined : Ascending (map name_of p.defined)
  pub types : Each IsShaped p.defined
  -- each defined type has its object
  pub declared : Each (λ d. first_with object_name p.objects d.name ≡ Some (type_object p.path d.name)) p.defined

-- each name in the types of a package has an entry
pub record AreResolved (T : Table) (p : Package) : Type 0 where
  pub entities : Each (λ o. EntityResolves T o.entity) p.objects
  pub underlying : Each (λ d. Resolves T d.underlying) p.defined
  pub signatures : Each (λ d. Each (λ m. SignatureResolves T m.signature) d.methods) p.defined
