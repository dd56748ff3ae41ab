-- A client's own types on both sides.
-- Own: words on tables.
use Rattle.std.specs.Prelude.{◌≡◌, true, false, Some}
use Rattle.go_base.specs.Lists.{Has}
use Rattle.go_model.specs.declared.types.names.TypeName.{TypeName}
use Rattle.go_model.specs.declared.types.package.Defined.{Defined}
use Rattle.go_model.specs.declared.types.term.Field.{Field, out-Field}
use Rattle.go_model.specs.declared.types.term.Term.{out-Term}
use Rattle.go_model.specs.types.Imports.{is_imported}
use Rattle.go_model.specs.types.Selectors.{base_of}
use Rattle.go_model.specs.types.Tables.{Table}
use Rattle.go_model.specs.types.Underlying.{entry, fields_of}
use Rattle.go_rules.specs.Asks.{IsOwnLayer}
use Rattle.go_type_images.specs.EntryImages.{entry_to}
use Rattle.go_type_images.specs.Images.{Naming}

-- a client's own types, and predeclared ones: they keep their names, have the images of their entries, and embed their like alone
pub record OwnTypes (T U : Table) (r : Naming) : Type 0 where
  pub named : (n : TypeName) → is_imported n ≡ false → r n ≡ n
  pub entries : (n : TypeName) → is_imported n ≡ false → entry U n ≡ entry_to r (entry T n)
  pub embeds : (n : TypeName) (d : Defined) (f : Field) → is_imported n ≡ false → entry T n ≡ Some d → Has (fields_of (out-Term d.underlying)) f → (out-Field f).embedded ≡ true → IsOwnLayer (out-Term (base_of (out-Field f).term))
