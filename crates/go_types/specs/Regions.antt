-- Sets of names that are closed under a table, and the types whose names are in one.
-- Own: what two tables have in common.
use Rattle.std.specs.Prelude.{◌≡◌, Bool, true, Some}
use Rattle.go_selectors.specs.go_base.Lists.{Has}
use Rattle.go_model.specs.types.Tables.{Table}
use Rattle.go_model.specs.types.Underlying.{entry}
use Rattle.go_model.specs.types.TypeNames.{names, signature_names}
use Rattle.go_model.specs.declared.types.names.TypeName.{TypeName}
use Rattle.go_model.specs.declared.types.package.Defined.{Defined}
use Rattle.go_model.specs.declared.types.package.MethodOf.{MethodOf}
use Rattle.go_model.specs.declared.types.term.Term.{Term}
use Rattle.go_model.specs.declared.types.term.Signature.{Signature}

-- each name in the type is in the set
abbrev pub Within : (TypeName → Bool) → Term → Type 0
Within P t = (n : TypeName) → Has (names t) n → P n ≡ true

abbrev pub SignatureWithin : (TypeName → Bool) → Signature → Type 0
SignatureWithin P g = (n : TypeName) → Has (signature_names g) n → P n ≡ true

-- what is underneath a name of the set and the signatures of its declared methods have their names in it
pub record EntryWithin (P : TypeName → Bool) (d : Defined) : Type 0 where
  pub underneath : Within P d.underlying
  pub signatures : (m : MethodOf) → Has d.methods m → SignatureWithin P m.signature

abbrev pub IsClosed : (TypeName → Bool) → Table → Type 0
IsClosed P T = (n : TypeName) (d : Defined) → P n ≡ true → entry T n ≡ Some d → EntryWithin P d

-- the tables hold the same for each name of the set
abbrev pub AgreeOn : (TypeName → Bool) → Table → Table → Type 0
AgreeOn P A B = (n : TypeName) → P n ≡ true → entry A n ≡ entry B n
