-- Aliases, and what is underneath defined types.
use Rattle.std.specs.Prelude.{◌≡◌, Bool, true, false, ◌&&◌, List, [], ◌∷◌}
use Rattle.go_model.specs.declared.types.package.Entity.{Entity}
use Rattle.go_model.specs.declared.types.package.Entity.TheVariants as entity
use Rattle.go_model.specs.declared.types.term.Term.{Term, out-Term}
use Rattle.go_model.specs.types.Terms.{Layer}
use Rattle.go_model.specs.types.Underlying.{under}
use Rattle.go_rules.specs.Environments.{Env}
use Rattle.go_rules.specs.Expressions.{OfType}
use Rattle.go_syntax.specs.declared.types.«Type».{«Type» as Typ}
use Rattle.go_typings.specs.DeclarationRules.{is_name, is_struct_or_interface}

-- what an alias denotes
abbrev pub IsAliasOf : Env → Typ → List Entity → Type 0
IsAliasOf E t xs = (u : Term) × OfType E t u × (xs ≡ entity.TypeOf u ∷ [])

-- the level may be that of what is underneath a defined type, where structs and interfaces may be barred
abbrev pub MayBeUnderneath : Bool → Layer → Type 0
MayBeUnderneath barred l = (is_name l ≡ false) × (barred ≡ true → is_struct_or_interface l ≡ false)

-- the type is underneath, and may be so
abbrev pub IsUnderneath : Env → Bool → Term → Term → Type 0
IsUnderneath E barred u x = (out-Term x ≡ under E.table u) × MayBeUnderneath barred (out-Term x)

-- the type underneath one that is defined by the form
abbrev pub IsDefinitionOf : Env → Bool → Typ → Term → Type 0
IsDefinitionOf E qualified t x = (u : Term) × OfType E t u × IsUnderneath E (E.profile && qualified) u x
