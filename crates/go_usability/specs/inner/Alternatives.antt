-- What is left of assigning and converting where no method is asked for.
use Rattle.std.specs.Prelude.{◌≡◌, ◌⊎◌, ◌&&◌, Bool, true, false}
use Rattle.go_model.specs.declared.types.term.Term.{Term, Term-F}
use Rattle.go_model.specs.types.Assignability.{UnderlyingAssigns, ChannelAssigns}
use Rattle.go_model.specs.types.Conversions.{UnderlyingConverts}
use Rattle.go_model.specs.types.Imports.{is_named}
use Rattle.go_model.specs.types.Terms.{Layer}
use Rattle.go_model.specs.types.Underlying.{under}
use Rattle.go_rules.specs.Environments.{Env}

abbrev pub is_interface : Layer → Bool
is_interface (Term-F.Interface ms) = true
is_interface l = false

abbrev pub are_pointers : Layer → Layer → Bool
are_pointers (Term-F.Pointer base) (Term-F.Pointer other) = true
are_pointers k l = false

-- both have identical underlying types, and one isn't named
abbrev pub SameUnnamed : Env → Term → Term → Type 0
SameUnnamed E from to = (under E.table from ≡ under E.table to) × ((is_named from && is_named to) ≡ false)

-- a value of the one type is assignable to the other by what is underneath or by its channel, or isn't
abbrev pub AssignsBeneath : Env → Term → Term → Bool → Type 0
AssignsBeneath E from to true = (from ≡ to) ⊎ (UnderlyingAssigns E.table E.profile from to ⊎ ChannelAssigns E.table from to)
AssignsBeneath E from to false = (UnderlyingAssigns E.table E.profile from to → ⊥) × (ChannelAssigns E.table from to → ⊥)

-- two types are identical, or convertible by what is underneath
abbrev pub ConvertsBeneath : Env → Term → Term → Type 0
ConvertsBeneath E from to = (from ≡ to) ⊎ UnderlyingConverts E.table E.profile from to
