-- Which types are assignable to which, also in a client of the profile.
-- Public source: Go specification, "Assignability"; what is barred in the profile is own.
use Rattle.std.specs.Prelude.{◌≡◌, ◌&&◌, ◌||◌, Bool, false}
use Rattle.go_model.specs.types.Tables.{Table}
use Rattle.go_model.specs.declared.types.term.Term.{Term, Term-F}
use Rattle.go_model.specs.declared.types.term.Direction.TheVariants as towards
use Rattle.go_model.specs.types.Terms.{Layer}
use Rattle.go_model.specs.types.Underlying.{under}
use Rattle.go_model.specs.types.MethodSets.{Implements}
use Rattle.go_model.specs.types.Imports.{is_named, is_imported_struct}

-- both have identical underlying types, and one isn't named; in the profile neither is a defined struct of another package
pub record UnderlyingAssigns (T : Table) (profile : Bool) (from to : Term) : Type 0 where
  pub same : under T from ≡ under T to
  pub unnamed : (is_named from && is_named to) ≡ false
  pub permitted : (profile && (is_imported_struct T from || is_imported_struct T to)) ≡ false

-- a channel of both directions, and a channel with an identical element
abbrev pub AreChannels : Layer → Layer → Type 0
AreChannels (Term-F.Chan towards.Both e) (Term-F.Chan d f) = e ≡ f
AreChannels k l = ⊥

-- a channel of both directions is assigned to one with an identical element, and one isn't named
pub record ChannelAssigns (T : Table) (from to : Term) : Type 0 where
  pub channels : AreChannels (under T from) (under T to)
  pub unnamed : (is_named from && is_named to) ≡ false

-- a value of the one type is assignable to the other; the flag says whether in a client of the profile
pub data Assignable (T : Table) (profile : Bool) (from to : Term) : Type 0 where
  assign_identical : from ≡ to → Assignable T profile from to
  assign_underlying : UnderlyingAssigns T profile from to → Assignable T profile from to
  assign_interface : Implements T from to → Assignable T profile from to
  assign_channel : ChannelAssigns T from to → Assignable T profile from to
