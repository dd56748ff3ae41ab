-- What the types of a pair lose, rule by rule.
-- Own: words of the contracts inside this crate.
use Rattle.std.specs.Prelude.{◌≡◌, ◌⊎◌, ◌&&◌, ◌||◌, Bool, true, List}
use Rattle.go_base.specs.Lists.{Has}
use Rattle.go_model.specs.types.Terms.{Layer}
use Rattle.go_model.specs.types.Members.{field_sel}
use Rattle.go_model.specs.types.Underlying.{under, fields_of}
use Rattle.go_model.specs.worlds.Worlds.{Packages}
use Rattle.go_model.specs.declared.types.names.Sel.{Sel}
use Rattle.go_model.specs.declared.types.term.Term.{roll-Term}
use Rattle.go_model.specs.declared.types.term.Field.{Field}
use Rattle.go_type_images.specs.declared.pair.TypePair.{TypePair}
use Rattle.api_correspond.specs.Outermost.{SameOutermost}
use Rattle.api_correspond.specs.OwnedPairs.{are_of_module}
use Rattle.go_type_images.specs.Levels.{struct_layer, interface_layer}
use Rattle.api_correspond.specs.Publics.{types_of, IsExported}
use Rattle.api_correspond.specs.Rules.{KeepsType, CoversUnderlying, KeepsUnderlying, CoversField, KeepsField, CoversComparable, KeepsComparable, have_structs}
use Rattle.api_correspond.specs.inner.Members.{OfSome}
use Rattle.api_breaks.specs.declared.broken.Lost.{Lost}
use Rattle.api_breaks.specs.declared.broken.Lost.TheVariants as lost

-- both are structs, or both interfaces
abbrev pub same_form : Layer → Layer → Bool
same_form k l = (struct_layer k && struct_layer l) || (interface_layer k && interface_layer l)

-- the rule on what is underneath, of two levels
abbrev pub KeepsLayer : Packages → Packages → Layer → Layer → Type 0
KeepsLayer old new k l = SameOutermost old new k l ⊎ (same_form k l ≡ true)

abbrev pub IsTypesLoss : Packages → Packages → TypePair → Lost → Type 0
IsTypesLoss old new p l = (KeepsType old new p → ⊥) × (lost.Type p.old p.new ≡ l)

abbrev pub KeepsUnderneath : Packages → Packages → TypePair → Type 0
KeepsUnderneath old new p = CoversUnderlying old new p → KeepsUnderlying old new p

abbrev pub IsUnderlyingLoss : Packages → Packages → TypePair → Lost → Type 0
IsUnderlyingLoss old new p l = CoversUnderlying old new p × (KeepsUnderlying old new p → ⊥) × (lost.Underlying (roll-Term (under (types_of old) p.old)) (roll-Term (under (types_of new) p.new)) ≡ l)

abbrev pub KeepsComparison : Packages → Packages → TypePair → Type 0
KeepsComparison old new p = CoversComparable old new p → KeepsComparable new p

abbrev pub IsComparableLoss : Packages → Packages → TypePair → Lost → Type 0
IsComparableLoss old new p l = CoversComparable old new p × (KeepsComparable new p → ⊥) × (lost.Comparable ≡ l)

-- a field of the selector stands among fields
abbrev pub HasField : List Field → Sel → Type 0
HasField fs s = (f : Field) × Has fs f × (field_sel f ≡ s)

-- an exported field of the old fields is one of the new ones, or none
abbrev pub KeepsIn : List Field → Field → Type 0
KeepsIn gs f = IsExported (field_sel f) → HasField gs (field_sel f)

abbrev pub IsFieldGone : List Field → Field → Lost → Type 0
IsFieldGone gs f l = IsExported (field_sel f) × (HasField gs (field_sel f) → ⊥) × (lost.Field (field_sel f).name ≡ l)

abbrev pub AreFieldsGone : List Field → List Field → Lost → Type 0
AreFieldsGone gs fs = OfSome (IsFieldGone gs) fs

abbrev pub KeepsFields : Packages → Packages → TypePair → Type 0
KeepsFields old new p = (f : Field) → CoversField old new p f → KeepsField new p f

abbrev pub IsFieldsLoss : Packages → Packages → TypePair → Lost → Type 0
IsFieldsLoss old new p l = ((are_of_module old new p && have_structs old new p) ≡ true) × AreFieldsGone (fields_of (under (types_of new) p.new)) (fields_of (under (types_of old) p.old)) l
