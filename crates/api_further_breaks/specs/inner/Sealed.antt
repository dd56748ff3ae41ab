-- The pairs of sealed interfaces, and a table of their places.
-- Own: words of the contracts inside this crate.
use Rattle.std.specs.Prelude.{◌≡◌, ◌⊎◌, ◌<◌, ℕ, true, List, [], ◌∷◌, ◌++◌, length, Option, None, Some}
use denote.Ref.{Bor}
use Rattle.go_base.specs.Lists.{Has}
use Rattle.go_model.specs.types.MethodSets.{method_sel}
use Rattle.go_model.specs.types.Underlying.{under, methods_of}
use Rattle.go_model.specs.worlds.Worlds.{Packages}
use Rattle.go_model.specs.declared.types.names.Sel.{Sel}
use Rattle.go_model.specs.declared.types.term.Method.{Method}
use Rattle.go_type_images.specs.declared.pair.TypePair.{TypePair}
use Rattle.go_type_images.specs.Levels.{interface_layer}
use Rattle.api_correspond.specs.Publics.{types_of}
use Rattle.api_correspond.specs.Rules.{is_sealing, IsSealed}
use Rattle.api_correspond.specs.inner.BySel.{PlaceTable, places_at, AddsPlace}
use Rattle.api_correspond.specs.inner.Tables.{At}
use Rattle.api_further_breaks.specs.declared.sealed.SealedPair.{SealedPair}
use Rattle.api_further_breaks.specs.declared.sealed.SealedPairs.{SealedPairs}

-- a method that no other package can declare, where there is one
abbrev pub FirstSealing : Packages → List Method → Option (Bor Method) → Type 0
FirstSealing w ms None = (m : Method) → Has ms m → is_sealing w (method_sel m) ≡ true → ⊥
FirstSealing w ms (Some m) = Has ms m.now × (is_sealing w (method_sel m.now) ≡ true)

-- the old interface of a pair is sealed, and the new type is an interface
abbrev pub AreSealed : Packages → Packages → TypePair → Type 0
AreSealed old new i = IsSealed old i.old × (interface_layer (under (types_of new) i.new) ≡ true)

-- one of the methods of the old interface has the selector
abbrev pub SealsBy : Packages → TypePair → Sel → Type 0
SealsBy old i s = (m : Method) × Has (methods_of (under (types_of old) i.old)) m × (method_sel m ≡ s)

-- a pair of sealed interfaces, with the methods of both
abbrev pub IsSealedPair : Packages → Packages → SealedPair → Type 0
IsSealedPair old new r = AreSealed old new r.pair.now × (r.old.now ≡ methods_of (under (types_of old) r.pair.now.old)) × (r.new.now ≡ methods_of (under (types_of new) r.pair.now.new))

-- a pair was added at a selector by which it is one, where it is such a pair
abbrev pub AddsSealed : Packages → Packages → TypePair → SealedPairs → SealedPairs → Type 0
AddsSealed old new i a b = ((AreSealed old new i → ⊥) × (b ≡ a)) ⊎ ((s : Sel) × (r : SealedPair) × IsSealedPair old new r × (r.pair.now ≡ i) × SealsBy old i s × AddsPlace a.places b.places s (length a.pairs.items) × (b.pairs.items ≡ a.pairs.items ++ r ∷ []))

-- the pair stands at a selector by which it is one
abbrev pub IsPlaced : Packages → SealedPairs → TypePair → Type 0
IsPlaced old a i = (s : Sel) × (j : ℕ) × (r : SealedPair) × SealsBy old i s × Has (places_at a.places s) j × At a.pairs.items j r × (r.pair.now ≡ i)

-- exactly the pairs of sealed interfaces below a number, and all of them
pub record HoldSealedBelow (old new : Packages) (pairs : List TypePair) (n : ℕ) (a : SealedPairs) : Type 0 where
  pub sound : (j : ℕ) (r : SealedPair) → At a.pairs.items j r → ((k : ℕ) × At pairs k r.pair.now) × IsSealedPair old new r
  pub complete : (k : ℕ) (i : TypePair) → k < n → At pairs k i → AreSealed old new i → IsPlaced old a i

pub record HoldSealed (old new : Packages) (pairs : List TypePair) (a : SealedPairs) : Type 0 where
  pub sound : (j : ℕ) (r : SealedPair) → At a.pairs.items j r → ((k : ℕ) × At pairs k r.pair.now) × IsSealedPair old new r
  pub complete : (k : ℕ) (i : TypePair) → At pairs k i → AreSealed old new i → IsPlaced old a i

-- no pair stands at the selector of one of these methods
abbrev pub AreNowhere : PlaceTable → List Method → Type 0
AreNowhere places ms = (m : Method) → Has ms m → places_at places (method_sel m) ≡ []
