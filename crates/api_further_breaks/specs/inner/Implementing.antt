-- Which interfaces types don't implement any more, place by place.
-- Own: words of the contracts inside this crate.
use Rattle.std.specs.Prelude.{◌≡◌, ◌⊎◌, ℕ, List}
use Rattle.go_model.specs.types.MethodSets.{Implements, method_sel}
use Rattle.go_model.specs.types.Terms.{pointer_to}
use Rattle.go_model.specs.worlds.Worlds.{Packages}
use Rattle.go_model.specs.declared.types.term.Term.{Term}
use Rattle.go_model.specs.declared.types.term.Method.{Method}
use Rattle.go_selectors.specs.Candidates.{Candidates, AreCandidates}
use Rattle.go_type_images.specs.declared.pair.TypePair.{TypePair}
use Rattle.api_correspond.specs.Publics.{types_of}
use Rattle.api_correspond.specs.inner.BySel.{PlaceTable, places_at}
use Rattle.api_correspond.specs.inner.Members.{OfSome}
use Rattle.api_correspond.specs.inner.Tables.{At}
use Rattle.api_breaks.specs.declared.broken.Lost.{Lost}
use Rattle.api_breaks.specs.declared.broken.Lost.TheVariants as lost
use Rattle.api_breaks.specs.inner.Telling.{KeptBy}
use Rattle.api_further_breaks.specs.declared.sealed.SealedPair.{SealedPair}
use Rattle.api_further_breaks.specs.inner.Sealed.{AreSealed}

-- of pairs of sealed interfaces, by what can be called on an old and on a new type
module _ (sealed : List SealedPair) where
  -- where what was called has the methods of the old interface of the pair at a place, what is called has those of the new one
  abbrev pub KeepsAt : Candidates → Candidates → ℕ → Type 0
  KeepsAt callable called at = (r : SealedPair) → At sealed at r → AreCandidates callable r.old.now → AreCandidates called r.new.now

  -- what was called has the methods of the old one, and what is called hasn't those of the new one
  abbrev pub IsLostAt : Candidates → Candidates → ℕ → Lost → Type 0
  IsLostAt callable called at l = (r : SealedPair) × At sealed at r × AreCandidates callable r.old.now × (AreCandidates called r.new.now → ⊥) × (lost.Implements r.pair.now.old ≡ l)

  abbrev pub IsLostOf : Candidates → Candidates → List ℕ → Lost → Type 0
  IsLostOf callable called places = OfSome (IsLostAt callable called) places

  -- of the pairs that stand at the selector of a method
  abbrev pub KeepsOf : PlaceTable → Candidates → Candidates → Method → Type 0
  KeepsOf places callable called m = KeptBy (KeepsAt callable called) (places_at places (method_sel m))

  abbrev pub IsLostBy : PlaceTable → Candidates → Candidates → Method → Lost → Type 0
  IsLostBy places callable called m = IsLostOf callable called (places_at places (method_sel m))

  abbrev pub IsLostBySome : PlaceTable → Candidates → Candidates → List Method → Lost → Type 0
  IsLostBySome places callable called ms = OfSome (IsLostBy places callable called) ms

module _ (old new : Packages) (pairs : List TypePair) where
  -- of all sealed pairs, for an old and a new type
  abbrev pub KeepsInterfaces : Term → Term → Type 0
  KeepsInterfaces t u = (at : ℕ) (i : TypePair) → At pairs at i → AreSealed old new i → Implements (types_of old) t i.old → Implements (types_of new) u i.new

  abbrev pub IsLostInterface : Term → Term → Lost → Type 0
  IsLostInterface t u l = (at : ℕ) × (i : TypePair) × At pairs at i × AreSealed old new i × Implements (types_of old) t i.old × (Implements (types_of new) u i.new → ⊥) × (lost.Implements i.old ≡ l)

  -- for the types of a pair, and the pointers to them
  abbrev pub KeepsBoth : TypePair → Type 0
  KeepsBoth p = KeepsInterfaces p.old p.new × KeepsInterfaces (pointer_to p.old) (pointer_to p.new)

  abbrev pub IsImplementingLoss : TypePair → Lost → Type 0
  IsImplementingLoss p l = IsLostInterface p.old p.new l ⊎ IsLostInterface (pointer_to p.old) (pointer_to p.new) l
