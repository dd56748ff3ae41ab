-- Tables of texts and of pairs of types, whose items go by their numbers.
-- Own: words of the contracts inside this crate.
use Rattle.std.specs.Prelude.{◌≡◌, ◌⊎◌, ◌<◌, ◌≤◌, ℕ, zero, suc, Bool, true, false, List, [], ◌∷◌, ◌++◌, length, map, Option, None, Some}
use denote.Ref.{Bor}
use lib.ListN.{get_or}
use Rattle.go_base.specs.Lists.{Has, Once}
use Rattle.go_type_images.specs.declared.pair.TypePair.{TypePair}
use Rattle.go_type_codes.specs.Codes.{Code, code_of_pair}

-- the item stands at the place
abbrev pub At : {A : Type 0} → List A → ℕ → A → Type 0
At [] i x = ⊥
At (y ∷ ys) zero x = y ≡ x
At (y ∷ ys) (suc i) x = At ys i x

-- an item is at the place of a set, where it is new or was
abbrev pub AddsAt : {A : Type 0} → List A → List A → A → ℕ → Bool → Type 0
AddsAt old new x at true = (new ≡ old ++ x ∷ []) × At new at x × (Has old x → ⊥)
AddsAt old new x at false = (new ≡ old) × At new at x

-- texts grow at their end, each stays once
pub record KeepsTexts (old new : List (List ℕ)) : Type 0 where
  pub more : List (List ℕ)
  pub grown : new ≡ old ++ more
  pub once : Once old → Once new

-- each pair stands once, and its bytes at its place
pub record InStep (codes : List Code) (pairs : List TypePair) : Type 0 where
  pub same : codes ≡ map code_of_pair pairs
  pub once : Once pairs

-- a pair is at the place, the others are where they were, and none but it is new
pub record AddsPair (old new : List TypePair) (p : TypePair) (at : ℕ) : Type 0 where
  pub more : List TypePair
  pub grown : new ≡ old ++ more
  pub only : (q : TypePair) → Has more q → q ≡ p
  pub there : At new at p

-- the item of a list at a place, where there is one
abbrev pub ItemAt : {A : Type 0} → List A → ℕ → Option (Bor A) → Type 0
ItemAt xs at None = length xs ≤ at
ItemAt xs at (Some x) = (at < length xs) × (x.now ≡ get_or xs at x.now)

-- pairs were added, and these are their numbers
pub record AddsPairs (old new ps : List TypePair) (numbers : List ℕ) : Type 0 where
  pub more : List TypePair
  pub grown : new ≡ old ++ more
  pub only : (p : TypePair) → Has more p → Has ps p
  pub sound : (j : ℕ) → Has numbers j → (p : TypePair) × Has ps p × At new j p
  pub complete : (p : TypePair) → Has ps p → (j : ℕ) × Has numbers j × At new j p
