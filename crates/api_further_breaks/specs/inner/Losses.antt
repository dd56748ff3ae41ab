-- What the types of pairs lose, pair by pair.
-- Own: words of the contracts inside this crate.
use Rattle.std.specs.Prelude.{◌≡◌, ◌⊎◌, ℕ, List, [], ◌∷◌}
use Rattle.go_base.specs.Lists.{Has, Once}
use Rattle.go_model.specs.worlds.Worlds.{Packages}
use Rattle.go_type_images.specs.declared.pair.TypePair.{TypePair}
use Rattle.api_correspond.specs.OwnedPairs.{IsOwned}
use Rattle.api_correspond.specs.Rules.{KeepsPair, KeepsAmong}
use Rattle.api_correspond.specs.inner.Members.{OfSome}
use Rattle.api_correspond.specs.inner.Tables.{At}
use Rattle.api_forced.specs.declared.claims.Claim.{Claim}
use Rattle.api_breaks.specs.declared.broken.Break.{Break}
use Rattle.api_breaks.specs.declared.broken.Lost.{Lost}
use Rattle.api_breaks.specs.Breaks.{broken, IsLoss, IsLossAmong}
use Rattle.api_breaks.specs.inner.Telling.{Tells}

-- exactly the owned pairs, each once
pub record HoldOwned (old new : Packages) (pairs : List TypePair) : Type 0 where
  pub once : Once pairs
  pub owned : (p : TypePair) → Has pairs p → IsOwned old new p
  pub complete : (p : TypePair) → IsOwned old new p → Has pairs p

abbrev pub KeepsAll : Packages → Packages → TypePair → Type 0
KeepsAll old new p = KeepsPair old new p × KeepsAmong old new p

abbrev pub IsSomeLoss : Packages → Packages → TypePair → Lost → Type 0
IsSomeLoss old new p l = IsLoss old new p l ⊎ IsLossAmong old new p l

-- what each pair loses, in the same order
abbrev pub AreLosses : Packages → Packages → List TypePair → List (List Lost) → Type 0
AreLosses old new [] [] = Unit {0}
AreLosses old new (p ∷ ps) (ls ∷ lss) = Tells (KeepsAll old new p) (IsSomeLoss old new p) [] ls × AreLosses old new ps lss
AreLosses old new ps lss = ⊥

-- what a claim breaks: the losses of its pair, for its owner
abbrev pub IsOfClaim : List (List ℕ) → List (List Lost) → Claim → Break → Type 0
IsOfClaim owners lss c b = (owner : List ℕ) × (ls : List Lost) × (l : Lost) × At owners c.owner owner × At lss c.pair ls × Has ls l × (broken owner l ≡ b)

abbrev pub AreOfClaims : List (List ℕ) → List (List Lost) → List Claim → Break → Type 0
AreOfClaims owners lss = OfSome (IsOfClaim owners lss)

-- the losses in a list, for an owner
abbrev pub IsOfLost : List ℕ → Lost → Break → Type 0
IsOfLost owner l b = broken owner l ≡ b

abbrev pub AreOfLosses : List ℕ → List Lost → Break → Type 0
AreOfLosses owner ls = OfSome (IsOfLost owner) ls
