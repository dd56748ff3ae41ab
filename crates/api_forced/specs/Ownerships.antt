-- Which exported object owns which pair of types, by numbers.
-- Own: the pairs are told once, and their owners beside them.
use Rattle.std.specs.Prelude.{ℕ, List}
use Rattle.go_base.specs.Lists.{Has, Once}
use Rattle.go_model.specs.worlds.Worlds.{Packages}
use Rattle.go_type_images.specs.declared.pair.TypePair.{TypePair}
use Rattle.api_correspond.specs.OwnedPairs.{IsOwned, Owned}
use Rattle.api_correspond.specs.inner.Tables.{At}
use Rattle.api_forced.specs.declared.claims.Claim.{Claim}

-- exactly the owned pairs: each stands once, and so does each owner and each claim
pub record IsOwnership (old new : Packages) (owners : List (List ℕ)) (pairs : List TypePair) (claims : List Claim) : Type 0 where
  pub once_owners : Once owners
  pub once_pairs : Once pairs
  pub once_claims : Once claims
  pub sound : (c : Claim) → Has claims c → (owner : List ℕ) × (p : TypePair) × At owners c.owner owner × At pairs c.pair p × Owned old new owner p
  pub complete : (owner : List ℕ) (p : TypePair) → Owned old new owner p → (c : Claim) × Has claims c × At owners c.owner owner × At pairs c.pair p
  pub owned : (p : TypePair) → Has pairs p → IsOwned old new p
