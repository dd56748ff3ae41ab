-- A worklist of claims.
-- Own: words of the contracts inside this crate.
use Rattle.std.specs.Prelude.{◌≡◌, ◌≤◌, ◌<◌, ℕ, List, ◌++◌, length, Option, None, Some}
use lib.ListN.{get_or}
use Rattle.go_base.specs.Lists.{Has, Once}
use Rattle.go_base.specs.Growing.{Grows}
use Rattle.api_forced.specs.declared.claims.Claim.{Claim}
use Rattle.api_correspond.specs.declared.pair.OwnedPair.{OwnedPair}
use Rattle.go_type_images.specs.declared.pair.TypePair.{TypePair}
use Rattle.api_correspond.specs.inner.Members.{OfSome}
use Rattle.api_correspond.specs.OwnedPairs.{pair_of}
use Rattle.api_correspond.specs.inner.Tables.{At}

-- claims grow at their end by those with the property, each stays once
pub record AddsClaims (P : Claim → Type 0) (old new : List Claim) : Type 0 where
  pub more : List Claim
  pub grown : new ≡ old ++ more
  pub grows : Grows P old new
  pub once : Once old → Once new

-- the owner of a pair: its own number comes first
abbrev pub owner_by : Option ℕ → ℕ → ℕ
owner_by None leader = leader
owner_by (Some name) leader = name

-- the claim of a pair to which one with this owner leads
abbrev pub IsClaimOf : List (Option ℕ) → ℕ → ℕ → Claim → Type 0
IsClaimOf own leader pair c = (o : Option ℕ) × At own pair o × (c ≡ record { owner = owner_by o leader; pair = pair })

abbrev pub LedClaims : List (Option ℕ) → ℕ → List ℕ → Claim → Type 0
LedClaims own leader numbers = OfSome (λ j c. IsClaimOf own leader j c) numbers

-- the claims of roots
abbrev pub RootClaims : List (Option ℕ) → List Claim → Claim → Type 0
RootClaims own roots = OfSome (λ r c. IsClaimOf own r.owner r.pair c) roots

-- the claims to which a claim leads
abbrev pub LedBy : List (Option ℕ) → List (List ℕ) → Claim → Claim → Type 0
LedBy own next c d = (numbers : List ℕ) × At next c.pair numbers × LedClaims own c.owner numbers d

-- a claim that comes from a root
pub data Claimed (own : List (Option ℕ)) (next : List (List ℕ)) (roots : List Claim) : Claim → Type 0 where
  by_root : {r c : Claim} → Has roots r → IsClaimOf own r.owner r.pair c → Claimed own next roots c
  by_claim : {c d : Claim} → Claimed own next roots c → LedBy own next c d → Claimed own next roots d

-- exactly the claims that come from the roots, each once
pub record HoldClaims (own : List (Option ℕ)) (next : List (List ℕ)) (roots : List Claim) (claims : List Claim) : Type 0 where
  pub once : Once claims
  pub sound : (c : Claim) → Has claims c → Claimed own next roots c
  pub complete : (c : Claim) → Claimed own next roots c → Has claims c

-- the claim at a place, where there is one
abbrev pub ClaimAt : List Claim → ℕ → Option Claim → Type 0
ClaimAt claims at None = length claims ≤ at
ClaimAt claims at (Some c) = (at < length claims) × (c ≡ get_or claims at c)

-- the pair of a claim, with the text of its owner
abbrev pub IsTaken : List (List ℕ) → List TypePair → Claim → OwnedPair → Type 0
IsTaken texts pairs c r = At texts c.owner r.owner × At pairs c.pair (pair_of r)

-- the pair of the claim was added, where there is one
pub record Takes (texts : List (List ℕ)) (pairs : List TypePair) (c : Claim) (old new : List OwnedPair) : Type 0 where
  pub more : List OwnedPair
  pub grown : new ≡ old ++ more
  pub short : length more ≤ 1
  pub sound : (r : OwnedPair) → Has more r → IsTaken texts pairs c r
  pub complete : (r : OwnedPair) → IsTaken texts pairs c r → Has more r

-- the pairs of the claims, each claim's once
pub record TakesAll (texts : List (List ℕ)) (pairs : List TypePair) (claims : List Claim) (rs : List OwnedPair) : Type 0 where
  pub once : Once texts → Once pairs → Once claims → Once rs
  pub sound : (r : OwnedPair) → Has rs r → OfSome (IsTaken texts pairs) claims r
  pub complete : (r : OwnedPair) → OfSome (IsTaken texts pairs) claims r → Has rs r
