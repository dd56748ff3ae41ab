-- Numbered pairs of types with the numbers of those to which each leads, and numbered owners.
-- Own: words of the contracts inside this crate.
use Rattle.std.specs.Prelude.{◌≡◌, ◌≤◌, ℕ, List, [], ◌∷◌, ◌++◌, length, Option, None, Some}
use Rattle.go_base.specs.Lists.{Has}
use Rattle.go_model.specs.worlds.Worlds.{Packages}
use Rattle.go_model.specs.declared.types.names.TypeName.{TypeName}
use Rattle.go_model.specs.declared.types.term.Term.{Term, Term-F, out-Term}
use Rattle.go_type_images.specs.declared.pair.TypePair.{TypePair}
use Rattle.api_correspond.specs.declared.pair.OwnedPair.{OwnedPair}
use Rattle.api_forced.specs.declared.claims.Claim.{Claim}
use Rattle.api_correspond.specs.Publics.{IsPublicName, qualified}
use Rattle.api_correspond.specs.OwnedPairs.{FromObject, Leads, pair_of}
use Rattle.api_correspond.specs.inner.Names.{HasNoPublicName}
use Rattle.api_correspond.specs.inner.Tables.{At}

-- the numbers of the pairs to which a pair leads
pub record LeadsTo (old new : Packages) (pairs : List TypePair) (p : TypePair) (numbers : List ℕ) : Type 0 where
  pub sound : (j : ℕ) → Has numbers j → (q : TypePair) × At pairs j q × Leads old new p q
  pub complete : (q : TypePair) → Leads old new p q → (j : ℕ) × Has numbers j × At pairs j q

-- the first pairs have the numbers of those to which they lead
pub record Followed (old new : Packages) (pairs : List TypePair) (next : List (List ℕ)) : Type 0 where
  pub each : (i : ℕ) (numbers : List ℕ) → At next i numbers → (p : TypePair) × At pairs i p × LeadsTo old new pairs p numbers

-- all pairs have
abbrev pub IsClosed : Packages → Packages → List TypePair → List (List ℕ) → Type 0
IsClosed old new pairs next = Followed old new pairs next × (length next ≡ length pairs)

-- the pairs to which the pair of a number leads, where there is one
abbrev pub FollowedBy : Packages → Packages → List TypePair → ℕ → Option (List TypePair) → Type 0
FollowedBy old new pairs at None = length pairs ≤ at
FollowedBy old new pairs at (Some qs) = (p : TypePair) × At pairs at p × ((q : TypePair) → (Has qs q → Leads old new p q) × (Leads old new p q → Has qs q))

-- the number of the owner that an old type has by its own name
abbrev pub OwnName : Packages → List (List ℕ) → Term → Option ℕ → Type 0
OwnName w texts t None = HasNoPublicName w t
OwnName w texts t (Some k) = (n : TypeName) × (out-Term t ≡ Term-F.Named n) × IsPublicName w n × At texts k (qualified n.path n.name)

-- of the old type of each pair, in order
abbrev pub OwnNames : Packages → List (List ℕ) → List TypePair → List (Option ℕ) → Type 0
OwnNames w texts [] [] = Unit {0}
OwnNames w texts (p ∷ ps) (o ∷ os) = OwnName w texts p.old o × OwnNames w texts ps os
OwnNames w texts ps os = ⊥

-- a pair that is reached from some, which are given
pub data Reached (old new : Packages) (start : List TypePair) : TypePair → Type 0 where
  at_start : {p : TypePair} → Has start p → Reached old new start p
  led_on : {p q : TypePair} → Reached old new start p → Leads old new p q → Reached old new start q

-- the pairs of the exported objects, with the numbers of the objects' names
pub record FromObjects (old new : Packages) (texts : List (List ℕ)) (pairs : List TypePair) (roots : List Claim) : Type 0 where
  pub sound : (c : Claim) → Has roots c → (name : List ℕ) × (p : TypePair) × At texts c.owner name × At pairs c.pair p × FromObject old new name p
  pub complete : (name : List ℕ) (p : TypePair) → FromObject old new name p → (c : Claim) × Has roots c × At texts c.owner name × At pairs c.pair p

-- the numbers of named pairs and of their names
pub record Entered (rs : List OwnedPair) (texts : List (List ℕ)) (pairs : List TypePair) (roots : List Claim) : Type 0 where
  pub sound : (c : Claim) → Has roots c → (r : OwnedPair) × Has rs r × At texts c.owner r.owner × At pairs c.pair (pair_of r)
  pub complete : (r : OwnedPair) → Has rs r → (c : Claim) × Has roots c × At texts c.owner r.owner × At pairs c.pair (pair_of r)

-- no other pairs were entered
abbrev pub AreEntered : List OwnedPair → List TypePair → Type 0
AreEntered rs pairs = (p : TypePair) → Has pairs p → (r : OwnedPair) × Has rs r × (pair_of r ≡ p)

-- the list goes on from another one
abbrev pub Extends : {A : Type 0} → List A → List A → Type 0
Extends {A} old new = (more : List A) × (new ≡ old ++ more)
