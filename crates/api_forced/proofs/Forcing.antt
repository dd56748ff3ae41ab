-- The claims over all pairs that are reached from the exported objects' are the owned pairs.
use Rattle.std.proofs.Common.{◌≡◌, ℕ, Option, List, [], sym, subst}
use Rattle.go_base.specs.Lists.{Has, Once}
use Rattle.go_model.specs.worlds.Worlds.{Packages}
use Rattle.go_type_images.specs.declared.pair.TypePair.{TypePair}
use Rattle.api_correspond.specs.declared.pair.OwnedPair.{OwnedPair}
use Rattle.api_correspond.specs.OwnedPairs.{FromObject, pair_of}
use Rattle.api_forced.specs.Ownerships.{IsOwnership}
use Rattle.api_correspond.specs.inner.Tables.{KeepsTexts}
use Rattle.api_forced.specs.declared.claims.Claim.{Claim}
use Rattle.api_forced.specs.inner.Claims.{HoldClaims}
use Rattle.api_forced.specs.inner.Graphs.{Entered, AreEntered, Extends, IsClosed, OwnNames, FromObjects, Reached}
use Rattle.api_forced.proofs.Claiming.{all_claims}
use Rattle.api_forced.proofs.Entering.{entered_on}

module _ (old new : Packages) where
  -- the pairs of the objects, entered
  from_entered : (found : List OwnedPair) (texts : List (List ℕ)) (pairs : List TypePair) (roots : List Claim) → ((r : OwnedPair) → Has found r → FromObject old new r.owner (pair_of r)) → ((r : OwnedPair) → FromObject old new r.owner (pair_of r) → Has found r) → Entered found texts pairs roots → FromObjects old new texts pairs roots
  from_entered found texts pairs roots s c e = record {
    sound = λ d h. (let k = e.sound d h in (k.0.owner, pair_of k.0, k.2, k.3, s k.0 k.1));
    complete = λ name p f. e.complete (record { owner = name; old = p.old; new = p.new }) (c (record { owner = name; old = p.old; new = p.new }) f);
  }

  pub ownership_exact : (found : List OwnedPair) (none texts more : List (List ℕ)) (pairs grown : List TypePair) (roots : List Claim) (own : List (Option ℕ)) (next : List (List ℕ)) (claims : List Claim) → ((r : OwnedPair) → Has found r → FromObject old new r.owner (pair_of r)) → ((r : OwnedPair) → FromObject old new r.owner (pair_of r) → Has found r) → none ≡ [] → KeepsTexts none texts → Entered found texts pairs roots → AreEntered found pairs → Extends pairs grown → Once grown → IsClosed old new grown next → ((p : TypePair) → Has grown p → Reached old new pairs p) → KeepsTexts texts more → OwnNames old more grown own → HoldClaims own next roots claims → IsOwnership old new more grown claims
  ownership_exact found none texts more pairs grown roots own next claims s c z k e a x o d t l n h =
      all_claims old new more grown own next roots claims n d
      (from_entered found more grown roots s c (entered_on found texts more pairs grown roots l x.0 x.1 e))
      h pairs (λ p i. let r = a p i in (r.0.owner, subst (FromObject old new r.0.owner) r.2 (s r.0 r.1))) t (l.once (k.once (subst Once (sym z) tt))) o
