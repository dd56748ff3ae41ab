-- The breaks of all rules.
use Rattle.std.proofs.Common.{◌≡◌, ◌↔◌, ◌≤◌, ◌<◌, ◌⊎◌, inl, inr, ℕ, zero, suc, List, [], ◌∷◌, ◌++◌, length, take, get_or, refl, sym, ap, ◌∙◌, subst, arith}
use Rattle.go_base.specs.Growing.{Grows}
use Rattle.go_base.specs.Lists.{Has}
use Rattle.go_base.proofs.Lists.{take_past}
use Rattle.go_selectors.proofs.Lists.{has_none}
use Rattle.go_model.specs.worlds.Worlds.{Packages}
use Rattle.go_type_images.specs.declared.pair.TypePair.{TypePair}
use Rattle.api_correspond.specs.OwnedPairs.{Owned}
use Rattle.api_correspond.specs.Rules.{KeepsPath, KeepsPair, KeepsAmong, IsSealedPair, Compatible}
use Rattle.api_correspond.specs.inner.Tables.{At}
use Rattle.api_correspond.proofs.Growing.{grows_none, grows_one, grows_as}
use Rattle.api_correspond.proofs.Places.{at_within, at_same, at_get, at_has, has_at}
use Rattle.api_forced.specs.declared.claims.Claim.{Claim}
use Rattle.api_forced.specs.Ownerships.{IsOwnership}
use Rattle.api_breaks.specs.declared.broken.Break.{Break}
use Rattle.api_breaks.specs.declared.broken.Lost.{Lost}
use Rattle.api_breaks.specs.Breaks.{broken, IsPackageBreak, IsLoss, IsLossAmong, not_implementing, pointer_not_implementing, not_apart, IsBreak, of_packages, of_pair, of_pairs}
use Rattle.api_breaks.specs.inner.Telling.{Tells}
use Rattle.api_breaks.proofs.Telling.{told_both}
use Rattle.api_further_breaks.specs.inner.Implementing.{KeepsBoth, IsImplementingLoss}
use Rattle.api_further_breaks.specs.inner.Losses.{HoldOwned, KeepsAll, IsSomeLoss, AreLosses, IsOfClaim, AreOfClaims, IsOfLost, AreOfLosses}
use Rattle.api_further_breaks.specs.inner.Partners.{KeepsPartners, IsPartnersLoss}
use Rattle.api_further_breaks.specs.inner.Sealed.{AreSealed}
use Rattle.api_further_breaks.proofs.NoBreak.{kept_whole}

module _ (old new : Packages) where
  -- the rules on two pairs, over all owned ones
  module _ (pairs : List TypePair) (o : HoldOwned old new pairs) (p : TypePair) where
    pub among_exact : (a b c : List Lost) → Tells (KeepsBoth old new pairs p) (IsImplementingLoss old new pairs p) a b → Tells (KeepsPartners old new pairs p) (IsPartnersLoss old new pairs p) b c → Tells (KeepsAmong old new p) (IsLossAmong old new p) a c
    among_exact a b c s t = told_both a b c kept of_implementing of_partners back s t
      where
        placed : (i : TypePair) → IsSealedPair old new i → (j : ℕ) × At pairs j i
        placed i x = has_at pairs i (o.complete i x.owned)

        kept : KeepsBoth old new pairs p → KeepsPartners old new pairs p → KeepsAmong old new p
        kept k w = record {
          implements = λ i x. (let j = placed i x.sealed in k.0 j.0 i j.1 (x.sealed.sealed, x.sealed.still) x.before);
          pointer_implements = λ i x. (let j = placed i x.sealed in k.1 j.0 i j.1 (x.sealed.sealed, x.sealed.still) x.before);
          one_to_one = λ q x. w q (o.complete q x.owned) x.in_module;
        }

        sealed : (j : ℕ) (i : TypePair) → At pairs j i → AreSealed old new i → IsSealedPair old new i
        sealed j i h w = record { owned = o.owned i (at_has pairs j i h); sealed = w.0; still = w.1 }

        of_implementing : (l : Lost) → IsImplementingLoss old new pairs p l → IsLossAmong old new p l
        of_implementing l (inl k) = not_implementing k.1 (record { sealed = sealed k.0 k.1 k.2 k.3; before = k.4 }) k.5 k.6
        of_implementing l (inr k) = pointer_not_implementing k.1 (record { sealed = sealed k.0 k.1 k.2 k.3; before = k.4 }) k.5 k.6

        of_partners : (l : Lost) → IsPartnersLoss old new pairs p l → IsLossAmong old new p l
        of_partners l k = not_apart k.0 (record { in_module = k.2; owned = o.owned k.0 k.1 }) k.3 k.4

        back : (l : Lost) → IsLossAmong old new p l → IsImplementingLoss old new pairs p l ⊎ IsPartnersLoss old new pairs p l
        back l (not_implementing i x n e) = let j = placed i x.sealed in inl (inl (j.0, i, j.1, (x.sealed.sealed, x.sealed.still), x.before, n, e))
        back l (pointer_not_implementing i x n e) = let j = placed i x.sealed in inl (inr (j.0, i, j.1, (x.sealed.sealed, x.sealed.still), x.before, n, e))
        back l (not_apart q x n e) = inr (q, o.complete q x.owned, x.in_module, n, e)

    pub all_exact : (a b c : List Lost) → Tells (KeepsPair old new p) (IsLoss old new p) a b → Tells (KeepsAmong old new p) (IsLossAmong old new p) b c → Tells (KeepsAll old new p) (IsSomeLoss old new p) a c
    all_exact a b c s t = told_both a b c (λ k l. (k, l)) (λ l h. inl h) (λ l h. inr h) (λ l h. h) s t

  -- pair by pair
  pub losses_more : (ps qs : List TypePair) (p : TypePair) (lss mss : List (List Lost)) (ls : List Lost) → qs ≡ ps ++ p ∷ [] → mss ≡ lss ++ ls ∷ [] → AreLosses old new ps lss → Tells (KeepsAll old new p) (IsSomeLoss old new p) [] ls → AreLosses old new qs mss
  losses_more ps qs p lss mss ls e f h t = subst (λ (x : List TypePair). AreLosses old new x mss) (sym e) (subst (AreLosses old new (ps ++ p ∷ [])) (sym f) (on ps lss h))
    where
      on : (xs : List TypePair) (yss : List (List Lost)) → AreLosses old new xs yss → AreLosses old new (xs ++ p ∷ []) (yss ++ ls ∷ [])
      on [] [] w = (t, tt)
      on [] (y ∷ yss) w = absurd w
      on (x ∷ xs) [] w = absurd w
      on (x ∷ xs) (y ∷ yss) w = (w.0, on xs yss w.1)

  pub losses_all : (ps : List TypePair) (n : ℕ) (lss : List (List Lost)) → length ps ≤ n → AreLosses old new (take n ps) lss → AreLosses old new ps lss
  losses_all ps n lss l h = subst (λ (x : List TypePair). AreLosses old new x lss) (take_past n ps l) h

  losses_of : (ps : List TypePair) (lss : List (List Lost)) (i : ℕ) (p : TypePair) → AreLosses old new ps lss → At ps i p → (ls : List Lost) × At lss i ls × Tells (KeepsAll old new p) (IsSomeLoss old new p) [] ls
  losses_of [] [] i p h a = absurd a
  losses_of [] (ls ∷ lss) i p h a = absurd h
  losses_of (q ∷ ps) [] i p h a = absurd h
  losses_of (q ∷ ps) (ls ∷ lss) zero p h a = (ls, refl, subst (λ (x : TypePair). Tells (KeepsAll old new x) (IsSomeLoss old new x) [] ls) a h.0)
  losses_of (q ∷ ps) (ls ∷ lss) (suc i) p h a = losses_of ps lss i p h.1 a

-- one claim
module _ (owners : List (List ℕ)) (lss : List (List Lost)) (c : Claim) (bs : List Break) where
  pub claim_ownerless : length owners ≤ c.owner → Grows (IsOfClaim owners lss c) bs bs
  claim_ownerless l = grows_none bs (λ b h. let k = at_within owners c.owner h.0 h.3 in absurd (omega (arith, k, l)))

  pub claim_lossless : length lss ≤ c.pair → Grows (IsOfClaim owners lss c) bs bs
  claim_lossless l = grows_none bs (λ b h. let k = at_within lss c.pair h.1 h.4 in absurd (omega (arith, k, l)))

  pub claim_lost : (grown : List Break) (owner : List ℕ) (ls items : List Lost) → c.owner < length owners → owner ≡ get_or owners c.owner owner → c.pair < length lss → ls ≡ get_or lss c.pair ls → items ≡ ls → Grows (AreOfLosses owner items) bs grown → Grows (IsOfClaim owners lss c) bs grown
  claim_lost grown owner ls items l e m f s g =
      let a = at_get owners c.owner owner l e in
      let d = at_get lss c.pair ls m f in
      grows_as bs grown
      (λ b h. (owner, ls, h.0, a, d, subst (λ (w : List Lost). Has w h.0) s h.1, h.2))
      (λ b h. (h.2, subst (λ (w : List Lost). Has w h.2) (at_same lss c.pair h.1 ls h.4 d ∙ sym s) h.5, ap (λ (o : List ℕ). broken o h.2) (at_same owners c.owner owner h.0 a h.3) ∙ h.6))
      g

pub one_lost : (owner name : List ℕ) (l m : Lost) (bs grown : List Break) → name ≡ owner → m ≡ l → grown ≡ bs ++ broken name m ∷ [] → Grows (IsOfLost owner l) bs grown
one_lost owner name l m bs grown e f g = grows_one bs grown (broken owner l) (g ∙ (λ i. bs ++ broken (e i) (f i) ∷ [])) refl (λ b s. s)

pub claims_all : (owners : List (List ℕ)) (lss : List (List Lost)) (claims items : List Claim) (n : ℕ) (a b : List Break) → items ≡ claims → length items ≤ n → Grows (AreOfClaims owners lss (take n items)) a b → Grows (AreOfClaims owners lss claims) a b
claims_all owners lss claims items n a b e l g = subst (λ (w : List Claim). Grows (AreOfClaims owners lss w) a b) (take_past n items l ∙ e) g

pub losses_whole : (owner : List ℕ) (ls : List Lost) (n : ℕ) (a b : List Break) → length ls ≤ n → Grows (AreOfLosses owner (take n ls)) a b → Grows (AreOfLosses owner ls) a b
losses_whole owner ls n a b l g = subst (λ (w : List Lost). Grows (AreOfLosses owner w) a b) (take_past n ls l) g

-- all claims, with what packages lose
module _ (old new : Packages) (owners : List (List ℕ)) (pairs : List TypePair) (claims : List Claim) (lss : List (List Lost)) (o : IsOwnership old new owners pairs claims) where
  pub all_owned : HoldOwned old new pairs
  all_owned = record { once = o.once_pairs; owned = o.owned; complete = λ p h. (let c = o.complete h.0 p h.1 in at_has pairs c.0.pair p c.3) }

  module _ (ls : AreLosses old new pairs lss) (first bs : List Break) (pb : (b : Break) → Has first b ↔ IsPackageBreak old new b) (g : Grows (AreOfClaims owners lss claims) first bs) where
    of_claim : (b : Break) → AreOfClaims owners lss claims b → IsBreak old new b
    of_claim b h =
        let c = h.0 in
        let s = o.sound c h.1 in
        let d = losses_of old new pairs lss c.pair s.1 ls s.3 in
        let same : d.0 ≡ h.2.1 = at_same lss c.pair d.0 h.2.1 d.1 h.2.4 in
        let named : h.2.0 ≡ s.0 = at_same owners c.owner h.2.0 s.0 h.2.3 s.2 in
        let e : broken s.0 h.2.2 ≡ b = ap (λ (x : List ℕ). broken x h.2.2) (sym named) ∙ h.2.6 in
        elim (d.2.grows.sound h.2.2 (subst (λ (w : List Lost). Has w h.2.2) (sym same) h.2.5)) [
          | inl x ↦ absurd x
          | inr k ↦ elim k [ inl x ↦ of_pair s.0 s.1 h.2.2 s.4 x e | inr y ↦ of_pairs s.0 s.1 h.2.2 s.4 y e ]
        ]

    claimed : (b : Break) (owner : List ℕ) (p : TypePair) (l : Lost) → Owned old new owner p → IsSomeLoss old new p l → broken owner l ≡ b → Has bs b
    claimed b owner p l w k e =
        let c = o.complete owner p w in
        let d = losses_of old new pairs lss c.0.pair p ls c.3 in
        g.complete b (c.0, c.1, (owner, d.0, l, c.2, d.1, d.2.grows.complete l k, e))

    pub breaks_exact : (b : Break) → Has bs b ↔ IsBreak old new b
    breaks_exact b = (to, back)
      where
        to : Has bs b → IsBreak old new b
        to h = elim (g.sound b h) [ inl x ↦ of_packages ((pb b).0 x) | inr k ↦ of_claim b k ]

        back : IsBreak old new b → Has bs b
        back (of_packages k) = g.kept b ((pb b).1 k)
        back (of_pair owner p l w k e) = claimed b owner p l w (inl k) e
        back (of_pairs owner p l w k e) = claimed b owner p l w (inr k) e

    pub whole : (first ≡ [] → (path : List ℕ) → KeepsPath old new path) → (bs ≡ []) ↔ Compatible old new
    whole keeps = (to, back)
      where
        none : bs ≡ [] → (b : Break) → Has bs b → ⊥
        none e b h = subst (λ (w : List Break). Has w b) e h

        to : bs ≡ [] → Compatible old new
        to e = record {
          paths = keeps (has_none first (λ b h. none e b (g.kept b h)));
          pairs = λ p w. (
              let c = o.complete w.0 p w.1 in
              let d = losses_of old new pairs lss c.0.pair p ls c.3 in
              elim d.2.decided [ inl k ↦ k | inr k ↦ absurd (none e (broken w.0 k.0) (claimed (broken w.0 k.0) w.0 p k.0 w.1 k.1 refl)) ]
              );
        }

        back : Compatible old new → bs ≡ []
        back c = has_none bs (λ b h. kept_whole old new c b ((breaks_exact b).0 h))
