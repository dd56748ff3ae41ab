-- Named pairs are entered one by one.
use Rattle.std.proofs.Common.{◌≡◌, ◌⊎◌, inl, inr, ℕ, Bool, List, [], ◌∷◌, ◌++◌, length, arith, sym, subst}
use Rattle.go_base.specs.Lists.{Has}
use Rattle.go_selectors.proofs.Lists.{has-left, has-split, has-last, has-back}
use Rattle.go_type_images.specs.declared.pair.TypePair.{TypePair}
use Rattle.api_correspond.specs.declared.pair.OwnedPair.{OwnedPair}
use Rattle.api_forced.specs.declared.claims.Claim.{Claim}
use Rattle.api_correspond.specs.OwnedPairs.{pair_of}
use Rattle.api_correspond.specs.inner.Tables.{At, AddsAt, AddsPair, KeepsTexts}
use Rattle.api_forced.specs.inner.Graphs.{Entered, AreEntered}
use Rattle.api_correspond.proofs.Places.{at_left}
use Rattle.api_correspond.proofs.Tabling.{keeps_place, keeps_at, stands_at}

-- the numbers of a named pair and of its name
abbrev pub Stands : List (List ℕ) → List TypePair → Claim → OwnedPair → Type 0
Stands texts pairs c r = At texts c.owner r.owner × At pairs c.pair (pair_of r)

pub record Entering (whole rest : List OwnedPair) (texts : List (List ℕ)) (pairs : List TypePair) (roots : List Claim) : Type 0 where
  pub within : (r : OwnedPair) → Has rest r → Has whole r
  pub sound : (c : Claim) → Has roots c → (r : OwnedPair) × Has whole r × Stands texts pairs c r
  pub pending : (r : OwnedPair) → Has whole r → Has rest r ⊎ ((c : Claim) × Has roots c × Stands texts pairs c r)
  pub only : AreEntered whole pairs

pub entering_none : (whole : List OwnedPair) (texts : List (List ℕ)) (pairs : List TypePair) → pairs ≡ [] → Entering whole whole texts pairs []
entering_none whole texts pairs e = record { within = λ r h. h; sound = λ c h. absurd h; pending = λ r h. inl h; only = λ p h. absurd (subst (λ (w : List TypePair). Has w p) e h) }

stands_on : (texts more : List (List ℕ)) (pairs grown : List TypePair) (c : Claim) (r : OwnedPair) → KeepsTexts texts more → (extra : List TypePair) → grown ≡ pairs ++ extra → Stands texts pairs c r → Stands more grown c r
stands_on texts more pairs grown c r k extra e s = (keeps_place texts more c.owner r.owner k s.0, subst (λ (w : List TypePair). At w c.pair (pair_of r)) (sym e) (at_left pairs extra c.pair (pair_of r) s.1))

pub entering_more : (whole rest less : List OwnedPair) (texts more : List (List ℕ)) (pairs grown : List TypePair) (roots longer : List Claim) (r : OwnedPair) (c : Claim) → rest ≡ less ++ r ∷ [] → Entering whole rest texts pairs roots → KeepsTexts texts more → At more c.owner r.owner → AddsPair pairs grown (pair_of r) c.pair → longer ≡ roots ++ c ∷ [] → Entering whole less more grown longer
entering_more whole rest less texts more pairs grown roots longer r c e n k a p f = record {
  within = λ q h. n.within q (subst (λ (w : List OwnedPair). Has w q) (sym e) (has-left less (r ∷ []) q h));
  sound = λ d h. elim (has-back roots c d (subst (λ (w : List Claim). Has w d) f h)) [
    | inl x ↦ (let s = n.sound d x in (s.0, s.1, stands_on texts more pairs grown d s.0 k p.more p.grown s.2))
    | inr s ↦ (r, n.within r (subst (λ (w : List OwnedPair). Has w r) (sym e) (has-last less r)), subst (λ (z : Claim). Stands more grown z r) s (a, p.there))
  ];
  pending = λ q h. elim (n.pending q h) [
    | inl x ↦ elim (has-back less r q (subst (λ (w : List OwnedPair). Has w q) e x)) [
      | inl y ↦ inl y
      | inr s ↦ inr (c, subst (λ (w : List Claim). Has w c) (sym f) (has-last roots c), subst (Stands more grown c) s (a, p.there))
    ]
    | inr s ↦ inr (s.0, subst (λ (w : List Claim). Has w s.0) (sym f) (has-left roots (c ∷ []) s.0 s.1), stands_on texts more pairs grown s.0 q k p.more p.grown s.2)
  ];
  only = λ q h. elim (has-split pairs p.more q (subst (λ (w : List TypePair). Has w q) p.grown h)) [
    | inl x ↦ n.only q x
    | inr y ↦ (r, n.within r (subst (λ (w : List OwnedPair). Has w r) (sym e) (has-last less r)), sym (p.only q y))
  ];
}

pub entering_all : (whole : List OwnedPair) (texts : List (List ℕ)) (pairs : List TypePair) (roots : List Claim) → Entering whole [] texts pairs roots → Entered whole texts pairs roots
entering_all whole texts pairs roots n = record { sound = λ c h. let s = n.sound c h in (s.0, s.1, s.2.0, s.2.1); complete = λ r h. elim (n.pending r h) [ inl x ↦ absurd x | inr s ↦ (s.0, s.1, s.2.0, s.2.1) ] }

-- numbers stay when more is added
pub entered_on : (rs : List OwnedPair) (texts more : List (List ℕ)) (pairs grown : List TypePair) (roots : List Claim) → KeepsTexts texts more → (extra : List TypePair) → grown ≡ pairs ++ extra → Entered rs texts pairs roots → Entered rs more grown roots
entered_on rs texts more pairs grown roots k extra e n = record {
  sound = λ c h. let s = n.sound c h in (let t = stands_on texts more pairs grown c s.0 k extra e (s.2, s.3) in (s.0, s.1, t.0, t.1));
  complete = λ r h. let s = n.complete r h in (let t = stands_on texts more pairs grown s.0 r k extra e (s.2, s.3) in (s.0, s.1, t.0, t.1));
}

pub entering_begun : (whole : List OwnedPair) (texts : List (List ℕ)) (pairs : List TypePair) (roots : List Claim) → pairs ≡ [] → roots ≡ [] → Entering whole whole texts pairs roots
entering_begun whole texts pairs roots f e = subst (Entering whole whole texts pairs) (sym e) (entering_none whole texts pairs f)

-- a pair that was popped is entered, with its name
pub entering_next : (whole rest less : List OwnedPair) (texts more : List (List ℕ)) (pairs grown : List TypePair) (roots longer : List Claim) (r : OwnedPair) (name : List ℕ) (p : TypePair) (owner : ℕ) (fresh : Bool) (at : ℕ) → rest ≡ less ++ r ∷ [] → Entering whole rest texts pairs roots → name ≡ r.owner → p ≡ pair_of r → AddsAt texts more name owner fresh → AddsPair pairs grown p at → longer ≡ roots ++ record { owner = owner; pair = at } ∷ [] → Entering whole less more grown longer
entering_next whole rest less texts more pairs grown roots longer r name p owner fresh at e n s q a b f =
    entering_more whole rest less texts more pairs grown roots longer r (record { owner = owner; pair = at }) e n (keeps_at texts more name owner fresh a) (subst (At more owner) s (stands_at texts more name owner fresh a)) (subst (λ (x : TypePair). AddsPair pairs grown x at) q b) f

pub entering_last : (whole rest : List OwnedPair) (texts : List (List ℕ)) (pairs : List TypePair) (roots : List Claim) → length rest ≡ 0 → Entering whole rest texts pairs roots → Entered whole texts pairs roots
entering_last whole [] texts pairs roots e n = entering_all whole texts pairs roots n
entering_last whole (r ∷ rest) texts pairs roots e n = absurd (omega arith)
