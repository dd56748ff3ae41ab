-- The pairs of an ownership are all owned pairs.
use Rattle.std.proofs.Common.{◌≡◌, ◌⊎◌, inl, inr, ℕ, Bool, true, false, List, [], ◌∷◌, refl, sym, ap}
use mathlib.Core.Bool.{true≢false}
use Rattle.std.specs.Prelude.{Decides, bytes_eq}
use Rattle.std.proofs.lemmas.Slice.Eq.{bytes_eq-Decides}
use Rattle.go_base.specs.Lists.{Has}
use Rattle.go_model.specs.declared.types.term.Term.{Term}
use Rattle.go_model.specs.worlds.Worlds.{Packages}
use Rattle.go_type_codes.specs.Codes.{code_of_pair}
use Rattle.api_correspond.specs.OwnedPairs.{FromObject, HoldsOwned, Leads, Owned, from_object, led_to}
use Rattle.api_correspond.specs.Publics.{IsOwner, by_leader, by_name, qualified}
use Rattle.go_type_images.specs.declared.pair.TypePair.{TypePair}
use Rattle.api_correspond.proofs.Places.{at_has}
use Rattle.go_type_codes.proofs.PrefixFree.{pairs_told}
use Rattle.api_forced.specs.Ownerships.{IsOwnership}
use Rattle.api_forced.specs.declared.claims.Claim.{Claim}

decided_by : {P : Type 0} (b : Bool) → Decides b P → P ⊎ (P → ⊥)
decided_by true d = inl (d.0 refl)
decided_by false d = inr (λ p. true≢false (sym (d.1 p)))

same_pairs : (p q : TypePair) → (p ≡ q) ⊎ ((p ≡ q) → ⊥)
same_pairs p q = elim (decided_by (bytes_eq (code_of_pair p) (code_of_pair q)) (bytes_eq-Decides (code_of_pair p) (code_of_pair q))) [ inl e ↦ inl (pairs_told p q e) | inr n ↦ inr (λ e. n (ap code_of_pair e)) ]

has_pair : (ps : List TypePair) (p : TypePair) → Has ps p ⊎ (Has ps p → ⊥)
has_pair [] p = inr (λ h. h)
has_pair (q ∷ ps) p = elim (same_pairs q p) [ inl e ↦ inl (inl e) | inr n ↦ elim (has_pair ps p) [ inl h ↦ inl (inr h) | inr m ↦ inr (λ h. elim h [ inl e ↦ n e | inr k ↦ m k ]) ] ]

-- that a pair has no owner can't be
some_owner : (w : Packages) (leader : List ℕ) (t : Term) → ((owner : List ℕ) → IsOwner w leader t owner → ⊥) → ⊥
some_owner w leader t n = n leader (by_leader (λ m e p. n (qualified m.path m.name) (by_name e p)))

module _ (old new : Packages) (owners : List (List ℕ)) (pairs : List TypePair) (claims : List Claim) (o : IsOwnership old new owners pairs claims) where
  claimed : (owner : List ℕ) (p : TypePair) → Owned old new owner p → Has pairs p
  claimed owner p w = let c = o.complete owner p w in at_has pairs (c.0).pair p c.3

  begun : (name : List ℕ) (p : TypePair) → FromObject old new name p → Has pairs p
  begun name p f = elim (has_pair pairs p) [ inl h ↦ h | inr n ↦ absurd (some_owner old name p.old (λ owner r. n (claimed owner p (from_object f r)))) ]

  followed : (p q : TypePair) → Has pairs p → Leads old new p q → Has pairs q
  followed p q i l = let w = o.owned p i in elim (has_pair pairs q) [ inl h ↦ h | inr n ↦ absurd (some_owner old w.0 q.old (λ owner r. n (claimed owner q (led_to w.1 l r)))) ]

  pub held : HoldsOwned old new pairs
  held = record { owned = o.owned; begun = begun; followed = followed }
