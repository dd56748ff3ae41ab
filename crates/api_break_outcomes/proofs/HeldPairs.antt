-- A list holds all pairs that have to correspond.
use Rattle.std.proofs.Common.{◌≡◌, ◌⊎◌, ℕ, List, refl, sym, inl, inr}
use Rattle.api_correspond.specs.OwnedPairs.{FromObject, HoldsOwned, IsOwned, Leads, Owned, from_object, led_to}
use Rattle.api_correspond.specs.Publics.{IsOwner, by_leader, by_name, qualified}
use Rattle.api_pair_outcomes.proofs.OwnedPairs.{AreIn, leads_in, object_in, owned_finite, owned_in, pairs_finite}
use Rattle.go_base.specs.Lists.{Has}
use Rattle.go_existence.specs.Existence.{AreFinite, NotNone}
use Rattle.go_existence.proofs.DoubleNegation.{bind, so}
use Rattle.go_existence.proofs.FiniteSets.{all_of, finite_image, finite_less, finite_list, finite_over, of_all}
use Rattle.go_model.specs.declared.types.term.Term.{Term}
use Rattle.go_model.specs.worlds.Worlds.{Packages}
use Rattle.go_type_images.specs.declared.pair.TypePair.{TypePair}

-- a type has an owner
some_owner : (w : Packages) (leader : List ℕ) (t : Term) → NotNone ((owner : List ℕ) × IsOwner w leader t owner)
some_owner w leader t = λ n. n (leader, by_leader (λ m e p. n (qualified m.path m.name, by_name e p)))

module _ (old new : Packages) where
  abbrev Begins : TypePair → Type 0
  Begins p = (name : List ℕ) × FromObject old new name p

  begins_finite : AreFinite Begins
  begins_finite = finite_less Begins (AreIn old new) (λ p b. object_in old new b.0 p b.1) (pairs_finite old new)

  module _ (pairs : List TypePair) (sound : (p : TypePair) → Has pairs p → IsOwned old new p) (complete : (p : TypePair) → IsOwned old new p → Has pairs p) where
    abbrev Follows : TypePair × TypePair → Type 0
    Follows k = Has pairs k.0 × Leads old new k.0 k.1

    abbrev Behind : TypePair → TypePair × TypePair → Type 0
    Behind p k = (q : TypePair) × AreIn old new q × ((p, q) ≡ k)

    follows_finite : AreFinite Follows
    follows_finite =
        finite_less Follows (λ k. (p : TypePair) × Has pairs p × Behind p k) (λ k f. (k.0, f.0, (k.1, leads_in old new k.0 k.1 (let w = sound k.0 f.0 in owned_in old new w.0 k.0 w.1) f.1, refl)))
        (finite_over (Has pairs) Behind (finite_list pairs) (λ p h. finite_image (λ (q : TypePair). (p, q)) (AreIn old new) (pairs_finite old new)))

    begun : (p : TypePair) → Begins p → NotNone (Has pairs p)
    begun p b = so (some_owner old b.0 p.old) (λ o. complete p (o.0, from_object b.1 o.1))

    followed : (k : TypePair × TypePair) → Follows k → NotNone (Has pairs k.1)
    followed k f = let w = sound k.0 f.0 in so (some_owner old w.0 k.1.old) (λ o. complete k.1 (o.0, led_to w.1 f.1 o.1))

    holds : NotNone (HoldsOwned old new pairs)
    holds = bind (of_all Begins (Has pairs) begins_finite begun) (λ a. so (of_all Follows (λ k. Has pairs k.1) follows_finite followed) (λ b. record { owned = sound; begun = λ name p f. a p (name, f); followed = λ p q h l. b (p, q) (h, l) }))

  pub pairs_held : NotNone ((pairs : List TypePair) × HoldsOwned old new pairs)
  pairs_held = bind (all_of (IsOwned old new) (owned_finite old new)) (λ k. so (holds k.0 k.1.sound k.1.complete) (λ h. (k.0, h)))
