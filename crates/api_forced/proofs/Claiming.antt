-- Claims are followed one after another, and are the owned pairs.
use Rattle.std.proofs.Common.{◌≡◌, ◌≤◌, ◌<◌, ◌+◌, ◌⊎◌, inl, inr, ℕ, Option, Some, None, List, [], ◌∷◌, ◌++◌, length, take, get_or, refl, sym, ap, ◌∙◌, subst, arith, length-append, append_assoc, append-nil}
use Rattle.std.proofs.lemmas.Bool.{cases_lt}
use Rattle.go_base.proofs.Lists.{take_past}
use Rattle.go_base.specs.Lists.{Has, Once}
use Rattle.go_model.specs.worlds.Worlds.{Packages}
use Rattle.go_model.specs.declared.types.names.TypeName.{TypeName}
use Rattle.go_model.specs.declared.types.term.Term.{Term, Term-F, out-Term}
use Rattle.go_type_images.specs.declared.pair.TypePair.{TypePair}
use Rattle.api_correspond.specs.declared.pair.OwnedPair.{OwnedPair}
use Rattle.api_forced.specs.declared.claims.Claim.{Claim}
use Rattle.api_correspond.specs.Publics.{IsOwner, by_name, by_leader, qualified}
use Rattle.api_correspond.specs.OwnedPairs.{IsOwned, FromObject, Leads, Owned, from_object, led_to, AreOwnedPairs, pair_of}
use Rattle.api_forced.specs.Ownerships.{IsOwnership}
use Rattle.api_correspond.specs.inner.Members.{OfSome}
use Rattle.api_correspond.specs.inner.Tables.{At}
use Rattle.api_forced.specs.inner.Graphs.{IsClosed, OwnName, OwnNames, FromObjects, Reached, at_start, led_on}
use Rattle.api_forced.specs.inner.Claims.{AddsClaims, owner_by, IsClaimOf, LedClaims, RootClaims, LedBy, Claimed, by_root, by_claim, HoldClaims, IsTaken, TakesAll}
use Rattle.api_correspond.proofs.Places.{at_left, at_within, at_same, at_has, at_some, has_at, at_get}
use Rattle.api_forced.proofs.Naming.{own_at}
use Rattle.api_correspond.proofs.Growing.{grows_none, grows_as, of_more}

pub claims_none : {P : Claim → Type 0} (xs : List Claim) → ((c : Claim) → P c → ⊥) → AddsClaims P xs xs
claims_none xs n = record { more = []; grown = sym (append-nil xs); grows = grows_none xs n; once = λ o. o }

pub claims_of_more : {B : Type 0} (P : B → Claim → Type 0) (fs gs : List B) (f : B) (a b c : List Claim) → gs ≡ fs ++ f ∷ [] → AddsClaims (OfSome P fs) a b → AddsClaims (P f) b c → AddsClaims (OfSome P gs) a c
claims_of_more P fs gs f a b c e p q = record {
  more = p.more ++ q.more;
  grown = q.grown ∙ ap (λ w. w ++ q.more) p.grown ∙ append_assoc a p.more q.more;
  grows = of_more P fs gs f a b c e p.grows q.grows;
  once = λ o. q.once (p.once o);
}

pub claims_of_none : {B : Type 0} (P : B → Claim → Type 0) (xs : List Claim) → AddsClaims (OfSome P []) xs xs
claims_of_none P xs = claims_none xs (λ c k. k.1)

-- the claims of all roots
abbrev pub no_claim : Claim
no_claim = record { owner = 0; pair = 0 }

abbrev pub of_root : List (Option ℕ) → Claim → Claim → Type 0
of_root own r c = IsClaimOf own r.owner r.pair c

pub roots_all : (own : List (Option ℕ)) (roots items : List Claim) (n : ℕ) (a b : List Claim) → items ≡ roots → length items ≤ n → AddsClaims (RootClaims own (take n items)) a b → AddsClaims (RootClaims own roots) a b
roots_all own roots items n a b e h s = subst (λ (w : List Claim). AddsClaims (RootClaims own w) a b) (take_past n items h ∙ e) s

module _ (own : List (Option ℕ)) (next : List (List ℕ)) (roots : List Claim) where
  -- the claims that were looked at are followed
  pub record Claiming (at : ℕ) (claims : List Claim) : Type 0 where
    pub once : Once claims
    pub within : at ≤ length claims
    pub sound : (c : Claim) → Has claims c → Claimed own next roots c
    pub rooted : (c : Claim) → RootClaims own roots c → Has claims c
    pub closed : (i : ℕ) (c : Claim) → At claims i c → i < at → (d : Claim) → LedBy own next c d → Has claims d

  pub claiming_none : (claims : List Claim) → AddsClaims (RootClaims own roots) [] claims → Claiming 0 claims
  claiming_none claims a = record {
    once = a.once tt;
    within = omega arith;
    sound = λ c h. elim (a.grows.sound c h) [ inl x ↦ absurd x | inr k ↦ by_root k.1 k.2 ];
    rooted = a.grows.complete;
    closed = λ i c h l. absurd (omega arith);
  }

  pub claiming_more : (at : ℕ) (claims grown : List Claim) (c : Claim) → Claiming at claims → At claims at c → AddsClaims (LedBy own next c) claims grown → Claiming (at + 1) grown
  claiming_more at claims grown c w h a = record {
    once = a.once w.once;
    within = (let k = at_within claims at c h in let g = ap length a.grown in let l = length-append claims a.more in omega (arith, k, g, l));
    sound = λ d m. elim (a.grows.sound d m) [ inl x ↦ w.sound d x | inr l ↦ by_claim (w.sound c (at_has claims at c h)) l ];
    rooted = λ d r. a.grows.kept d (w.rooted d r);
    closed = λ i d m l e n. by i d m l e n (less_or i at l);
  }
    where
      less_or : (i j : ℕ) → i < j + 1 → (i < j) ⊎ (i ≡ j)
      less_or i j l = elim (cases_lt i j) [ inl x ↦ inl x | inr y ↦ inr (omega arith) ]

      back : (i : ℕ) (d : Claim) → At grown i d → i < length claims → At claims i d
      back i d m l = let k = at_some claims i l in subst (At claims i) (at_same grown i k.0 d (subst (λ (z : List Claim). At z i k.0) (sym a.grown) (at_left claims a.more i k.0 k.1)) m) k.1

      by : (i : ℕ) (d : Claim) → At grown i d → i < at + 1 → (e : Claim) → LedBy own next d e → (i < at) ⊎ (i ≡ at) → Has grown e
      by i d m l e n (inl x) = let k = w.within in a.grows.kept e (w.closed i d (back i d m (omega (arith, k))) x e n)
      by i d m l e n (inr y) =
          let k = at_within claims at c h in
          let s : c ≡ d = at_same claims at c d h (subst (λ (j : ℕ). At claims j d) y (back i d m (omega (arith, k)))) in
          a.grows.complete e (subst (λ (z : Claim). LedBy own next z e) (sym s) n)

  reached : (at : ℕ) (claims : List Claim) → Claiming at claims → length claims ≤ at → (c : Claim) → Claimed own next roots c → Has claims c
  reached at claims w h c (by_root {r = r} m k) = w.rooted c (r, m, k)
  reached at claims w h d (by_claim {c = c} m k) = let j = has_at claims c (reached at claims w h c m) in let l = at_within claims j.0 c j.1 in w.closed j.0 c j.1 (omega (arith, l)) d k

  pub claiming_all : (at : ℕ) (claims : List Claim) → Claiming at claims → length claims ≤ at → HoldClaims own next roots claims
  claiming_all at claims w h = record { once = w.once; sound = w.sound; complete = reached at claims w h }

same_names : (t : Term) (a b : TypeName) → out-Term t ≡ Term-F.Named a → out-Term t ≡ Term-F.Named b → a ≡ b
same_names t a b e f = cc

-- claims are owned pairs
module _ (old new : Packages) (texts : List (List ℕ)) (pairs : List TypePair) (own : List (Option ℕ)) (next : List (List ℕ)) (roots : List Claim) (names : OwnNames old texts pairs own) (closed : IsClosed old new pairs next) (from : FromObjects old new texts pairs roots) where
  abbrev Owns : Claim → Type 0
  Owns c = (owner : List ℕ) × (p : TypePair) × At texts c.owner owner × At pairs c.pair p × Owned old new owner p

  owner_told : (leader : ℕ) (name : List ℕ) (t : Term) (o : Option ℕ) → OwnName old texts t o → At texts leader name → (owner : List ℕ) × At texts (owner_by o leader) owner × IsOwner old name t owner
  owner_told leader name t None n h = (name, h, by_leader n)
  owner_told leader name t (Some k) n h = (qualified n.0.path n.0.name, n.3, by_name n.1 n.2)

  owner_same : (leader : ℕ) (name owner : List ℕ) (t : Term) (o : Option ℕ) → OwnName old texts t o → At texts leader name → IsOwner old name t owner → At texts (owner_by o leader) owner
  owner_same leader name owner t None n h (by_leader f) = h
  owner_same leader name owner t None n h (by_name {n = m} e p) = absurd (n m e p)
  owner_same leader name owner t (Some k) n h (by_leader f) = absurd (f n.0 n.1 n.2)
  owner_same leader name owner t (Some k) n h (by_name {n = m} e p) = let s : n.0 ≡ m = same_names t n.0 m n.1 e in subst (λ (x : TypeName). At texts k (qualified x.path x.name)) s n.3

  -- a claim of a pair has the owner by which the pair is owned
  claimed : (leader : ℕ) (name : List ℕ) (j : ℕ) (q : TypePair) (c : Claim) → At texts leader name → At pairs j q → IsClaimOf own leader j c → ((owner : List ℕ) → IsOwner old name q.old owner → Owned old new owner q) → Owns c
  claimed leader name j q c h i k f =
      let n = own_at old texts pairs own j q names i in
      let same : n.0 ≡ k.0 = at_same own j n.0 k.0 n.1 k.1 in
      let t = owner_told leader name q.old k.0 (subst (OwnName old texts q.old) same n.2) h in
      subst Owns (sym k.2) (t.0, q, t.1, i, f t.0 t.2)

  owned : (c : Claim) → Claimed own next roots c → Owns c
  owned c (by_root {r = r} m k) = let s = from.sound r m in claimed r.owner s.0 r.pair s.1 c s.2 s.3 k (λ owner o. from_object s.4 o)
  owned d (by_claim {c = c} m k) =
      let s = owned c m in
      let f = closed.0.each c.pair k.0 k.1 in
      let same : f.0 ≡ s.1 = at_same pairs c.pair f.0 s.1 f.1 s.3 in
      let l = f.2.sound k.2.0 k.2.1 in
      claimed c.owner s.0 k.2.0 l.0 d s.2 l.1 k.2.2 (λ owner o. led_to s.4 (subst (λ (z : TypePair). Leads old new z l.0) same l.2) o)

  abbrev IsClaimed : List ℕ → TypePair → Type 0
  IsClaimed owner p = (c : Claim) × Claimed own next roots c × At texts c.owner owner × At pairs c.pair p

  claim_of : (leader : ℕ) (name owner : List ℕ) (j : ℕ) (q : TypePair) → At texts leader name → At pairs j q → IsOwner old name q.old owner → ((c : Claim) → IsClaimOf own leader j c → Claimed own next roots c) → IsClaimed owner q
  claim_of leader name owner j q h i o f =
      let n = own_at old texts pairs own j q names i in
      (record { owner = owner_by n.0 leader; pair = j }, f (record { owner = owner_by n.0 leader; pair = j }) (n.0, n.1, refl), owner_same leader name owner q.old n.0 n.2 h o, i)

  all_claimed : (owner : List ℕ) (p : TypePair) → Owned old new owner p → IsClaimed owner p
  all_claimed owner p (from_object {name = name} f o) = let r = from.complete name p f in claim_of r.0.owner name owner r.0.pair p r.2 r.3 o (λ c k. by_root r.1 k)
  all_claimed owner q (led_to {leader = leader} {p = p} m l o) =
      let c = all_claimed leader p m in
      let w = at_within pairs c.0.pair p c.3 in
      let d = closed.1 in
      let ns = at_some next c.0.pair (omega (arith, w, d)) in
      let f = closed.0.each c.0.pair ns.0 ns.1 in
      let same : p ≡ f.0 = at_same pairs c.0.pair p f.0 c.3 f.1 in
      let j = f.2.complete q (subst (λ (z : TypePair). Leads old new z q) same l) in
      claim_of c.0.owner leader owner j.0 q c.2 j.2 o (λ d k. by_claim c.1 (ns.0, ns.1, (j.0, j.1, k)))

  some_owner : (leader : ℕ) (name : List ℕ) (j : ℕ) (q : TypePair) → At texts leader name → At pairs j q → (owner : List ℕ) × IsOwner old name q.old owner
  some_owner leader name j q h i = let n = own_at old texts pairs own j q names i in let t = owner_told leader name q.old n.0 n.2 h in (t.0, t.2)

  -- each pair that is reached from those of objects is owned
  pub reached_owned : (start : List TypePair) → ((p : TypePair) → Has start p → (name : List ℕ) × FromObject old new name p) → (p : TypePair) → Reached old new start p → IsOwned old new p
  reached_owned start s p (at_start h) = let f = s p h in let r = from.complete f.0 p f.1 in let o = some_owner r.0.owner f.0 r.0.pair p r.2 r.3 in (o.0, from_object f.1 o.1)
  reached_owned start s q (led_on {p = p} m l) =
      let o = reached_owned start s p m in
      let c = all_claimed o.0 p o.1 in
      let w = at_within pairs c.0.pair p c.3 in
      let d = closed.1 in
      let ns = at_some next c.0.pair (omega (arith, w, d)) in
      let f = closed.0.each c.0.pair ns.0 ns.1 in
      let same : p ≡ f.0 = at_same pairs c.0.pair p f.0 c.3 f.1 in
      let j = f.2.complete q (subst (λ (z : TypePair). Leads old new z q) same l) in
      let k = some_owner c.0.owner o.0 j.0 q c.2 j.2 in
      (k.0, led_to {owner = k.0} o.1 l k.1)

-- the claims are exactly the owned pairs
module _ (old new : Packages) (texts : List (List ℕ)) (pairs : List TypePair) (own : List (Option ℕ)) (next : List (List ℕ)) (roots claims : List Claim) (names : OwnNames old texts pairs own) (closed : IsClosed old new pairs next) (from : FromObjects old new texts pairs roots) (hold : HoldClaims own next roots claims) where
  pub all_claims : (start : List TypePair) → ((p : TypePair) → Has start p → (name : List ℕ) × FromObject old new name p) → ((p : TypePair) → Has pairs p → Reached old new start p) → Once texts → Once pairs → IsOwnership old new texts pairs claims
  all_claims start s r o p = record {
    once_owners = o;
    once_pairs = p;
    once_claims = hold.once;
    sound = λ c h. owned old new texts pairs own next roots names closed from c (hold.sound c h);
    complete = λ owner q h. (let c = all_claimed old new texts pairs own next roots names closed from owner q h in (c.0, hold.complete c.0 c.1, c.2, c.3));
    owned = λ q h. reached_owned old new texts pairs own next roots names closed from start s q (r q h);
  }

-- the pairs of the claims are the owned pairs
module _ (old new : Packages) (texts : List (List ℕ)) (pairs : List TypePair) (claims : List Claim) where
  pub all_owned : (rs : List OwnedPair) → IsOwnership old new texts pairs claims → TakesAll texts pairs claims rs → AreOwnedPairs old new rs
  all_owned rs o t = record {
    once = t.once o.once_owners o.once_pairs o.once_claims;
    sound = λ r h. (let s = t.sound r h in told r s.0 s.2 (o.sound s.0 s.1));
    complete = λ r h. (let c = o.complete r.owner (pair_of r) h in t.complete r (c.0, c.1, (c.2, c.3)));
  }
    where
      told : (r : OwnedPair) (c : Claim) → IsTaken texts pairs c r → (owner : List ℕ) × (q : TypePair) × At texts c.owner owner × At pairs c.pair q × Owned old new owner q → Owned old new r.owner (pair_of r)
      told r c i w =
          let e : w.0 ≡ r.owner = at_same texts c.owner w.0 r.owner w.2 i.0 in
          let f : w.1 ≡ pair_of r = at_same pairs c.pair w.1 (pair_of r) w.3 i.1 in
          subst (λ (x : List ℕ). Owned old new x (pair_of r)) e (subst (Owned old new w.0) f w.4)

-- one claim at a time
pub led_none : (own : List (Option ℕ)) (leader pair : ℕ) (xs : List Claim) → length own ≤ pair → AddsClaims (IsClaimOf own leader pair) xs xs
led_none own leader pair xs h = claims_none xs (λ c k. let w = at_within own pair k.0 k.1 in absurd (omega (arith, w, h)))

pub claims_as : {P Q : Claim → Type 0} (xs ys : List Claim) → ((c : Claim) → P c → Q c) → ((c : Claim) → Q c → P c) → AddsClaims P xs ys → AddsClaims Q xs ys
claims_as xs ys f g a = record { more = a.more; grown = a.grown; grows = grows_as xs ys f g a.grows; once = a.once }

pub led_one : (own : List (Option ℕ)) (leader pair owner : ℕ) (o : Option ℕ) (xs ys : List Claim) → pair < length own → o ≡ get_or own pair o → owner ≡ owner_by o leader → AddsClaims (λ c. record { owner = owner; pair = pair } ≡ c) xs ys → AddsClaims (IsClaimOf own leader pair) xs ys
led_one own leader pair owner o xs ys h e f a =
    let at = at_get own pair o h e in
    claims_as xs ys
    (λ c s. (o, at, sym s ∙ ap (λ (n : ℕ). record { owner = n; pair = pair }) f))
    (λ c k. ap (λ (n : ℕ). record { owner = n; pair = pair }) (f ∙ ap (λ (x : Option ℕ). owner_by x leader) (at_same own pair o k.0 at k.1)) ∙ sym k.2)
    a

pub follow_none : (own : List (Option ℕ)) (next : List (List ℕ)) (c : Claim) (xs : List Claim) → length next ≤ c.pair → AddsClaims (LedBy own next c) xs xs
follow_none own next c xs h = claims_none xs (λ d k. let w = at_within next c.pair k.0 k.1 in absurd (omega (arith, w, h)))

pub follow_some : (own : List (Option ℕ)) (next : List (List ℕ)) (c : Claim) (numbers ns : List ℕ) (xs ys : List Claim) → c.pair < length next → numbers ≡ get_or next c.pair numbers → ns ≡ numbers → AddsClaims (LedClaims own c.owner ns) xs ys → AddsClaims (LedBy own next c) xs ys
follow_some own next c numbers ns xs ys h e s a =
    let at = at_get next c.pair numbers h e in
    claims_as xs ys
    (λ d k. (numbers, at, subst (λ (w : List ℕ). LedClaims own c.owner w d) s k))
    (λ d k. subst (λ (w : List ℕ). LedClaims own c.owner w d) (sym (s ∙ at_same next c.pair numbers k.0 at k.1)) k.2)
    a

pub claiming_begun : (own : List (Option ℕ)) (next : List (List ℕ)) (roots start claims : List Claim) → start ≡ [] → AddsClaims (RootClaims own roots) start claims → Claiming own next roots 0 claims
claiming_begun own next roots start claims e a = claiming_none own next roots claims (subst (λ (w : List Claim). AddsClaims (RootClaims own roots) w claims) e a)
