-- The pairs of claims, each once.
use Rattle.std.proofs.Common.{◌≡◌, ◌≤◌, ◌<◌, inl, inr, ℕ, List, [], ◌∷◌, ◌++◌, length, take, get_or, refl, sym, ◌∙◌, subst, arith, append-nil}
use Rattle.go_base.specs.Lists.{Has, Once}
use Rattle.go_base.proofs.Lists.{take_past}
use Rattle.go_selectors.proofs.Lists.{has-left, has-right, has-split, has-last, has-back}
use Rattle.go_type_images.specs.declared.pair.TypePair.{TypePair}
use Rattle.api_correspond.specs.declared.pair.OwnedPair.{OwnedPair}
use Rattle.api_forced.specs.declared.claims.Claim.{Claim}
use Rattle.api_correspond.specs.OwnedPairs.{pair_of}
use Rattle.api_correspond.specs.inner.Members.{OfSome}
use Rattle.api_correspond.specs.inner.Tables.{At}
use Rattle.api_forced.specs.inner.Claims.{IsTaken, Takes, TakesAll}
use Rattle.api_correspond.proofs.Places.{at_within, at_same, at_once, at_get, once_more}

module _ (texts : List (List ℕ)) (pairs : List TypePair) where
  -- nothing stands at the numbers of the claim
  pub takes_no_owner : (c : Claim) (rs : List OwnedPair) → length texts ≤ c.owner → Takes texts pairs c rs rs
  takes_no_owner c rs h = record { more = []; grown = sym (append-nil rs); short = omega arith; sound = λ r m. absurd m; complete = λ r t. let w = at_within texts c.owner r.owner t.0 in absurd (omega (arith, w, h)) }

  pub takes_no_pair : (c : Claim) (rs : List OwnedPair) → length pairs ≤ c.pair → Takes texts pairs c rs rs
  takes_no_pair c rs h = record { more = []; grown = sym (append-nil rs); short = omega arith; sound = λ r m. absurd m; complete = λ r t. let w = at_within pairs c.pair (pair_of r) t.1 in absurd (omega (arith, w, h)) }

  pub takes_one : (c : Claim) (rs new : List OwnedPair) (owner : List ℕ) (p : TypePair) → c.owner < length texts → owner ≡ get_or texts c.owner owner → c.pair < length pairs → p ≡ get_or pairs c.pair p → new ≡ rs ++ record { owner = owner; old = p.old; new = p.new } ∷ [] → Takes texts pairs c rs new
  takes_one c rs new owner p h e i f g =
      let one : OwnedPair = record { owner = owner; old = p.old; new = p.new } in
      let a : At texts c.owner owner = at_get texts c.owner owner h e in
      let b : At pairs c.pair p = at_get pairs c.pair p i f in
      record {
        more = one ∷ [];
        grown = g;
        short = omega arith;
        sound = λ r m. elim m [ inl s ↦ subst (IsTaken texts pairs c) s (a, b) | inr n ↦ absurd n ];
        complete = λ r t. inl (let s = at_same texts c.owner owner r.owner a t.0 in let q = at_same pairs c.pair p (pair_of r) b t.1 in (λ j. record { owner = s j; old = (q j).old; new = (q j).new }));
      }

  pub takes_none : TakesAll texts pairs [] []
  takes_none = record { once = λ a b c. tt; sound = λ r h. absurd h; complete = λ r h. absurd h.1 }

  -- lists of at most one item that is new
  once_short : (rs more : List OwnedPair) → length more ≤ 1 → Once rs → ((r : OwnedPair) → Has more r → Has rs r → ⊥) → Once (rs ++ more)
  once_short rs [] h o n = subst Once (sym (append-nil rs)) o
  once_short rs (x ∷ []) h o n = once_more rs x o (n x (inl refl))
  once_short rs (x ∷ y ∷ ys) h o n = absurd (omega arith)

  fresh_last : (cs : List Claim) (c : Claim) → Once (cs ++ c ∷ []) → Has cs c → ⊥
  fresh_last [] c o h = h
  fresh_last (d ∷ cs) c o (inl e) = o.0 (subst (Has (cs ++ c ∷ [])) (sym e) (has-last cs c))
  fresh_last (d ∷ cs) c o (inr h) = fresh_last cs c o.1 h

  once_front : (cs : List Claim) (c : Claim) → Once (cs ++ c ∷ []) → Once cs
  once_front [] c o = tt
  once_front (d ∷ cs) c o = (λ h. o.0 (has-left cs (c ∷ []) d h), once_front cs c o.1)

  pub takes_more : (cs ds : List Claim) (c : Claim) (rs new : List OwnedPair) → ds ≡ cs ++ c ∷ [] → TakesAll texts pairs cs rs → Takes texts pairs c rs new → TakesAll texts pairs ds new
  takes_more cs ds c rs new e a t = record {
    once = λ o p q. subst Once (sym t.grown) (once_short rs t.more t.short (a.once o p (once_front cs c (subst Once e q))) (λ r m h. apart o p (subst Once e q) r (t.sound r m) (a.sound r h)));
    sound = λ r h. elim (has-split rs t.more r (subst (λ (w : List OwnedPair). Has w r) t.grown h)) [
      | inl x ↦ (let s = a.sound r x in (s.0, subst (λ (w : List Claim). Has w s.0) (sym e) (has-left cs (c ∷ []) s.0 s.1), s.2))
      | inr m ↦ (c, subst (λ (w : List Claim). Has w c) (sym e) (has-last cs c), t.sound r m)
    ];
    complete = λ r s. subst (λ (w : List OwnedPair). Has w r) (sym t.grown) (elim (has-back cs c s.0 (subst (λ (w : List Claim). Has w s.0) e s.1)) [
      | inl x ↦ has-left rs t.more r (a.complete r (s.0, x, s.2))
      | inr k ↦ has-right rs t.more r (t.complete r (subst (λ (z : Claim). IsTaken texts pairs z r) (sym k) s.2))
    ]);
  }
    where
      apart : Once texts → Once pairs → Once (cs ++ c ∷ []) → (r : OwnedPair) → IsTaken texts pairs c r → OfSome (IsTaken texts pairs) cs r → ⊥
      apart o p q r t s =
          let i = at_once texts c.owner s.0.owner r.owner o t.0 s.2.0 in
          let j = at_once pairs c.pair s.0.pair (pair_of r) p t.1 s.2.1 in
          let k : s.0 ≡ c = (λ l. record { owner = sym i l; pair = sym j l }) in
          fresh_last cs c q (subst (Has cs) k s.1)

  pub takes_begun : (rs : List OwnedPair) → rs ≡ [] → TakesAll texts pairs [] rs
  takes_begun rs e = subst (TakesAll texts pairs []) (sym e) takes_none

  pub takes_done : (claims items : List Claim) (n : ℕ) (rs : List OwnedPair) → items ≡ claims → length items ≤ n → TakesAll texts pairs (take n items) rs → TakesAll texts pairs claims rs
  takes_done claims items n rs e h t = subst (λ (w : List Claim). TakesAll texts pairs w rs) (take_past n items h ∙ e) t
