-- A layer is consolidated.
use Rattle.std.proofs.Common.{◌≡◌, ℕ, zero, suc, min, ◌+◌, ◌*◌, ◌<◌, ◌≤◌, List, [], ◌∷◌, ◌++◌, length, drop, get_or, sym, ap, ◌∙◌, subst, inl, inr, ◌⊎◌, arith, length-append, Bool, true, false}
use Rattle.go_base.specs.Lists.{Has}
use Rattle.go_base.specs.Gathered.{gather}
use Rattle.go_model.specs.types.Selectors.{Spot, Ending}
use Rattle.go_selectors.specs.Search.{spot_of, Twice, Knows, Drops, Keeps, KeepsSeen, IsConsolidated, Consolidates, Sees, Recalls}
use Rattle.go_selectors.specs.declared.seen.Key.{Key}
use Rattle.go_selectors.proofs.Lists.{has-left, has-last, has-back, drop_next, twice_last, twice_left, gather-count, twice_gives}

-- what is known stays known where a spot is kept
known_more : (once twice : List Key) (earlier kept : List Spot) (at : Spot) → Knows once twice earlier kept → (x : Key) → Has once x → Has earlier (spot_of x) ⊎ Has (kept ++ at ∷ []) (spot_of x)
known_more once twice earlier kept at k x h = elim (k.seen_once x h) [ inl a ↦ inl a | inr b ↦ inr (has-left kept (at ∷ []) (spot_of x) b) ]

again_more : (once twice : List Key) (earlier kept : List Spot) (at : Spot) → Knows once twice earlier kept → (x : Key) → Has twice x → Has earlier (spot_of x) ⊎ Twice (kept ++ at ∷ []) (spot_of x)
again_more once twice earlier kept at k x h = elim (k.seen_twice x h) [ inl a ↦ inl a | inr b ↦ inr (twice_left kept (at ∷ []) (spot_of x) b) ]

-- a spot without a name is kept
pub kept_more : (once twice : List Key) (earlier kept : List Spot) (at : Spot) → Knows once twice earlier kept → Knows once twice earlier (kept ++ at ∷ [])
kept_more once twice earlier kept at k = record { seen_once = λ x h. known_more once twice earlier kept at k x h; seen_twice = λ x h. again_more once twice earlier kept at k x h }

-- a spot with a name is dropped or kept
pub recalled : (once twice newer again : List Key) (earlier kept : List Spot) (at : Spot) (key : Key) (known : Bool) → spot_of key ≡ at → Sees once twice newer again key known → Knows once twice earlier kept → Recalls newer again earlier kept at known
recalled once twice newer again earlier kept at key true e m k =
    (subst (λ (w : List Key). Knows w again earlier kept) (sym m.1) (subst (λ (w : List Key). Knows once w earlier kept) (sym m.2) k), subst (Drops earlier kept) e (k.seen_twice key m.0))
recalled once twice newer again earlier kept at key false e (inl m) k = record {
  seen_once = λ x h. elim (has-back once key x (subst (λ (w : List Key). Has w x) m.0 h)) [ inl a ↦ known_more once twice earlier kept at k x a | inr s ↦ inr (subst (Has (kept ++ at ∷ [])) (sym e ∙ ap spot_of s) (has-last kept at)) ];
  seen_twice = λ x h. again_more once twice earlier kept at k x (subst (λ (w : List Key). Has w x) m.1 h);
}
recalled once twice newer again earlier kept at key false e (inr m) k = record {
  seen_once = λ x h. known_more once twice earlier kept at k x (subst (λ (w : List Key). Has w x) m.1 h);
  seen_twice = λ x h. elim (has-back twice key x (subst (λ (w : List Key). Has w x) m.2 h)) [
    | inl a ↦ again_more once twice earlier kept at k x a
    | inr s ↦ elim (k.seen_once key m.0) [
      | inl b ↦ inl (subst (Has earlier) (ap spot_of s) b)
      | inr c ↦ inr (subst (Twice (kept ++ at ∷ [])) (sym e ∙ ap spot_of s) (twice_last kept at (subst (Has kept) e c)))
    ]
  ];
}

-- some of a list is kept, and a rest is still to be looked at
pub record Consolidating (earlier all kept rest : List Spot) : Type 0 where
  pub sub : (at : Spot) → Has kept at → Has all at
  pub left : (at : Spot) → Has rest at → Has all at
  pub same : (f : Spot → List Ending) → ((at : Spot) → Has earlier at → f at ≡ []) → min 2 (length (gather f kept) + length (gather f rest)) ≡ min 2 (length (gather f all))

zero_plus : (n : ℕ) → 0 + n ≡ n
zero_plus n = omega arith

pub consolidated_start : (earlier all kept : List Spot) → kept ≡ [] → Consolidating earlier all kept all
consolidated_start earlier all kept e = subst (λ (w : List Spot). Consolidating earlier all w all) (sym e) (record { sub = λ at h. absurd h; left = λ at h. h; same = λ f u. ap (min 2) (zero_plus (length (gather f all))) })

pub consolidated_end : (earlier all kept rest : List Spot) → rest ≡ [] → Consolidating earlier all kept rest → IsConsolidated earlier all kept
consolidated_end earlier all kept rest e t = record { sub = t.sub; same = λ f u. more (length (gather f kept)) ∙ ap (λ (w : List Spot). min 2 (length (gather f kept) + length (gather f w))) (sym e) ∙ t.same f u }
  where
    more : (n : ℕ) → min 2 n ≡ min 2 (n + 0)
    more n = omega arith

consolidated_add : (earlier all kept rest : List Spot) (at : Spot) → Consolidating earlier all kept (at ∷ rest) → Consolidating earlier all (kept ++ at ∷ []) rest
consolidated_add earlier all kept rest at t = record {
  sub = λ x h. elim (has-back kept at x h) [ inl a ↦ t.sub x a | inr s ↦ t.left x (inl s) ];
  left = λ x h. t.left x (inr h);
  same = λ f u. ap (min 2) (let a = gather-count f kept (at ∷ []) in let b = length-append (f at) (gather f rest) in let c = length-append (f at) [] in omega (arith, a, b, c)) ∙ t.same f u;
}

consolidated_skip : (earlier all kept rest : List Spot) (at : Spot) → Drops earlier kept at → Consolidating earlier all kept (at ∷ rest) → Consolidating earlier all kept rest
consolidated_skip earlier all kept rest at (inl s) t = record {
  sub = t.sub;
  left = λ x h. t.left x (inr h);
  same = λ f u. ap (λ (w : List Ending). min 2 (length (gather f kept) + length (w ++ gather f rest))) (sym (u at s)) ∙ t.same f u;
}
consolidated_skip earlier all kept rest at (inr s) t = record {
  sub = t.sub;
  left = λ x h. t.left x (inr h);
  same = λ f u. enough (length (f at)) (length (gather f kept)) (length (gather f rest)) (length (f at ++ gather f rest)) (twice_gives f kept at s) (length-append (f at) (gather f rest)) ∙ t.same f u;
}
  where
    enough : (g a r w : ℕ) → 2 * g ≤ a → w ≡ g + r → min 2 (a + r) ≡ min 2 (a + w)
    enough zero a r w h e = omega arith
    enough (suc g) a r w h e = omega arith

pub consolidated_next : (earlier all kept new : List Spot) (i : ℕ) (at : Spot) → i < length all → at ≡ get_or all i at → Keeps earlier kept new at → Consolidating earlier all kept (drop i all) → Consolidating earlier all new (drop (i + 1) all)
consolidated_next earlier all kept new i at h e (inl s) t = subst (λ (w : List Spot). Consolidating earlier all w (drop (i + 1) all)) (sym s) (consolidated_add earlier all kept (drop (i + 1) all) at (subst (Consolidating earlier all kept) (drop_next i all at h e) t))
consolidated_next earlier all kept new i at h e (inr s) t = subst (λ (w : List Spot). Consolidating earlier all w (drop (i + 1) all)) (sym s.0) (consolidated_skip earlier all kept (drop (i + 1) all) at s.1 (subst (Consolidating earlier all kept) (drop_next i all at h e) t))
