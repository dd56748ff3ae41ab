-- Layers of places stand for the paths that end there and beyond.
use Rattle.std.proofs.Common.{◌≡◌, ◌≤◌, ◌<◌, ◌+◌, ℕ, zero, suc, min, ◌⊎◌, inl, inr, List, [], ◌∷◌, ◌++◌, length, refl, sym, ap, ◌∙◌, subst, arith, append-nil}
use Rattle.go_base.specs.Lists.{Has}
use Rattle.go_model.specs.types.Tables.{Table}
use Rattle.go_model.specs.declared.types.names.Sel.{Sel}
use Rattle.go_base.specs.Gathered.{gather}
use Rattle.go_model.specs.types.Selectors.{Spot, Ending, steps, endings, ends, NoneBelow}
use Rattle.go_selectors.specs.Search.{IsConsolidated}
use Rattle.go_selectors.proofs.Lists.{has-split, gather-append, gather_of, gather_has, has_none}

pub empty_has : {A : Type 0} (xs : List A) (x : A) → xs ≡ [] → Has xs x → ⊥
empty_has {A} xs x e h = subst (λ (w : List A). Has w x) e h

pub nothing : {A : Type 0} (xs : List A) → length xs ≡ 0 → xs ≡ []
nothing [] e = refl
nothing (x ∷ xs) e = absurd (omega arith)

pub one_of : {A : Type 0} (xs : List A) (x : A) → length xs ≡ 1 → Has xs x → xs ≡ x ∷ []
one_of [] x l h = absurd h
one_of (y ∷ []) x l (inl e) = ap (λ w. w ∷ []) e
one_of (y ∷ []) x l (inr h) = absurd h
one_of (y ∷ (z ∷ xs)) x l h = absurd (omega arith)

zero_plus : (n : ℕ) → 0 + n ≡ n
zero_plus n = omega arith

plus_none : (n : ℕ) → n + 0 ≡ n
plus_none n = omega arith

plus_next : (n k : ℕ) → (n + 1) + k ≡ n + suc k
plus_next n k = omega arith

pub zero_of : (n : ℕ) → min 2 n ≡ 0 → n ≡ 0
zero_of n h = omega arith

exact : (n : ℕ) → min 2 n ≡ 1 → n ≡ 1
exact n h = omega arith

many : (n m : ℕ) → min 2 n ≡ min 2 m → 2 ≤ m → 2 ≤ n
many n m e h = omega arith

last : (n j : ℕ) → j < n + 1 → (j < n) ⊎ (j ≡ n)
last zero j h = let e : j ≡ 0 = omega arith in inr e
last (suc n) zero h = inl (omega arith)
last (suc n) (suc j) h = elim (last n j (omega arith)) [ inl a ↦ inl (omega arith) | inr e ↦ inr (ap suc e) ]

pub parts : (k d : ℕ) → (k < d) ⊎ ((m : ℕ) × (k ≡ d + m))
parts k zero = inr (k, omega arith)
parts zero (suc d) = inl (omega arith)
parts (suc k) (suc d) = elim (parts k d) [ inl a ↦ inl (omega arith) | inr b ↦ inr (b.0, omega (arith, b.1)) ]

module _ (T : Table) (s : Sel) where
  abbrev reach : ℕ → Spot → List Ending
  reach = ends T s

  pub reach_none : (at : Spot) → reach 0 at ≡ endings T s at
  unfolding ends
  reach_none at = refl

  layer_next : (k : ℕ) (layer : List Spot) → gather (reach k) (gather (steps T) layer) ≡ gather (reach (suc k)) layer
  unfolding ends
  layer_next k [] = refl
  layer_next k (x ∷ xs) = gather-append (reach k) (steps T x) (gather (steps T) xs) ∙ ap (λ w. gather (reach k) (steps T x) ++ w) (layer_next k xs)

  pub gather_none : (layer : List Spot) → gather (endings T s) layer ≡ gather (reach 0) layer
  unfolding ends
  gather_none [] = refl
  gather_none (x ∷ xs) = ap (λ w. endings T s x ++ w) (gather_none xs)

  module _ (start : Spot) where
    abbrev pub None_to : ℕ → Type 0
    None_to n = NoneBelow T s start n

    -- a layer stands for all paths that end at its depth or beyond, as far as none ends before
    pub record Layered (depth : ℕ) (layer seen : List Spot) : Type 0 where
      pub same : (k : ℕ) → None_to (depth + k) → min 2 (length (reach (depth + k) start)) ≡ min 2 (length (gather (reach k) layer))
      pub sub : (k : ℕ) (x : Ending) → Has (gather (reach k) layer) x → Has (reach (depth + k) start) x
      pub old : (at : Spot) → Has seen at → (k : ℕ) → None_to (depth + k) → reach k at ≡ []

    pub first_layer : (layer : List Spot) → layer ≡ start ∷ [] → Layered 0 layer []
    first_layer layer e = record {
      same = λ k z. ap (λ n. min 2 (length (reach n start))) (zero_plus k) ∙ ap (λ (w : List Ending). min 2 (length w)) (sym (only k)) ∙ ap (λ (w : List Spot). min 2 (length (gather (reach k) w))) (sym e);
      sub = λ k x h. subst (λ (n : ℕ). Has (reach n start) x) (sym (zero_plus k)) (subst (λ (w : List Ending). Has w x) (only k) (subst (λ (w : List Spot). Has (gather (reach k) w) x) e h));
      old = λ at h. absurd h;
    }
      where
        only : (k : ℕ) → gather (reach k) (start ∷ []) ≡ reach k start
        only k = append-nil (reach k start)

    pub here : {depth : ℕ} {layer seen : List Spot} → Layered depth layer seen → None_to depth → min 2 (length (reach depth start)) ≡ min 2 (length (gather (reach 0) layer))
    here {depth} {layer} l z = ap (λ n. min 2 (length (reach n start))) (sym (plus_none depth)) ∙ l.same 0 (subst None_to (sym (plus_none depth)) z)

    -- an end in the layer is the end of a path
    pub sub_here : {depth : ℕ} {layer seen : List Spot} (x : Ending) → Layered depth layer seen → Has (gather (reach 0) layer) x → Has (reach depth start) x
    sub_here {depth} x l h = subst (λ (n : ℕ). Has (reach n start) x) (plus_none depth) (l.sub 0 x h)

    pub one_here : {depth : ℕ} {layer seen : List Spot} (x : Ending) → Layered depth layer seen → None_to depth → gather (reach 0) layer ≡ x ∷ [] → reach depth start ≡ x ∷ []
    one_here x l z e = one_of _ x (exact _ (here l z ∙ ap (λ (w : List Ending). min 2 (length w)) e)) (sub_here x l (subst (λ (w : List Ending). Has w x) (sym e) (inl refl)))

    pub many_here : {depth : ℕ} {layer seen : List Spot} → Layered depth layer seen → None_to depth → 2 ≤ length (gather (reach 0) layer) → 2 ≤ length (reach depth start)
    many_here l z h = many _ _ (here l z) h

    pub none_here : {depth : ℕ} {layer seen : List Spot} → Layered depth layer seen → None_to depth → gather (reach 0) layer ≡ [] → reach depth start ≡ []
    none_here l z e = nothing _ (zero_of _ (here l z ∙ ap (λ (w : List Ending). min 2 (length w)) e))

    pub below_next : (n : ℕ) → None_to n → reach n start ≡ [] → None_to (n + 1)
    below_next n z e j h = elim (last n j h) [ inl k ↦ z j k | inr s ↦ ap (λ m. reach m start) s ∙ e ]

    -- nothing is left to search
    pub none_left : (depth : ℕ) (layer seen : List Spot) → Layered depth layer seen → None_to depth → layer ≡ [] → (d : ℕ) → reach d start ≡ []
    none_left depth layer seen l below e d = all (d + 1) d (omega arith)
      where
        past : (k m : ℕ) → k ≡ depth + m → None_to k → reach k start ≡ []
        past k m is z = nothing _ (zero_of _ (ap (λ n. min 2 (length (reach n start))) is ∙ l.same m (subst None_to is z) ∙ ap (λ (w : List Spot). min 2 (length (gather (reach m) w))) e))

        at : (k : ℕ) → None_to k → reach k start ≡ []
        at k z = elim (parts k depth) [ inl a ↦ below k a | inr b ↦ past k b.0 b.1 z ]

        all : (k : ℕ) → None_to k
        all zero j h = absurd (omega arith)
        all (suc k) j h = elim (last k j (omega arith)) [ inl a ↦ all k j a | inr s ↦ ap (λ m. reach m start) s ∙ at k (all k) ]

    pub next_layer : (depth : ℕ) (layer seen new : List Spot) → Layered depth layer seen → IsConsolidated (seen ++ layer) (gather (steps T) layer) new → Layered (depth + 1) new (seen ++ layer)
    next_layer depth layer seen new l t = record {
      same = λ k z. ap (λ n. min 2 (length (reach n start))) (plus_next depth k) ∙ l.same (suc k) (subst None_to (plus_next depth k) z)
          ∙ ap (λ (w : List Ending). min 2 (length w)) (sym (layer_next k layer)) ∙ sym (t.same (reach k) (λ u h. useless u h k z));
      sub = λ k x h. let a = gather_of (reach k) new x h in subst (λ (n : ℕ). Has (reach n start) x) (sym (plus_next depth k)) (l.sub (suc k) x (subst (λ (w : List Ending). Has w x) (layer_next k layer) (gather_has (reach k) (gather (steps T) layer) a.0 x (t.sub a.0 a.1) a.2)));
      old = λ u h k z. useless u h k z;
    }
      where
        sooner : (k : ℕ) → None_to ((depth + 1) + k) → None_to (depth + k)
        sooner k z j h = z j (omega arith)

        useless : (u : Spot) → Has (seen ++ layer) u → (k : ℕ) → None_to ((depth + 1) + k) → reach k u ≡ []
        useless u h k z = elim (has-split seen layer u h) [
          | inl a ↦ l.old u a k (sooner k z)
          | inr b ↦ has_none (reach k u) (λ x r. empty_has _ x (z (depth + k) (omega arith)) (l.sub k x (gather_has (reach k) layer u x b r)))
        ]
