-- The nodes and the height of types, counted part by part.
use Rattle.std.proofs.Common.{◌≡◌, ◌<◌, ◌≤◌, ◌+◌, ◌++◌, inl, inr, ℕ, zero, suc, max, sum, map, List, [], ◌∷◌, drop, length, get_or, Option, Some, None, sym, ap, ◌∙◌, subst, arith, add-one, add-zero, drop-cons}
use Rattle.std.proofs.lemmas.List.{drop_all}
use Rattle.std.proofs.lemmas.List.Sums.{sum_by-cons}
use Rattle.go_model.specs.types.Bounds.{above, field_size, greatest, height, height_of_field, height_of_signature, height_step, Leaves, method_size, node_step, nodes, nodes_of_field, nodes_of_signature, signature_height, signature_nodes}
use Rattle.go_model.specs.declared.types.term.Term.{Term}
use Rattle.go_model.specs.declared.types.term.Field.{Field, out-Field, fold_out-Field}
use Rattle.go_model.specs.declared.types.term.Signature.{Signature, out-Signature, fold_out-Signature}

max_no_more : (h k limit : ℕ) → h ≤ limit → k ≤ limit → max h k ≤ limit
max_no_more h k limit a b = omega arith

left_more : (h k limit : ℕ) → limit < h → limit < max h k
left_more h k limit a = omega arith

right_more : (h k limit : ℕ) → limit < k → limit < max h k
right_more h k limit a = omega arith

max_zero : (h : ℕ) → max h zero ≡ h
max_zero h = omega arith

-- the first part fits, and then the other is counted
pub both : (room left n h m k limit : ℕ) (r : Option ℕ) → Leaves room limit n h (Some left) → Leaves left limit m k r → Leaves room limit (n + m) (max h k) r
both room left n h m k limit (Some end) a b = (omega (arith, a.0, b.0), max_no_more h k limit a.1 b.1)
both room left n h m k limit None a (inl b) = inl (omega (arith, a.0, b))
both room left n h m k limit None a (inr b) = inr (right_more h k limit b)

-- where the first part doesn't fit, both don't
pub first_none : (room n h m k limit : ℕ) → Leaves room limit n h None → Leaves room limit (n + m) (max h k) None
first_none room n h m k limit (inl a) = inl (omega arith)
first_none room n h m k limit (inr a) = inr (left_more h k limit a)

-- the height over a list whose first part this is
pub above_more : (h : ℕ) (hs : List ℕ) → above (h ∷ hs) ≡ max (suc h) (above hs)
above_more h [] = ap suc (max_zero h) ∙ sym (max_zero (suc h))
above_more h (k ∷ ks) = omega arith

greatest_append : (xs ys : List ℕ) → greatest (xs ++ ys) ≡ max (greatest xs) (greatest ys)
greatest_append [] ys = omega arith
greatest_append (x ∷ xs) ys = ap (max x) (greatest_append xs ys) ∙ (omega arith)

pub above_append : (xs ys : List ℕ) → above (xs ++ ys) ≡ max (above xs) (above ys)
above_append [] ys = omega arith
above_append (x ∷ xs) [] = ap suc (ap (max x) (greatest_append xs [] ∙ max_zero (greatest xs))) ∙ sym (max_zero (suc (max x (greatest xs))))
above_append (x ∷ xs) (y ∷ ys) = ap suc (ap (max x) (greatest_append xs (y ∷ ys))) ∙ (omega arith)

-- room for one more node
one_more : (room left n h limit : ℕ) (r : Option ℕ) → left + 1 ≡ room → Leaves left limit n h r → Leaves room limit (suc n) h r
one_more room left n h limit (Some end) e a = (omega (arith, e, a.0), a.1)
one_more room left n h limit None e (inl a) = inl (omega (arith, e, a))
one_more room left n h limit None e (inr a) = inr a

module _ {A : Type 0} (size tall : A → ℕ) (xs : List A) (room limit : ℕ) where
  -- however the rest is counted, the whole is
  abbrev pub Counted : ℕ → ℕ → Type 0
  Counted left i = (r : Option ℕ) → Leaves left limit (sum (map size (drop i xs))) (above (map tall (drop i xs))) r → Leaves room limit (sum (map size xs)) (above (map tall xs)) r

  module _ (left i : ℕ) (x : A) (h : i < length xs) (is : x ≡ get_or xs i x) where
    rest : drop i xs ≡ x ∷ drop (i + 1) xs
    rest = drop-cons xs i x h ∙ (λ j. sym is j ∷ drop (sym (add-one i) j) xs)

    counted_as : (r : Option ℕ) → Leaves left limit (size x + sum (map size (drop (i + 1) xs))) (max (suc (tall x)) (above (map tall (drop (i + 1) xs)))) r → Leaves left limit (sum (map size (drop i xs))) (above (map tall (drop i xs))) r
    counted_as r a =
        subst (λ (w : List A). Leaves left limit (sum (map size w)) (above (map tall w)) r) (sym rest)
        (subst (λ (n : ℕ). Leaves left limit n (above (map tall (x ∷ drop (i + 1) xs))) r) (sym (sum_by-cons (λ n. n) (size x) (map size (drop (i + 1) xs))))
        (subst (λ (m : ℕ). Leaves left limit (size x + sum (map size (drop (i + 1) xs))) m r) (sym (above_more (tall x) (map tall (drop (i + 1) xs)))) a))

    pub counted_more : (next : ℕ) → Leaves left limit (size x) (suc (tall x)) (Some next) → Counted left i → Counted next (i + 1)
    counted_more next a c r b = c r (counted_as r (both left next (size x) (suc (tall x)) (sum (map size (drop (i + 1) xs))) (above (map tall (drop (i + 1) xs))) limit r a b))

    pub counted_none : Leaves left limit (size x) (suc (tall x)) None → Counted left i → Leaves room limit (sum (map size xs)) (above (map tall xs)) None
    counted_none a c = c None (counted_as None (first_none left (size x) (suc (tall x)) (sum (map size (drop (i + 1) xs))) (above (map tall (drop (i + 1) xs))) limit a))

  pub counted_all : (left i : ℕ) → length xs ≤ i → Counted left i → Leaves room limit (sum (map size xs)) (above (map tall xs)) (Some left)
  counted_all left i h c = c (Some left) (subst (λ (w : List A). Leaves left limit (sum (map size w)) (above (map tall w)) (Some left)) (sym (drop_all i xs h)) (add-zero left, omega arith))

pub field_as : (f : Field) (left limit : ℕ) (r : Option ℕ) → Leaves left limit (nodes (out-Field f).term) (suc (height (out-Field f).term)) r → Leaves left limit (nodes_of_field f) (suc (height_of_field f)) r
field_as f left limit r a =
    subst (λ (n : ℕ). Leaves left limit n (suc (height_of_field f)) r) (sym (fold_out-Field ℕ ℕ ℕ ℕ node_step field_size method_size signature_nodes f))
    (subst (λ (h : ℕ). Leaves left limit (nodes (out-Field f).term) (suc h) r) (sym (fold_out-Field ℕ ℕ ℕ ℕ height_step field_size method_size signature_height f)) a)

module _ (g : Signature) (ps rs : List Term) (p : ps ≡ (out-Signature g).params) (q : rs ≡ (out-Signature g).results) (room left limit : ℕ) (one : left + 1 ≡ room) where
  signature_size : suc (sum (map nodes ps) + sum (map nodes rs)) ≡ nodes_of_signature g
  signature_size = (λ i. suc (sum (map nodes (p i)) + sum (map nodes (q i)))) ∙ sym (fold_out-Signature ℕ ℕ ℕ ℕ node_step field_size method_size signature_nodes g)

  signature_tall : max (above (map height ps)) (above (map height rs)) ≡ height_of_signature g
  signature_tall = sym (above_append (map height ps) (map height rs)) ∙ (λ i. above (map height (p i) ++ map height (q i))) ∙ sym (fold_out-Signature ℕ ℕ ℕ ℕ height_step field_size method_size signature_height g)

  signature_as : (r : Option ℕ) → Leaves left limit (sum (map nodes ps) + sum (map nodes rs)) (max (above (map height ps)) (above (map height rs))) r → Leaves room limit (nodes_of_signature g) (height_of_signature g) r
  signature_as r a =
      subst (λ (n : ℕ). Leaves room limit n (height_of_signature g) r) signature_size
      (subst (λ (h : ℕ). Leaves room limit (suc (sum (map nodes ps) + sum (map nodes rs))) h r) signature_tall
      (one_more room left (sum (map nodes ps) + sum (map nodes rs)) (max (above (map height ps)) (above (map height rs))) limit r one a))

  pub signature_both : (mid : ℕ) (r : Option ℕ) → Leaves left limit (sum (map nodes ps)) (above (map height ps)) (Some mid) → Leaves mid limit (sum (map nodes rs)) (above (map height rs)) r → Leaves room limit (nodes_of_signature g) (height_of_signature g) r
  signature_both mid r a b = signature_as r (both left mid (sum (map nodes ps)) (above (map height ps)) (sum (map nodes rs)) (above (map height rs)) limit r a b)

  pub signature_none : Leaves left limit (sum (map nodes ps)) (above (map height ps)) None → Leaves room limit (nodes_of_signature g) (height_of_signature g) None
  signature_none a = signature_as None (first_none left (sum (map nodes ps)) (above (map height ps)) (sum (map nodes rs)) (above (map height rs)) limit a)
