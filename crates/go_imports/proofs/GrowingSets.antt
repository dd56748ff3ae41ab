-- Sets of texts that grow.
use Rattle.std.proofs.Common.{◌≡◌, ℕ, zero, suc, ◌+◌, ◌<◌, ◌≤◌, List, [], ◌∷◌, length, take, get_or, refl, sym, ◌∙◌, subst, ◌⊎◌, inl, inr, arith}
use Rattle.std.specs.Ordering.{nat_cmp, match_ordering}
use Rattle.std.specs.declared.cmp.Ordering.{Ordering}
use Rattle.std.specs.declared.cmp.Ordering.TheVariants.{Less, Equal, Greater}
use Rattle.std.specs.Cmp.Lexicographic.{slice_cmp}
use Rattle.std.specs.FinMap.{IsAntisymmetric, slice_cmp-IsAntisymmetric, nat_cmp-IsAntisymmetric}
use Rattle.std.specs.BTreeSet.{insert_key}
use Rattle.go_base.specs.Lists.{Has}
use Rattle.go_base.proofs.Lists.{take_past}
use Rattle.go_base.specs.Growing.{Grows}

-- the orders of texts and of pairs of them
abbrev pub order : List ℕ → List ℕ → Ordering
order = slice_cmp nat_cmp

pub texts_tie : IsAntisymmetric order
texts_tie = slice_cmp-IsAntisymmetric nat_cmp-IsAntisymmetric

module _ {K : Type 0} (R : K → K → Ordering) (same : IsAntisymmetric R) where
  inserted_by : (y : K) (ys : List K) (k : K) (o : Ordering) → R k y ≡ o → Grows (λ x. k ≡ x) ys (insert_key R ys k) → Grows (λ x. k ≡ x) (y ∷ ys) (match_ordering o (k ∷ y ∷ ys) (y ∷ ys) (y ∷ insert_key R ys k))
  inserted_by y ys k Less e g = record { sound = λ x h. elim h [ inl s ↦ inr s | inr r ↦ inl r ]; kept = λ x h. inr h; complete = λ x h. inl h }
  inserted_by y ys k Equal e g = record { sound = λ x h. inl h; kept = λ x h. h; complete = λ x h. inl (sym (same k y e) ∙ h) }
  inserted_by y ys k Greater e g = record {
    sound = λ x h. elim h [ inl s ↦ inl (inl s) | inr r ↦ elim (g.sound x r) [ inl a ↦ inl (inr a) | inr b ↦ inr b ] ];
    kept = λ x h. elim h [ inl s ↦ inl s | inr r ↦ inr (g.kept x r) ];
    complete = λ x h. inr (g.complete x h);
  }

  inserted : (ks : List K) (k : K) → Grows (λ x. k ≡ x) ks (insert_key R ks k)
  inserted [] k = record { sound = λ x h. elim h [ inl s ↦ inr s | inr r ↦ absurd r ]; kept = λ x h. absurd h; complete = λ x h. inl h }
  inserted (y ∷ ys) k = inserted_by y ys k (R k y) refl (inserted ys k)

  pub grows_inserted : (old new : List K) (k : K) → new ≡ insert_key R old k → Grows (λ x. k ≡ x) old new
  grows_inserted old new k e = subst (Grows (λ x. k ≡ x) old) (sym e) (inserted old k)

-- the items that belong to some item of a list
abbrev pub OfSome : {A K : Type 0} → (A → K → Type 0) → List A → K → Type 0
OfSome {A} P items x = (a : A) × Has items a × P a x

pub grows_none : {A K : Type 0} (P : A → K → Type 0) (old : List K) → Grows (OfSome P []) old old
grows_none P old = record { sound = λ x h. inl h; kept = λ x h. h; complete = λ x p. absurd p.1 }

-- nothing is added where there is nothing to add
pub grows_nothing : {K : Type 0} (P : K → Type 0) (old : List K) → ((x : K) → P x → ⊥) → Grows P old old
grows_nothing P old none = record { sound = λ x h. inl h; kept = λ x h. h; complete = λ x p. absurd (none x p) }

-- the same items, said another way
pub grows_as : {K : Type 0} (P Q : K → Type 0) (old new : List K) → ((x : K) → P x → Q x) → ((x : K) → Q x → P x) → Grows P old new → Grows Q old new
grows_as P Q old new to from g = record { sound = λ x h. elim (g.sound x h) [ inl o ↦ inl o | inr p ↦ inr (to x p) ]; kept = g.kept; complete = λ x q. g.complete x (from x q) }

pub has_taken : {A : Type 0} (items : List A) (i : ℕ) (a b : A) → i < length items → a ≡ get_or items i a → Has (take (i + 1) items) b → Has (take i items) b ⊎ (a ≡ b)
has_taken [] i a b h e t = absurd (omega arith)
has_taken (x ∷ items) zero a b h e t = elim (subst (λ (n : ℕ). Has (take n (x ∷ items)) b) zero_one t) [ inl s ↦ inr (e ∙ s) | inr r ↦ absurd (none r) ]
  where
    zero_one : 0 + 1 ≡ suc 0
    zero_one = omega arith

    none : Has (take 0 items) b → ⊥
    none r = r
has_taken (x ∷ items) (suc i) a b h e t = elim (subst (λ (n : ℕ). Has (take n (x ∷ items)) b) (suc_one i) t) [ inl s ↦ inl (inl s) | inr r ↦ elim (has_taken items i a b (omega arith) e r) [ inl f ↦ inl (inr f) | inr s ↦ inr s ] ]
  where
    suc_one : (i : ℕ) → suc i + 1 ≡ suc (i + 1)
    suc_one i = omega arith

has_more : {A : Type 0} (items : List A) (i : ℕ) (b : A) → Has (take i items) b → Has (take (i + 1) items) b
has_more [] i b t = absurd (nothing i t)
  where
    nothing : (i : ℕ) → Has (take i []) b → ⊥
    nothing zero r = r
    nothing (suc i) r = r
has_more (x ∷ items) zero b t = absurd t
has_more (x ∷ items) (suc i) b t = subst (λ (n : ℕ). Has (take n (x ∷ items)) b) (one_suc i) (elim t as (λ _. Has (x ∷ take (i + 1) items) b) [ inl s ↦ inl s | inr r ↦ inr (has_more items i b r) ])
  where
    one_suc : (i : ℕ) → suc (i + 1) ≡ suc i + 1
    one_suc i = omega arith

pub has_here : {A : Type 0} (items : List A) (i : ℕ) (a : A) → i < length items → a ≡ get_or items i a → Has (take (i + 1) items) a
has_here [] i a h e = absurd (omega arith)
has_here (x ∷ items) zero a h e = subst (λ (n : ℕ). Has (take n (x ∷ items)) a) one_zero (inl (sym e))
  where
    one_zero : suc 0 ≡ 0 + 1
    one_zero = omega arith
has_here (x ∷ items) (suc i) a h e = subst (λ (n : ℕ). Has (take n (x ∷ items)) a) (one_suc i) (inr (has_here items i a (omega arith) e))
  where
    one_suc : (i : ℕ) → suc (i + 1) ≡ suc i + 1
    one_suc i = omega arith

-- those of one item more
pub grows_next : {A K : Type 0} (P : A → K → Type 0) (items : List A) (i : ℕ) (a : A) (old mid new : List K) → i < length items → a ≡ get_or items i a
    → Grows (OfSome P (take i items)) old mid → Grows (P a) mid new → Grows (OfSome P (take (i + 1) items)) old new
grows_next {A = A} P items i a old mid new h is f g = record {
  sound = λ x n. elim (g.sound x n) [ inl m ↦ elim (f.sound x m) [ inl o ↦ inl o | inr p ↦ inr (p.0, has_more items i p.0 p.1, p.2) ] | inr p ↦ inr (a, has_here items i a h is, p) ];
  kept = λ x o. g.kept x (f.kept x o);
  complete = λ x p. elim (has_taken items i a p.0 h is p.1) [ inl t ↦ g.kept x (f.complete x (p.0, t, p.2)) | inr s ↦ g.complete x (subst (λ (w : A). P w x) (sym s) p.2) ];
}

-- those of one item more, of which only those with a property count
pub grows_next_where : {A K : Type 0} (P : A → K → Type 0) (Q : K → Type 0) (items : List A) (i : ℕ) (a : A) (old mid new : List K) → i < length items → a ≡ get_or items i a
    → Grows (λ x. OfSome P (take i items) x × Q x) old mid → Grows (λ x. P a x × Q x) mid new → Grows (λ x. OfSome P (take (i + 1) items) x × Q x) old new
grows_next_where {A = A} P Q items i a old mid new h is f g = record {
  sound = λ x n. elim (g.sound x n) [ inl m ↦ elim (f.sound x m) [ inl o ↦ inl o | inr p ↦ inr ((p.0.0, has_more items i p.0.0 p.0.1, p.0.2), p.1) ] | inr p ↦ inr ((a, has_here items i a h is, p.0), p.1) ];
  kept = λ x o. g.kept x (f.kept x o);
  complete = λ x p. elim (has_taken items i a p.0.0 h is p.0.1) [ inl t ↦ g.kept x (f.complete x ((p.0.0, t, p.0.2), p.1)) | inr s ↦ g.complete x (subst (λ (w : A). P w x) (sym s) p.0.2, p.1) ];
}

-- those of all items
pub grows_whole : {A K : Type 0} (P : A → K → Type 0) (items : List A) (i : ℕ) (old new : List K) → length items ≤ i → Grows (OfSome P (take i items)) old new → Grows (OfSome P items) old new
grows_whole {A = A} P items i old new h g = subst (λ (xs : List A). Grows (OfSome P xs) old new) (take_past i items h) g

-- those with a property of all items
pub grows_whole_where : {A K : Type 0} (P : A → K → Type 0) (Q : K → Type 0) (items : List A) (i : ℕ) (old new : List K) → length items ≤ i → Grows (λ x. OfSome P (take i items) x × Q x) old new → Grows (λ x. OfSome P items x × Q x) old new
grows_whole_where {A = A} P Q items i old new h g = subst (λ (xs : List A). Grows (λ x. OfSome P xs x × Q x) old new) (take_past i items h) g
