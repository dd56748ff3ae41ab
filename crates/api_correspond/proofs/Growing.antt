-- Lists that grow by what has a property.
use Rattle.std.proofs.Common.{◌≡◌, ◌⊎◌, inl, inr, List, [], ◌∷◌, ◌++◌, refl, sym, ap, ◌∙◌, subst}
use Rattle.go_base.specs.Lists.{Has}
use Rattle.go_base.specs.Growing.{Grows}
use Rattle.go_selectors.proofs.Lists.{has-left, has-right, has-split, has-last, has-back}
use Rattle.api_correspond.specs.inner.Members.{OfSome}

module _ {A : Type 0} where
  -- nothing has the property
  pub grows_none : {P : A → Type 0} (xs : List A) → ((x : A) → P x → ⊥) → Grows P xs xs
  grows_none xs n = record { sound = λ x h. inl h; kept = λ x h. h; complete = λ x p. absurd (n x p) }

  -- what stands in a list was added
  pub grows_all : {P : A → Type 0} (xs ys new : List A) → new ≡ xs ++ ys → ((x : A) → Has ys x → P x) → ((x : A) → P x → Has ys x) → Grows P xs new
  grows_all {P} xs ys new e f g = subst (λ (w : List A). Grows P xs w) (sym e) (record {
    sound = λ x h. elim (has-split xs ys x h) [ inl a ↦ inl a | inr b ↦ inr (f x b) ];
    kept = λ x h. has-left xs ys x h;
    complete = λ x p. has-right xs ys x (g x p);
  })

  -- one item was added
  pub grows_one : {P : A → Type 0} (xs new : List A) (y : A) → new ≡ xs ++ y ∷ [] → P y → ((x : A) → P x → y ≡ x) → Grows P xs new
  grows_one {P} xs new y e p u = grows_all xs (y ∷ []) new e (λ x h. elim h [ inl a ↦ subst P a p | inr b ↦ absurd b ]) (λ x q. inl (u x q))

  pub grows_both : {P Q R : A → Type 0} (a b c : List A) → ((x : A) → P x → R x) → ((x : A) → Q x → R x) → ((x : A) → R x → P x ⊎ Q x) → Grows P a b → Grows Q b c → Grows R a c
  grows_both a b c f g h p q = record {
    sound = λ x i. elim (q.sound x i) [ inl u ↦ elim (p.sound x u) [ inl v ↦ inl v | inr w ↦ inr (f x w) ] | inr w ↦ inr (g x w) ];
    kept = λ x i. q.kept x (p.kept x i);
    complete = λ x r. elim (h x r) [ inl u ↦ q.kept x (p.complete x u) | inr v ↦ q.complete x v ];
  }

  pub grows_as : {P Q : A → Type 0} (a b : List A) → ((x : A) → P x → Q x) → ((x : A) → Q x → P x) → Grows P a b → Grows Q a b
  grows_as a b f g p = record {
    sound = λ x i. elim (p.sound x i) [ inl u ↦ inl u | inr v ↦ inr (f x v) ];
    kept = p.kept;
    complete = λ x q. p.complete x (g x q);
  }

  -- the same, item by item of another list
  module _ {B : Type 0} (P : B → A → Type 0) where
    pub of_none : (a : List A) → Grows (OfSome P []) a a
    of_none a = grows_none a (λ x h. absurd h.1)

    pub of_more : (fs gs : List B) (f : B) (a b c : List A) → gs ≡ fs ++ f ∷ [] → Grows (OfSome P fs) a b → Grows (P f) b c → Grows (OfSome P gs) a c
    of_more fs gs f a b c e p q = grows_both a b c
        (λ x h. (h.0, subst (λ (w : List B). Has w h.0) (sym e) (has-left fs (f ∷ []) h.0 h.1), h.2))
        (λ x h. (f, subst (λ (w : List B). Has w f) (sym e) (has-last fs f), h))
        (λ x h. elim (has-back fs f h.0 (subst (λ (w : List B). Has w h.0) e h.1)) [ inl u ↦ inl (h.0, u, h.2) | inr s ↦ inr (subst (λ (w : B). P w x) (sym s) h.2) ])
        p q
