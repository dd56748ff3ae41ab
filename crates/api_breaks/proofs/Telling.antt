-- What was told of rules one after another.
use Rattle.std.proofs.Common.{◌≡◌, ◌≤◌, ◌⊎◌, inl, inr, ℕ, List, [], ◌∷◌, ◌++◌, length, take, sym, ◌∙◌, subst}
use Rattle.go_base.specs.Lists.{Has}
use Rattle.go_base.proofs.Lists.{take_past}
use Rattle.go_selectors.proofs.Lists.{has-left, has-last, has-back}
use Rattle.api_correspond.specs.inner.Members.{OfSome}
use Rattle.api_correspond.proofs.Growing.{grows_none, grows_one, grows_as, grows_both, of_none, of_more}
use Rattle.api_breaks.specs.inner.Telling.{Tells, KeptBy}

module _ {A : Type 0} where
  -- the rule is kept
  pub told_kept : {K : Type 0} {P : A → Type 0} (xs : List A) → K → ((x : A) → P x → ⊥) → Tells K P xs xs
  told_kept xs k n = record { grows = grows_none xs n; decided = inl k }

  -- a loss was added
  pub told_lost : {K : Type 0} {P : A → Type 0} (xs new : List A) (y : A) → new ≡ xs ++ y ∷ [] → P y → ((x : A) → P x → y ≡ x) → Tells K P xs new
  told_lost xs new y e p u = record { grows = grows_one xs new y e p u; decided = inr (y, p) }

  pub told_as : {K L : Type 0} {P Q : A → Type 0} (a b : List A) → (K → L) → ((x : A) → P x → Q x) → ((x : A) → Q x → P x) → Tells K P a b → Tells L Q a b
  told_as a b k f g t = record { grows = grows_as a b f g t.grows; decided = elim t.decided [ inl d ↦ inl (k d) | inr d ↦ inr (d.0, f d.0 d.1) ] }

  pub told_both : {K L M : Type 0} {P Q R : A → Type 0} (a b c : List A) → (K → L → M) → ((x : A) → P x → R x) → ((x : A) → Q x → R x) → ((x : A) → R x → P x ⊎ Q x) → Tells K P a b → Tells L Q b c → Tells M R a c
  told_both a b c k f g h s t = record {
    grows = grows_both a b c f g h s.grows t.grows;
    decided = elim s.decided [
      | inl d ↦ elim t.decided [ inl e ↦ inl (k d e) | inr e ↦ inr (e.0, g e.0 e.1) ]
      | inr d ↦ inr (d.0, f d.0 d.1)
    ];
  }

  -- item by item of another list
  module _ {B : Type 0} (K : B → Type 0) (P : B → A → Type 0) where
    pub told_none : (a : List A) → Tells (KeptBy K []) (OfSome P []) a a
    told_none a = record { grows = of_none P a; decided = inl (λ f h. absurd h) }

    pub told_more : (fs gs : List B) (f : B) (a b c : List A) → gs ≡ fs ++ f ∷ [] → Tells (KeptBy K fs) (OfSome P fs) a b → Tells (K f) (P f) b c → Tells (KeptBy K gs) (OfSome P gs) a c
    told_more fs gs f a b c e s t = record {
      grows = of_more P fs gs f a b c e s.grows t.grows;
      decided = elim s.decided [
        | inl d ↦ elim t.decided [
          | inl k ↦ inl (λ g h. elim (has-back fs f g (subst (λ (w : List B). Has w g) e h)) [ inl x ↦ d g x | inr y ↦ subst K y k ])
          | inr k ↦ inr (k.0, (f, subst (λ (w : List B). Has w f) (sym e) (has-last fs f), k.1))
        ]
        | inr d ↦ inr (d.0, (d.1.0, subst (λ (w : List B). Has w d.1.0) (sym e) (has-left fs (f ∷ []) d.1.0 d.1.1), d.1.2))
      ];
    }

    pub told_all : (fs items : List B) (n : ℕ) (a b : List A) → items ≡ fs → length items ≤ n → Tells (KeptBy K (take n items)) (OfSome P (take n items)) a b → Tells (KeptBy K fs) (OfSome P fs) a b
    told_all fs items n a b e h t = subst (λ (w : List B). Tells (KeptBy K w) (OfSome P w) a b) (take_past n items h ∙ e) t
