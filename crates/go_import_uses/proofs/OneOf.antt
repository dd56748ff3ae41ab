-- One of the members of a list has a property, told member by member.
use Rattle.std.proofs.Common.{◌≡◌, ◌<◌, ◌≤◌, ◌+◌, ℕ, zero, suc, Bool, true, false, List, [], ◌∷◌, drop, get_or, length, refl, sym, ap, ◌∙◌, subst, inl, inr}
use Rattle.std.proofs.lemmas.List.{drop_more}
use Rattle.go_base.proofs.Lists.{drop_past}
use Rattle.go_base.specs.Lists.{Has}
use Rattle.go_selectors.specs.Answers.{Decides}

pub some_of : {A : Type 0} (P : A → Type 0) → List A → Type 0
some_of {A} P xs = (x : A) × Has xs x × P x

pub is_so : (P : Type 0) (b : Bool) → b ≡ true → Decides b P → P
is_so P b e d = subst (λ (z : Bool). Decides z P) e d

pub is_not : (P : Type 0) (b : Bool) → b ≡ false → Decides b P → P → ⊥
is_not P b e d = subst (λ (z : Bool). Decides z P) e d

pub of_fact : {P Q : Type 0} (b : Bool) → (P → Q) → (Q → P) → Decides b P → Decides b Q
of_fact true f g d = f d
of_fact false f g d = λ q. d (g q)

has_from : {A : Type 0} (xs : List A) (i : ℕ) (x : A) → Has (drop i xs) x → Has xs x
has_from xs zero x h = h
has_from [] (suc i) x h = absurd h
has_from (y ∷ xs) (suc i) x h = inr (has_from xs i x h)

module _ {A : Type 0} (P : A → Type 0) (all : List A) where
  -- all that have it are among those that are left
  abbrev pub AreLeft : ℕ → Type 0
  AreLeft i = (x : A) → Has all x → P x → Has (drop i all) x

  pub all_left : AreLeft 0
  all_left x h p = h

  module _ (i : ℕ) (x : A) (within : i < length all) (is : x ≡ get_or all i x) where
    from_here : drop i all ≡ x ∷ drop (i + 1) all
    from_here = drop_more all i x within ∙ ap (λ (y : A). y ∷ drop (i + 1) all) (sym is)

    pub here : Has all x
    here = has_from all i x (subst (λ (ys : List A). Has ys x) (sym from_here) (inl refl))

    pub left_more : (P x → ⊥) → AreLeft i → AreLeft (i + 1)
    left_more n w y h p = elim (subst (λ (ys : List A). Has ys y) from_here (w y h p)) [ inl e ↦ absurd (n (subst P (sym e) p)) | inr k ↦ k ]

  pub none_left : (i : ℕ) → length all ≤ i → AreLeft i → (x : A) → Has all x → P x → ⊥
  none_left i h w x k p = subst (λ (ys : List A). Has ys x) (drop_past i all h) (w x k p)
