-- Which properties only finitely many things have.
use Rattle.std.proofs.Common.{◌≡◌, ◌⊎◌, ℕ, suc, List, [], ◌∷◌, ◌++◌, length, map, refl, ap, sym, ◌∙◌, subst, inl, inr}
use Rattle.go_base.specs.Lists.{Has}
use Rattle.go_existence.specs.Existence.{AreAll, AreFinite, NotNone}
use Rattle.go_existence.proofs.DoubleNegation.{bind, decided, of_each, so, sure}

pub has_left : {A : Type 0} (xs ys : List A) (x : A) → Has xs x → Has (xs ++ ys) x
has_left [] ys x h = absurd h
has_left (y ∷ xs) ys x (inl e) = inl e
has_left (y ∷ xs) ys x (inr h) = inr (has_left xs ys x h)

pub has_right : {A : Type 0} (xs ys : List A) (x : A) → Has ys x → Has (xs ++ ys) x
has_right [] ys x h = h
has_right (y ∷ xs) ys x h = inr (has_right xs ys x h)

pub has_map : {A B : Type 0} (f : A → B) (xs : List A) (x : A) → Has xs x → Has (map f xs) (f x)
has_map f [] x h = absurd h
has_map f (y ∷ xs) x (inl e) = inl (ap f e)
has_map f (y ∷ xs) x (inr h) = inr (has_map f xs x h)

-- a list without one of its items
pub without : {A : Type 0} (xs : List A) (x : A) → Has xs x → (ys : List A) × (length xs ≡ suc (length ys)) × ((y : A) → Has xs y → (x ≡ y) ⊎ Has ys y)
without [] x h = absurd h
without (z ∷ xs) x (inl e) = (xs, refl, λ y k. elim k [ inl f ↦ inl (sym e ∙ f) | inr l ↦ inr l ])
without (z ∷ xs) x (inr h) = let r = without xs x h in (z ∷ r.0, ap suc r.1, λ y k. elim k [ inl f ↦ inr (inl f) | inr l ↦ elim (r.2 y l) [ inl e ↦ inl e | inr j ↦ inr (inr j) ] ])

-- ---- ways to show it

pub finite_in : {A : Type 0} (P : A → Type 0) (xs : List A) → ((x : A) → P x → Has xs x) → AreFinite P
finite_in P xs h = sure (xs, h)

pub finite_list : {A : Type 0} (xs : List A) → AreFinite (Has xs)
finite_list xs = sure (xs, λ x h. h)

-- what has the one property has the other
pub finite_less : {A : Type 0} (P Q : A → Type 0) → ((x : A) → P x → Q x) → AreFinite Q → AreFinite P
finite_less P Q f h = so h (λ q. (q.0, λ x p. q.1 x (f x p)))

pub finite_or : {A : Type 0} (P Q : A → Type 0) → AreFinite P → AreFinite Q → AreFinite (λ x. P x ⊎ Q x)
finite_or P Q h k = bind h (λ p. so k (λ q. (p.0 ++ q.0, λ x e. elim e [ inl a ↦ has_left p.0 q.0 x (p.1 x a) | inr b ↦ has_right p.0 q.0 x (q.1 x b) ])))

-- what is made of finitely many things
pub finite_image : {A B : Type 0} (f : A → B) (P : A → Type 0) → AreFinite P → AreFinite (λ y. (x : A) × P x × (f x ≡ y))
finite_image {A} {B} f P h = so h (λ p. (map f p.0, λ y k. subst (Has (map f p.0)) k.2 (has_map f p.0 k.0 (p.1 k.0 k.1))))

-- at most one thing has the property
pub finite_one : {A : Type 0} (P : A → Type 0) → ((x y : A) → P x → P y → x ≡ y) → AreFinite P
finite_one {A} P one = so (decided ((x : A) × P x)) (λ d. elim d [ inl a ↦ (a.0 ∷ [], λ x p. inl (one a.0 x a.1 p)) | inr never ↦ ([], λ x p. never (x, p)) ])

-- the property is decided in some way
pub finite_if : {A : Type 0} (C : Type 0) (P : A → Type 0) → (C → AreFinite P) → AreFinite (λ x. C × P x)
finite_if C P h = bind (decided C) (λ d. elim d [ inl c ↦ so (h c) (λ p. (p.0, λ x k. p.1 x k.1)) | inr never ↦ sure ([], λ x k. absurd (never k.0)) ])

module _ {A B : Type 0} (P : A → Type 0) (Q : A → B → Type 0) where
  abbrev Covers : List A → List B → Type 0
  Covers xs ys = (x : A) → Has xs x → P x → (y : B) → Q x y → Has ys y

  more : (x : A) (xs : List A) (ys zs : List B) → ((y : B) → P x → Q x y → Has ys y) → Covers xs zs → Covers (x ∷ xs) (ys ++ zs)
  more x xs ys zs h k w (inl e) p y q = has_left ys zs y (h y (subst P (sym e) p) (subst (λ (v : A). Q v y) (sym e) q))
  more x xs ys zs h k w (inr l) p y q = has_right ys zs y (k w l p y q)

  covered : (xs : List A) → ((x : A) → P x → AreFinite (Q x)) → NotNone ((ys : List B) × Covers xs ys)
  covered [] f = sure ([], λ x h p y q. absurd h)
  covered (x ∷ xs) f = bind (decided (P x)) (λ d. bind (covered xs f) (λ rest. elim d [
    | inl p ↦ so (f x p) (λ b. (b.0 ++ rest.0, more x xs b.0 rest.0 (λ y i q. b.1 y q) rest.1))
    | inr never ↦ sure (rest.0, more x xs [] rest.0 (λ y p q. absurd (never p)) rest.1)
  ]))

  -- finitely many things each have finitely many
  pub finite_over : AreFinite P → ((x : A) → P x → AreFinite (Q x)) → AreFinite (λ y. (x : A) × P x × Q x y)
  finite_over h f = bind h (λ p. so (covered p.0 f) (λ c. (c.0, λ y k. c.1 k.0 (p.1 k.0 k.1) k.1 y k.2)))

-- ---- exactly those

module _ {A : Type 0} (P : A → Type 0) where
  record Kept (xs ys : List A) : Type 0 where
    sound : (x : A) → Has ys x → P x
    complete : (x : A) → Has xs x → P x → Has ys x

  kept : (xs : List A) → NotNone ((ys : List A) × Kept xs ys)
  kept [] = sure ([], record { sound = λ x h. absurd h; complete = λ x h p. h })
  kept (x ∷ xs) = bind (decided (P x)) (λ d. so (kept xs) (λ rest. elim d [
    | inl p ↦ (x ∷ rest.0, record { sound = λ y h. elim h [ inl e ↦ subst P e p | inr l ↦ rest.1.sound y l ]; complete = λ y h q. elim h [ inl e ↦ inl e | inr l ↦ inr (rest.1.complete y l q) ] })
    | inr never ↦ (rest.0, record { sound = rest.1.sound; complete = λ y h q. elim h [ inl e ↦ absurd (never (subst P (sym e) q)) | inr l ↦ rest.1.complete y l q ] })
  ]))

  -- some list has exactly those
  pub all_of : AreFinite P → NotNone ((xs : List A) × AreAll P xs)
  all_of h = bind h (λ p. so (kept p.0) (λ k. (k.0, record { sound = k.1.sound; complete = λ x q. k.1.complete x (p.1 x q) q })))

-- ---- what holds of all of them

pub whenever : (A : Type 0) {B : Type 0} → (A → NotNone B) → NotNone (A → B)
whenever A f = bind (decided A) (λ d. elim d [ inl a ↦ so (f a) (λ b. λ x. b) | inr never ↦ sure (λ x. absurd (never x)) ])

-- what can't fail to hold of each of finitely many things holds of all at once
pub of_all : {A : Type 0} (P Q : A → Type 0) → AreFinite P → ((x : A) → P x → NotNone (Q x)) → NotNone ((x : A) → P x → Q x)
of_all P Q h f = bind h (λ p. so (of_each (λ x. P x → Q x) p.0 (λ x i. whenever (P x) (f x))) (λ all. λ x k. all x (p.1 x k) k))
