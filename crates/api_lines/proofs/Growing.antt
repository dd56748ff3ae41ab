-- Sets that grow item by item, as lists of their members.
use Rattle.std.proofs.Common.{◌≡◌, ℕ, zero, suc, ◌+◌, ◌<◌, arith, List, [], ◌∷◌, ◌++◌, length, take, get_or, refl, sym, ap, ◌∙◌, subst, ◌⊎◌, inl, inr}
use Rattle.std.proofs.lemmas.List.{take_more}
use Rattle.go_base.specs.Lists.{Has, Each}
use Rattle.go_base.specs.Growing.{Grows}
use Rattle.go_base.proofs.Members.{has_split}

pub has_left : {A : Type 0} (xs ys : List A) (x : A) → Has xs x → Has (xs ++ ys) x
has_left [] ys x h = absurd h
has_left (y ∷ xs) ys x (inl e) = inl e
has_left (y ∷ xs) ys x (inr h) = inr (has_left xs ys x h)

pub has_right : {A : Type 0} (xs ys : List A) (x : A) → Has ys x → Has (xs ++ ys) x
has_right [] ys x h = h
has_right (y ∷ xs) ys x h = inr (has_right xs ys x h)

pub has_last : {A : Type 0} (xs : List A) (x : A) → Has (xs ++ x ∷ []) x
has_last xs x = has_right xs (x ∷ []) x (inl refl)

pub has_back : {A : Type 0} (xs : List A) (y x : A) → Has (xs ++ y ∷ []) x → Has xs x ⊎ (y ≡ x)
has_back xs y x h = elim (has_split xs (y ∷ []) x h) [ inl a ↦ inl a | inr b ↦ elim b [ inl e ↦ inr e | inr n ↦ absurd n ] ]

-- the items up to a place and the one there
pub taken : {A : Type 0} (xs : List A) (i : ℕ) (x : A) → i < length xs → x ≡ get_or xs i x → take (i + 1) xs ≡ take i xs ++ x ∷ []
taken xs i x h is = take_more xs i x h ∙ ap (λ y. take i xs ++ y ∷ []) (sym is)

-- what belongs to some item of a list
abbrev pub OfSome : {A K : Type 0} → (A → K → Type 0) → List A → K → Type 0
OfSome {A} P items x = (a : A) × Has items a × P a x

pub grows_none : {A K : Type 0} (P : A → K → Type 0) (old : List K) → Grows (OfSome P []) old old
grows_none P old = record { sound = λ x h. inl h; kept = λ x h. h; complete = λ x p. absurd p.1 }

-- nothing is added where there is nothing to add
pub grows_nothing : {K : Type 0} (P : K → Type 0) (old : List K) → ((x : K) → P x → ⊥) → Grows P old old
grows_nothing P old none = record { sound = λ x h. inl h; kept = λ x h. h; complete = λ x p. absurd (none x p) }

-- the same items, said another way
pub grows_as : {K : Type 0} (P Q : K → Type 0) (old new : List K) → ((x : K) → P x → Q x) → ((x : K) → Q x → P x) → Grows P old new → Grows Q old new
grows_as P Q old new to from g = record {
  sound = λ x h. elim (g.sound x h) [ inl o ↦ inl o | inr p ↦ inr (to x p) ];
  kept = g.kept;
  complete = λ x q. g.complete x (from x q);
}

pub grows_pushed : {K : Type 0} (old new : List K) (y : K) → new ≡ old ++ y ∷ [] → Grows (λ x. y ≡ x) old new
grows_pushed {K = K} old new y e = subst (Grows (λ x. y ≡ x) old) (sym e) (record {
  sound = λ x h. has_back old y x h;
  kept = λ x h. has_left old (y ∷ []) x h;
  complete = λ x is_y. subst (Has (old ++ y ∷ [])) is_y (has_last old y);
})

-- one set after another
pub grows_then : {K : Type 0} (P Q : K → Type 0) (old mid new : List K) → Grows P old mid → Grows Q mid new → Grows (λ x. P x ⊎ Q x) old new
grows_then P Q old mid new f g = record {
  sound = λ x h. elim (g.sound x h) [ inl m ↦ elim (f.sound x m) [ inl o ↦ inl o | inr p ↦ inr (inl p) ] | inr q ↦ inr (inr q) ];
  kept = λ x h. g.kept x (f.kept x h);
  complete = λ x h. elim h [ inl p ↦ g.kept x (f.complete x p) | inr q ↦ g.complete x q ];
}

-- what belongs to one item more
pub grows_back : {A K : Type 0} (P : A → K → Type 0) (items : List A) (a : A) (old mid new : List K) → Grows (OfSome P items) old mid → Grows (P a) mid new → Grows (OfSome P (items ++ a ∷ [])) old new
grows_back {A = A} P items a old mid new f g = record {
  sound = λ x n. elim (g.sound x n) [
    | inl m ↦ elim (f.sound x m) [ inl o ↦ inl o | inr p ↦ inr (p.0, has_left items (a ∷ []) p.0 p.1, p.2) ]
    | inr p ↦ inr (a, has_last items a, p)
  ];
  kept = λ x o. g.kept x (f.kept x o);
  complete = λ x p. elim (has_back items a p.0 p.1) [ inl t ↦ g.kept x (f.complete x (p.0, t, p.2)) | inr s ↦ g.complete x (subst (λ (w : A). P w x) (sym s) p.2) ];
}

pub grows_next : {A K : Type 0} (P : A → K → Type 0) (items : List A) (i : ℕ) (a : A) (old mid new : List K) → i < length items → a ≡ get_or items i a
    → Grows (OfSome P (take i items)) old mid → Grows (P a) mid new → Grows (OfSome P (take (i + 1) items)) old new
grows_next {A = A} P items i a old mid new h is f g = subst (λ (w : List A). Grows (OfSome P w) old new) (sym (taken items i a h is)) (grows_back P (take i items) a old mid new f g)

-- what holds of each item and of one more
pub each_back : {A : Type 0} (P : A → Type 0) (xs : List A) (x : A) → Each P xs → P x → Each P (xs ++ x ∷ [])
each_back P [] x e p = (p, tt)
each_back P (y ∷ xs) x e p = (e.0, each_back P xs x e.1 p)

pub each_front : {A : Type 0} (P : A → Type 0) (xs : List A) (x : A) → Each P (xs ++ x ∷ []) → Each P xs × P x
each_front P [] x e = (tt, e.0)
each_front P (y ∷ xs) x e = let k = each_front P xs x e.1 in ((e.0, k.0), k.1)

pub each_next : {A : Type 0} (P : A → Type 0) (xs : List A) (i : ℕ) (x : A) → i < length xs → x ≡ get_or xs i x → Each P (take i xs) → P x → Each P (take (i + 1) xs)
each_next {A = A} P xs i x h is e p = subst (Each P) (sym (taken xs i x h is)) (each_back P (take i xs) x e p)

-- what stands at a place is a member
pub has_at : {A : Type 0} (xs : List A) (i : ℕ) (x : A) → i < length xs → x ≡ get_or xs i x → Has xs x
has_at [] i x h is = absurd (omega arith)
has_at (y ∷ xs) zero x h is = inl (sym is)
has_at (y ∷ xs) (suc i) x h is = inr (has_at xs i x (omega arith) is)

pub each_of : {A : Type 0} (P : A → Type 0) (xs : List A) → ((x : A) → Has xs x → P x) → Each P xs
each_of P [] f = tt
each_of P (x ∷ xs) f = (f x (inl refl), each_of P xs (λ y h. f y (inr h)))

-- one item more
pub grows_member_back : {A : Type 0} (items : List A) (a : A) (old mid new : List A) → Grows (Has items) old mid → Grows (λ x. a ≡ x) mid new → Grows (Has (items ++ a ∷ [])) old new
grows_member_back {A = A} items a old mid new f g = record {
  sound = λ x n. elim (g.sound x n) [
    | inl m ↦ elim (f.sound x m) [ inl o ↦ inl o | inr p ↦ inr (has_left items (a ∷ []) x p) ]
    | inr e ↦ inr (subst (Has (items ++ a ∷ [])) e (has_last items a))
  ];
  kept = λ x o. g.kept x (f.kept x o);
  complete = λ x p. elim (has_back items a x p) [ inl t ↦ g.kept x (f.complete x t) | inr e ↦ g.complete x e ];
}

pub grows_member : {A : Type 0} (items : List A) (i : ℕ) (a : A) (old mid new : List A) → i < length items → a ≡ get_or items i a
    → Grows (Has (take i items)) old mid → Grows (λ x. a ≡ x) mid new → Grows (Has (take (i + 1) items)) old new
grows_member {A = A} items i a old mid new h is f g = subst (λ (w : List A). Grows (Has w) old new) (sym (taken items i a h is)) (grows_member_back (take i items) a old mid new f g)
