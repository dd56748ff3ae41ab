-- Searches of lists from the front.
use Rattle.std.proofs.Common.{◌≡◌, ℕ, zero, suc, ◌+◌, ◌<◌, ◌≤◌, inl, inr, Bool, true, false, ◌||◌, List, [], ◌∷◌, ◌++◌, length, map, take, drop, get_or, refl, sym, ap, ◌∙◌, subst, arith, Decides}
use mathlib.Core.Bool.{true≢false}
use Rattle.std.specs.List.{list_any}
use Rattle.std.proofs.lemmas.List.{drop_more, take_more}
use Rattle.go_base.specs.Lists.{Each, Has}
use Rattle.go_base.proofs.Lists.{take_past}
use Rattle.go_base.proofs.Members.{each_has}

-- ---- members that a test finds

module _ {A : Type 0} (same : A → A → Bool) (is : (a b : A) → same a b ≡ true → a ≡ b) (itself : (a : A) → same a a ≡ true) where
  or_second : (b c : Bool) → c ≡ true → (b || c) ≡ true
  or_second true c e = refl
  or_second false c e = e

  here_or_on : (k x : A) (xs : List A) (b : Bool) → same x k ≡ b → (b || list_any (λ y. same y k) xs) ≡ true → (list_any (λ y. same y k) xs ≡ true → Has xs k) → Has (x ∷ xs) k
  here_or_on k x xs true e h rest = inl (is x k e)
  here_or_on k x xs false e h rest = inr (rest h)

  pub any_has : (xs : List A) (k : A) → list_any (λ y. same y k) xs ≡ true → Has xs k
  any_has [] k h = absurd (true≢false (sym h))
  any_has (x ∷ xs) k h = here_or_on k x xs (same x k) refl h (any_has xs k)

  pub has_any : (xs : List A) (k : A) → Has xs k → list_any (λ y. same y k) xs ≡ true
  has_any [] k h = absurd h
  has_any (x ∷ xs) k (inl e) = ap (λ b. b || list_any (λ y. same y k) xs) (ap (λ w. same w k) e ∙ itself k)
  has_any (x ∷ xs) k (inr h) = or_second (same x k) (list_any (λ y. same y k) xs) (has_any xs k h)

-- ---- places in lists

pub has_at : {A : Type 0} (xs : List A) (i : ℕ) (x : A) → i < length xs → x ≡ get_or xs i x → Has xs x
has_at [] i x h is = absurd (omega arith)
has_at (y ∷ xs) zero x h is = inl (sym is)
has_at (y ∷ xs) (suc i) x h is = inr (has_at xs i x (omega arith) is)

pub has_get : {A : Type 0} (xs : List A) (i : ℕ) (d : A) → i < length xs → Has xs (get_or xs i d)
has_get [] i d h = absurd (omega arith)
has_get (x ∷ xs) zero d h = inl refl
has_get (x ∷ xs) (suc i) d h = inr (has_get xs i d (omega arith))

-- the item at a place and those behind it
pub rest_at : {A : Type 0} (xs : List A) (i : ℕ) (x : A) → i < length xs → x ≡ get_or xs i x → drop i xs ≡ x ∷ drop (i + 1) xs
rest_at xs i x h is = drop_more xs i x h ∙ ap (λ y. y ∷ drop (i + 1) xs) (sym is)

-- the items up to a place and the one there
pub front_at : {A : Type 0} (xs : List A) (i : ℕ) (x : A) → i < length xs → x ≡ get_or xs i x → take (i + 1) xs ≡ take i xs ++ x ∷ []
front_at xs i x h is = take_more xs i x h ∙ ap (λ y. take i xs ++ y ∷ []) (sym is)

-- ---- what holds of each item

each_back : {A : Type 0} (P : A → Type 0) (xs : List A) (x : A) → Each P xs → P x → Each P (xs ++ x ∷ [])
each_back P [] x e p = (p, tt)
each_back P (y ∷ xs) x e p = (e.0, each_back P xs x e.1 p)

pub each_next : {A : Type 0} (P : A → Type 0) (xs : List A) (i : ℕ) (x : A) → i < length xs → x ≡ get_or xs i x → Each P (take i xs) → P x → Each P (take (i + 1) xs)
each_next {A = A} P xs i x h is e p = subst (Each P) (sym (front_at xs i x h is)) (each_back P (take i xs) x e p)

pub each_of : {A : Type 0} (P : A → Type 0) (xs : List A) → ((x : A) → Has xs x → P x) → Each P xs
each_of P [] f = tt
each_of P (x ∷ xs) f = (f x (inl refl), each_of P xs (λ y h. f y (inr h)))

pub each_whole : {A : Type 0} (P : A → Type 0) (xs : List A) (i : ℕ) → length xs ≤ i → Each P (take i xs) → (x : A) → Has xs x → P x
each_whole {A = A} P xs i h e x k = each_has P xs x (subst (Each P) (take_past i xs h) e) k

-- ---- members of mapped lists

pub has_map : {A B : Type 0} (f : A → B) (xs : List A) (x : A) → Has xs x → Has (map f xs) (f x)
has_map f [] x h = absurd h
has_map f (y ∷ xs) x (inl e) = inl (ap f e)
has_map f (y ∷ xs) x (inr h) = inr (has_map f xs x h)

pub map_has : {A B : Type 0} (f : A → B) (xs : List A) (y : B) → Has (map f xs) y → (x : A) × Has xs x × (f x ≡ y)
map_has f [] y h = absurd h
map_has f (x ∷ xs) y (inl e) = (x, inl refl, e)
map_has f (x ∷ xs) y (inr h) = let k = map_has f xs y h in (k.0, inr k.1, k.2)

pub each_map : {A B : Type 0} (f : A → B) (P : B → Type 0) (xs : List A) → Each (λ x. P (f x)) xs → Each P (map f xs)
each_map f P [] e = tt
each_map f P (x ∷ xs) e = (e.0, each_map f P xs e.1)

pub map_once : {A B : Type 0} (f : A → B) → ((x y : A) → f x ≡ f y → x ≡ y) → (xs ys : List A) → map f xs ≡ map f ys → xs ≡ ys
map_once f one [] [] e = refl
map_once f one [] (y ∷ ys) e = absurd (cc)
map_once f one (x ∷ xs) [] e = absurd (cc)
map_once f one (x ∷ xs) (y ∷ ys) e =
    let first : x ≡ y = one x y (cc) in
    let rest : xs ≡ ys = map_once f one xs ys (cc) in
    λ i. first i ∷ rest i

-- ---- answers

pub yes : {P : Type 0} → P → Decides true P
yes p = (λ e. p, λ q. refl)

pub no : {P : Type 0} → (P → ⊥) → Decides false P
no n = (λ e. absurd (true≢false (sym e)), λ p. absurd (n p))

pub refuted : {P : Type 0} (b : Bool) → Decides b P → b ≡ false → P → ⊥
refuted b d e p = true≢false (sym (d.1 p) ∙ e)

pub none_long : {A : Type 0} (xs : List A) → length xs ≡ 0 → xs ≡ []
none_long [] e = refl
none_long (x ∷ xs) e = absurd (omega arith)
