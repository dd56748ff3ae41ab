-- Members of lists of numbers, and of the sets that hold numbers.
use Rattle.std.proofs.Common.{◌≡◌, ◌≢◌, ℕ, zero, suc, ◌<◌, ◌≤◌, Bool, true, false, cond, nat_eq, nat_lt, List, [], ◌∷◌, ◌++◌, length, get_or, refl, sym, ◌∙◌, subst, ◌⊎◌, inl, inr, arith}
use Rattle.std.specs.Prelude.{All}
use Rattle.std.specs.Ordering.{nat_cmp, match_ordering}
use Rattle.std.specs.declared.cmp.Ordering.{Ordering}
use Rattle.std.specs.declared.cmp.Ordering.TheVariants.{Less, Equal, Greater}
use Rattle.std.specs.FinMap.{nat_cmp-IsAntisymmetric}
use Rattle.std.specs.BTreeSet.{insert_key}
use Rattle.std.specs.List.{list_any}
use Rattle.indexmap.specs.IndexSet.{insert_key as append_key}
use Rattle.std.proofs.lemmas.Bool.Decides.{nat_tests}
use Rattle.go_base.specs.Lists.{Has}
use Rattle.go_base.specs.Growing.{Grows}
use Rattle.go_base.proofs.Members.{found_has, has_found}

module _ {A : Type 0} where
  pub has_left : (xs ys : List A) (x : A) → Has xs x → Has (xs ++ ys) x
  has_left [] ys x h = absurd h
  has_left (y ∷ xs) ys x (inl e) = inl e
  has_left (y ∷ xs) ys x (inr h) = inr (has_left xs ys x h)

  pub has_last : (xs : List A) (x : A) → Has (xs ++ x ∷ []) x
  has_last [] x = inl refl
  has_last (y ∷ xs) x = inr (has_last xs x)

  pub has_back : (xs : List A) (y x : A) → Has (xs ++ y ∷ []) x → Has xs x ⊎ (y ≡ x)
  has_back [] y x (inl e) = inr e
  has_back [] y x (inr h) = absurd h
  has_back (z ∷ xs) y x (inl e) = inl (inl e)
  has_back (z ∷ xs) y x (inr h) = elim (has_back xs y x h) [ inl k ↦ inl (inr k) | inr e ↦ inr e ]

  -- a member stands at a place
  pub has_place : (xs : List A) (x d : A) → Has xs x → (i : ℕ) × (i < length xs) × (get_or xs i d ≡ x)
  has_place [] x d h = absurd h
  has_place (y ∷ xs) x d (inl e) = (zero, omega arith, e)
  has_place (y ∷ xs) x d (inr h) = let p = has_place xs x d h in (suc p.0, omega (arith, p.1), p.2)

  pub has_at : (xs : List A) (i : ℕ) (d : A) → i < length xs → Has xs (get_or xs i d)
  has_at [] i d h = absurd (omega arith)
  has_at (x ∷ xs) zero d h = inl refl
  has_at (x ∷ xs) (suc i) d h = inr (has_at xs i d (omega arith))

same_by : (a b : ℕ) (r : Bool) → nat_eq a b ≡ r → (a ≡ b) ⊎ (a ≢ b)
same_by a b true e = inl (grind (arith, nat_tests, e))
same_by a b false e = inr (λ s. absurd (grind (arith, nat_tests, e, s)))

-- two numbers are one, or they differ
pub same_or : (a b : ℕ) → (a ≡ b) ⊎ (a ≢ b)
same_or a b = same_by a b (nat_eq a b) refl

less_by : (a b : ℕ) (r : Bool) → nat_lt a b ≡ r → (a < b) ⊎ (b ≤ a)
less_by a b true e = inl (grind (arith, nat_tests, e))
less_by a b false e = inr (grind (arith, nat_tests, e))

-- a number is below another, or it isn't
pub below_or : (a b : ℕ) → (a < b) ⊎ (b ≤ a)
below_or a b = less_by a b (nat_lt a b) refl

number_is : (a b : ℕ) → nat_eq a b ≡ true → a ≡ b
number_is a b e = grind (arith, nat_tests, e)

number_itself : (a : ℕ) → nat_eq a a ≡ true
number_itself a = grind (arith, nat_tests)

pub key_has : (ks : List ℕ) (k : ℕ) → list_any (nat_eq k) ks ≡ true → Has ks k
key_has ks k h = found_has nat_eq number_is ks k h

pub has_key : (ks : List ℕ) (k : ℕ) → Has ks k → list_any (nat_eq k) ks ≡ true
has_key ks k h = has_found nat_eq number_itself ks k h

appended_by : (ks : List ℕ) (k : ℕ) (r : Bool) → list_any (nat_eq k) ks ≡ r → (Has ks k → ⊥) → cond r ks (ks ++ k ∷ []) ≡ ks ++ k ∷ []
appended_by ks k true e fresh = absurd (fresh (key_has ks k e))
appended_by ks k false e fresh = refl

-- a key that isn't there is appended
pub appended : (ks : List ℕ) (k : ℕ) → (Has ks k → ⊥) → append_key nat_eq ks k ≡ ks ++ k ∷ []
appended ks k fresh = appended_by ks k (list_any (nat_eq k) ks) refl fresh

-- the keys of an ordered set after one was put among them
placed_by : (y : ℕ) (ys : List ℕ) (k : ℕ) (o : Ordering) → nat_cmp k y ≡ o → Grows (λ x. k ≡ x) ys (insert_key nat_cmp ys k) → Grows (λ x. k ≡ x) (y ∷ ys) (match_ordering o (k ∷ y ∷ ys) (y ∷ ys) (y ∷ insert_key nat_cmp ys k))
placed_by y ys k Less e g = record { sound = λ x h. elim h [ inl s ↦ inr s | inr r ↦ inl r ]; kept = λ x h. inr h; complete = λ x h. inl h }
placed_by y ys k Equal e g = record { sound = λ x h. inl h; kept = λ x h. h; complete = λ x h. inl (sym (nat_cmp-IsAntisymmetric k y e) ∙ h) }
placed_by y ys k Greater e g = record {
  sound = λ x h. elim h [ inl s ↦ inl (inl s) | inr r ↦ elim (g.sound x r) [ inl a ↦ inl (inr a) | inr b ↦ inr b ] ];
  kept = λ x h. elim h [ inl s ↦ inl s | inr r ↦ inr (g.kept x r) ];
  complete = λ x h. inr (g.complete x h);
}

placed : (ks : List ℕ) (k : ℕ) → Grows (λ x. k ≡ x) ks (insert_key nat_cmp ks k)
placed [] k = record { sound = λ x h. elim h [ inl s ↦ inr s | inr r ↦ absurd r ]; kept = λ x h. absurd h; complete = λ x h. inl h }
placed (y ∷ ys) k = placed_by y ys k (nat_cmp k y) refl (placed ys k)

pub grows_placed : (old new : List ℕ) (k : ℕ) → new ≡ insert_key nat_cmp old k → Grows (λ x. k ≡ x) old new
grows_placed old new k e = subst (Grows (λ x. k ≡ x) old) (sym e) (placed old k)

pub get_or_same : {A : Type 0} (xs : List A) (n : ℕ) (d e : A) → n < length xs → get_or xs n d ≡ get_or xs n e
get_or_same [] n d e h = absurd (omega arith)
get_or_same (x ∷ xs) zero d e h = refl
get_or_same (x ∷ xs) (suc n) d e h = get_or_same xs n d e (omega arith)

greater_of : (k x : ℕ) → nat_cmp k x ≡ Less → k < x
greater_of k x e = grind (arith, nat_tests, e)

-- the keys behind the least one are greater
pub above_least : (k : ℕ) (rest : List ℕ) → All (λ x. nat_cmp k x ≡ Less) rest → (m : ℕ) → Has rest m → k < m
above_least k [] h m q = absurd q
above_least k (y ∷ ys) h m (inl e) = subst (λ (w : ℕ). k < w) e (greater_of k y (h 0 y (omega arith)))
above_least k (y ∷ ys) h m (inr q) = above_least k ys (λ i d l. h (suc i) d (omega arith)) m q

-- a list that isn't longer than nothing is empty
pub no_items : (xs : List ℕ) → (0 < length xs → ⊥) → xs ≡ []
no_items [] h = refl
no_items (x ∷ xs) h = absurd (h (omega arith))
