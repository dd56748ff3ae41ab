-- What lies in a folder, and the entry that it has there.
use Rattle.std.proofs.Common.{◌≡◌, ◌≢◌, ℕ, zero, suc, Bool, true, false, nat_eq, if◌then◌else◌, Option, Some, None, is_some, [], ◌∷◌, ◌++◌, length, take, drop, refl, sym, ap, ◌∙◌}
use mathlib.Core.Bool.{true≢false}
use Rattle.std.specs.List.{prefix_len}
use Rattle.std.specs.Cmp.Lexicographic.{pointwise}
use Rattle.std.proofs.lemmas.Slice.Eq.{bytes_eq-Decides}
use Rattle.go_outside.specs.declared.files.Entry.{Entry}
use Rattle.go_outside.specs.Paths.{Path, after, after_slash, within, not_slash, entry_at, entry_of_rest, entry_of}

front_and_rest : (n : ℕ) (xs : Path) → take n xs ++ drop n xs ≡ xs
front_and_rest zero xs = refl
front_and_rest (suc n) [] = refl
front_and_rest (suc n) (x ∷ xs) = ap (λ ys. x ∷ ys) (front_and_rest n xs)

front_taken : (a r : Path) → take (length a) (a ++ r) ≡ a
front_taken [] r = refl
front_taken (x ∷ a) r = ap (λ ys. x ∷ ys) (front_taken a r)

front_dropped : (a r : Path) → drop (length a) (a ++ r) ≡ r
front_dropped [] r = refl
front_dropped (x ∷ a) r = front_dropped a r

inside : {A : Type 0} (a b : A) → Some a ≡ Some b → a ≡ b
inside a b e = cc

some_none : {A : Type 0} (a : A) → Some a ≡ None → ⊥
some_none a e = cc

after_by : (a q r : Path) (b : Bool) → pointwise nat_eq (take (length a) q) a ≡ b → (if b then Some (drop (length a) q) else None) ≡ Some r → q ≡ a ++ r
after_by a q r true t e = sym (front_and_rest (length a) q) ∙ ap (λ w. w ++ drop (length a) q) ((bytes_eq-Decides (take (length a) q) a).0 t) ∙ ap (λ w. a ++ w) (inside (drop (length a) q) r e)
after_by a q r false t e = absurd (some_none r (sym e))

after_is : (a q r : Path) → after a q ≡ Some r → q ≡ a ++ r
after_is a q r e = after_by a q r (pointwise nat_eq (take (length a) q) a) refl e

after_of : (a r : Path) → after a (a ++ r) ≡ Some r
after_of a r = ap (λ b. if b then Some (drop (length a) (a ++ r)) else None) ((bytes_eq-Decides (take (length a) (a ++ r)) a).1 (front_taken a r)) ∙ ap Some (front_dropped a r)

within_by : (f q rest : Path) (o : Option Path) → after f q ≡ o → after_slash o ≡ Some rest → q ≡ f ++ 47 ∷ rest
within_by f q rest None h e = absurd (some_none rest (sym e))
within_by f q rest (Some more) h e = after_is f q more h ∙ ap (λ w. f ++ w) (after_is (47 ∷ []) more rest e)

pub within_is : (f q rest : Path) → within f q ≡ Some rest → q ≡ f ++ 47 ∷ rest
within_is f q rest e = within_by f q rest (after f q) refl e

pub within_of : (f rest : Path) → within f (f ++ 47 ∷ rest) ≡ Some rest
within_of f rest = ap after_slash (after_of f (47 ∷ rest)) ∙ after_of (47 ∷ []) rest

some_by : (f q : Path) (o : Option Path) → within f q ≡ o → o ≢ None → (rest : Path) × (q ≡ f ++ 47 ∷ rest)
some_by f q None e h = absurd (h refl)
some_by f q (Some rest) e h = (rest, within_is f q rest e)

-- a path that lies in a folder begins with the folder and a slash
pub within_some : (f q : Path) → within f q ≢ None → (rest : Path) × (q ≡ f ++ 47 ∷ rest)
within_some f q h = some_by f q (within f q) refl h

pub within_never : (f q : Path) → is_some (within f q) ≡ false → (rest : Path) → q ≡ f ++ 47 ∷ rest → ⊥
within_never f q h rest e = true≢false (sym (ap is_some (ap (within f) e ∙ within_of f rest)) ∙ h)

is_some_by : {A : Type 0} (o : Option A) → is_some o ≡ true → o ≢ None
is_some_by None h = absurd (true≢false (sym h))
is_some_by (Some a) h = some_none a

pub within_sure : (f q : Path) → is_some (within f q) ≡ true → within f q ≢ None
within_sure f q h = is_some_by (within f q) h

pub within_ever : (f q rest : Path) → q ≡ f ++ 47 ∷ rest → within f q ≢ None
within_ever f q rest e k = some_none rest (sym (ap (within f) e ∙ within_of f rest) ∙ k)

rest_by : (f q : Path) (e : Entry) (o : Option Path) → within f q ≡ o → entry_of_rest o ≡ Some e
    → (rest : Path) × (q ≡ f ++ 47 ∷ rest) × (entry_at rest (prefix_len not_slash rest) ≡ e)
rest_by f q e None w h = absurd (some_none e (sym h))
rest_by f q e (Some rest) w h = (rest, within_is f q rest w, inside (entry_at rest (prefix_len not_slash rest)) e h)

-- a path that has an entry in a folder begins with the folder and a slash, and the entry is that of what follows
pub entry_rest : (f q : Path) (e : Entry) → entry_of f q ≡ Some e → (rest : Path) × (q ≡ f ++ 47 ∷ rest) × (entry_at rest (prefix_len not_slash rest) ≡ e)
entry_rest f q e h = rest_by f q e (within f q) refl h

pub entry_from : (f rest : Path) → entry_of f (f ++ 47 ∷ rest) ≡ Some (entry_at rest (prefix_len not_slash rest))
entry_from f rest = ap entry_of_rest (within_of f rest)

-- a path without an entry in a folder doesn't begin with the folder and a slash
pub entry_never : (f q : Path) → entry_of f q ≡ None → (rest : Path) → q ≡ f ++ 47 ∷ rest → ⊥
entry_never f q h rest e = some_none (entry_at rest (prefix_len not_slash rest)) (sym (ap (entry_of f) e ∙ entry_from f rest) ∙ h)
