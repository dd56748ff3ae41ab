-- Different numbers below a bound are no more than it tells.
use Rattle.std.proofs.Common.{◌≡◌, ◌≢◌, ℕ, zero, suc, ◌<◌, ◌≤◌, Bool, true, false, cond, nat_eq, List, [], ◌∷◌, ◌++◌, length, refl, sym, ap, ◌∙◌, subst, inl, inr, arith}
use Rattle.std.proofs.lemmas.Bool.Decides.{nat_tests}
use Rattle.go_base.specs.Lists.{Has, Once}
use Rattle.go_imports.proofs.Members.{has_back, same_or}

abbrev without : ℕ → List ℕ → List ℕ
without k [] = []
without k (x ∷ xs) = cond (nat_eq x k) (without k xs) (x ∷ without k xs)

left_by : (k x y : ℕ) (xs ws : List ℕ) (b : Bool) → nat_eq x k ≡ b → (Has ws y → Has xs y × (y ≢ k)) → Has (cond b ws (x ∷ ws)) y → Has (x ∷ xs) y × (y ≢ k)
left_by k x y xs ws true e f h = let p = f h in (inr p.0, p.1)
left_by k x y xs ws false e f (inl s) = (inl s, λ t. absurd (let u : x ≡ k = s ∙ t in grind (arith, nat_tests, e, u)))
left_by k x y xs ws false e f (inr h) = let p = f h in (inr p.0, p.1)

left : (k : ℕ) (xs : List ℕ) (y : ℕ) → Has (without k xs) y → Has xs y × (y ≢ k)
left k [] y h = absurd h
left k (x ∷ xs) y h = left_by k x y xs (without k xs) (nat_eq x k) refl (left k xs y) h

once_by : (k x : ℕ) (xs ws : List ℕ) (b : Bool) → (Has ws x → ⊥) → Once ws → Once (cond b ws (x ∷ ws))
once_by k x xs ws true n o = o
once_by k x xs ws false n o = (n, o)

still_once : (k : ℕ) (xs : List ℕ) → Once xs → Once (without k xs)
still_once k [] o = tt
still_once k (x ∷ xs) o = once_by k x xs (without k xs) (nat_eq x k) (λ h. o.0 (left k xs x h).0) (still_once k xs o.1)

same_by : (k x : ℕ) (xs : List ℕ) (b : Bool) → nat_eq x k ≡ b → (x ≡ k → ⊥) → without k xs ≡ xs → cond b (without k xs) (x ∷ without k xs) ≡ x ∷ xs
same_by k x xs true e n r = absurd (n (grind (arith, nat_tests, e)))
same_by k x xs false e n r = ap (λ (ys : List ℕ). x ∷ ys) r

all_left : (k : ℕ) (xs : List ℕ) → (Has xs k → ⊥) → without k xs ≡ xs
all_left k [] n = refl
all_left k (x ∷ xs) n = same_by k x xs (nat_eq x k) refl (λ e. n (inl e)) (all_left k xs (λ h. n (inr h)))

one_by : (k x : ℕ) (xs : List ℕ) (b : Bool) → nat_eq x k ≡ b → (Has xs x → ⊥) → length xs ≤ suc (length (without k xs)) → suc (length xs) ≤ suc (length (cond b (without k xs) (x ∷ without k xs)))
one_by k x xs true e n l =
    let s : x ≡ k = grind (arith, nat_tests, e) in
    let same : without k xs ≡ xs = all_left k xs (λ h. n (subst (Has xs) (sym s) h)) in
    omega (arith, ap length same)
one_by k x xs false e n l = omega (arith, l)

one_less : (k : ℕ) (xs : List ℕ) → Once xs → length xs ≤ suc (length (without k xs))
one_less k [] o = omega arith
one_less k (x ∷ xs) o = one_by k x xs (nat_eq x k) refl o.0 (one_less k xs o.1)

pub short : (n : ℕ) (xs : List ℕ) → Once xs → ((x : ℕ) → Has xs x → x < n) → length xs ≤ n
short zero [] o b = omega arith
short zero (x ∷ xs) o b = absurd (let l = b x (inl refl) in omega (arith, l))
short (suc n) xs o b =
    let less = short n (without n xs) (still_once n xs o) (λ x h. let p = left n xs x h in let l = b x p.0 in let d = p.1 in below n x l d) in
    omega (arith, less, one_less n xs o)
  where
    below : (n x : ℕ) → x < suc n → x ≢ n → x < n
    below n x l d = elim (same_or x n) [ inl e ↦ absurd (d e) | inr m ↦ omega (arith, l, m) ]

pub once_last : (xs : List ℕ) (n : ℕ) → Once xs → (Has xs n → ⊥) → Once (xs ++ n ∷ [])
once_last [] n o fresh = ((λ h. h), tt)
once_last (x ∷ xs) n o fresh = ((λ h. elim (has_back xs n x h) [ inl k ↦ o.0 k | inr e ↦ fresh (inl (sym e)) ]), once_last xs n o.1 (λ h. fresh (inr h)))
