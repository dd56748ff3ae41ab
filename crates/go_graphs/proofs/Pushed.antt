-- Lists with one more item at their end.
use Rattle.std.proofs.Common.{◌≡◌, ◌≢◌, ℕ, zero, suc, ◌+◌, ◌<◌, Bool, true, false, List, [], ◌∷◌, ◌++◌, length, get_or, refl, sym, ap, ◌∙◌, subst, ◌⊎◌, inl, inr, arith, length-append}
use Rattle.go_base.specs.Lists.{Each, Has}
use Rattle.go_base.proofs.Members.{has_split}
use Rattle.go_graphs.specs.Flags.{AreFlagsOf, is_flagged}
use Rattle.go_graphs.specs.Walks.{row_of}
use Rattle.go_graphs.specs.inner.Components.{AreRoots, level_of}
use Rattle.go_graphs.proofs.Flagging.{either}

pub get_pushed : {A : Type 0} (xs : List A) (x d : A) (n : ℕ) → ((n ≢ length xs) × (get_or (xs ++ x ∷ []) n d ≡ get_or xs n d)) ⊎ ((n ≡ length xs) × (get_or (xs ++ x ∷ []) n d ≡ x))
get_pushed [] x d zero = inr (refl, refl)
get_pushed [] x d (suc n) = inl (λ e. absurd (omega (arith, e)), refl)
get_pushed (y ∷ ys) x d zero = inl (λ e. absurd (omega (arith, e)), refl)
get_pushed (y ∷ ys) x d (suc n) = elim (get_pushed ys x d n) [ inl p ↦ inl (λ e. p.0 (omega (arith, e)), p.1) | inr p ↦ inr (ap suc p.0, p.1) ]

module _ (k : ℕ) (P : ℕ → Type 0) (flags : List Bool) (b : Bool) (is : AreFlagsOf k P flags) (yes : b ≡ true → P k) (no : b ≡ false → P k → ⊥) where
  flag_sound : (n : ℕ) → is_flagged (flags ++ b ∷ []) n ≡ true → P n
  flag_sound n e = elim (get_pushed flags b false n) [
    | inl p ↦ is.sound n (sym p.1 ∙ e)
    | inr p ↦ subst P (sym (p.0 ∙ is.size)) (yes (sym p.1 ∙ e))
  ]

  flag_complete : (n : ℕ) → n < k + 1 → P n → is_flagged (flags ++ b ∷ []) n ≡ true
  flag_complete n l p = elim (get_pushed flags b false n) [
    | inl q ↦ (let s = is.size in let m : n ≢ length flags = q.0 in q.1 ∙ is.complete n (omega (arith, l, s, m)) p)
    | inr q ↦ elim (either b) [ inl e ↦ q.1 ∙ e | inr e ↦ absurd (no e (subst P (q.0 ∙ is.size) p)) ]
  ]

  -- the flag of the next number
  pub flags_next : AreFlagsOf (k + 1) P (flags ++ b ∷ [])
  flags_next = record { size = (let s = is.size in let a = length-append flags (b ∷ []) in omega (arith, s, a)); sound = flag_sound; complete = flag_complete }

pub no_flags_yet : (P : ℕ → Type 0) → AreFlagsOf 0 P []
no_flags_yet P = record { size = refl; sound = λ n e. let f : false ≡ true = e in absurd (cc); complete = λ n l p. absurd (omega (arith, l)) }

-- the row of the next number
pub step_next : (Q : ℕ → ℕ → Type 0) (rows : List (List ℕ)) (r : List ℕ) (k : ℕ) → length rows ≡ k → ((n m : ℕ) → Has (row_of rows n) m → Q n m) → ((m : ℕ) → Has r m → Q k m) → (n m : ℕ) → Has (row_of (rows ++ r ∷ []) n) m → Q n m
step_next Q rows r k s old new n m h = elim (get_pushed rows r [] n) [
  | inl p ↦ old n m (subst (λ (z : List ℕ). Has z m) p.1 h)
  | inr p ↦ subst (λ (z : ℕ). Q z m) (sym (p.0 ∙ s)) (new m (subst (λ (z : List ℕ). Has z m) p.1 h))
]

-- what holds of members holds of them and one more
pub has_next_end : (P : ℕ → Type 0) (xs : List ℕ) (x : ℕ) → ((n : ℕ) → Has xs n → P n) → P x → (n : ℕ) → Has (xs ++ x ∷ []) n → P n
has_next_end P xs x h p n k = elim (has_split xs (x ∷ []) n k) [ inl i ↦ h n i | inr j ↦ elim j [ inl e ↦ subst P e p | inr z ↦ absurd z ] ]

pub roots_next : (rows : List (List ℕ)) (levels by_level roots : List ℕ) (x : ℕ) → AreRoots rows levels by_level roots → x < length rows → get_or by_level (level_of levels x) 0 ≡ x → AreRoots rows levels by_level (roots ++ x ∷ [])
roots_next rows levels by_level roots x are l e = record {
  below = has_next_end (λ n. n < length rows) roots x are.below l;
  root = has_next_end (λ n. get_or by_level (level_of levels n) 0 ≡ n) roots x are.root e;
}

pub each_of : (P : ℕ → Type 0) (xs : List ℕ) → ((n : ℕ) → Has xs n → P n) → Each P xs
each_of P [] h = tt
each_of P (x ∷ xs) h = (h x (inl refl), each_of P xs (λ n k. h n (inr k)))

-- a member of a list with one more item is one of before, or that item
pub has_pushed : (xs new : List ℕ) (x : ℕ) → new ≡ xs ++ x ∷ [] → (n : ℕ) → Has new n → Has xs n ⊎ (n ≡ x)
has_pushed xs new x e n h = elim (has_split xs (x ∷ []) n (subst (λ (z : List ℕ). Has z n) e h)) [ inl i ↦ inl i | inr j ↦ elim j [ inl q ↦ inr (sym q) | inr z ↦ absurd z ] ]
