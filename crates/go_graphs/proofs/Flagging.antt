-- What flagging numbers by their rows keeps, and what it comes to.
use Rattle.std.proofs.Common.{◌≡◌, ◌≢◌, ℕ, zero, suc, ◌+◌, ◌<◌, Bool, true, false, ◌||◌, List, [], ◌∷◌, length, set, refl, sym, ap, ◌∙◌, subst, ◌⊎◌, inl, inr, arith, get_or-set_same, get_or-set_other}
use Rattle.std.proofs.lemmas.List.{length-set}
use Rattle.std.proofs.lemmas.Bool.Decides.{nat_tests}
use Rattle.std.specs.Prelude.{nat_eq}
use Rattle.go_graphs.specs.Flags.{is_flagged}
use Rattle.go_graphs.specs.Walks.{row_of}
use Rattle.go_graphs.specs.inner.Marking.{Applies, Follows, follows_itself, follows_raised, IsClosedAt, Passed, Raises, unflagged}

pub either : (b : Bool) → (b ≡ true) ⊎ (b ≡ false)
either true = inl refl
either false = inr refl

pub apart : {A : Type 0} → true ≡ false → A
apart e = absurd (cc)

is_last : (k n : ℕ) → k < suc n → (k ≡ n) ⊎ (k < n)
is_last k n h = grind (arith, h)

below_next : (P : ℕ → Type 0) (n : ℕ) → ((m : ℕ) → m < n → P m) → P n → (m : ℕ) → m < n + 1 → P m
below_next P n h p m l = elim (is_last m n (omega (arith, l))) [ inl e ↦ subst P (sym e) p | inr i ↦ h m i ]

pub same_or_not : (m n : ℕ) → (m ≡ n) ⊎ (m ≢ n)
same_or_not m n = elim (either (nat_eq m n)) [ inl e ↦ inl (grind (arith, nat_tests, e)) | inr e ↦ inr (λ q. absurd (grind (arith, nat_tests, e, q))) ]

-- a number that is flagged is one of the flags'
pub flagged_within : (flags : List Bool) (n : ℕ) → is_flagged flags n ≡ true → n < length flags
flagged_within [] n e = apart (sym e)
flagged_within (b ∷ bs) zero e = omega arith
flagged_within (b ∷ bs) (suc n) e = let r = flagged_within bs n e in omega (arith, r)

fewer : (bs : List Bool) (n : ℕ) → n < length bs → is_flagged bs n ≡ false → unflagged (set bs n true) < unflagged bs
fewer [] n h e = absurd (omega (arith, h))
fewer (true ∷ bs) zero h e = apart e
fewer (false ∷ bs) zero h e = omega arith
fewer (true ∷ bs) (suc n) h e = let r = fewer bs n (omega (arith, h)) e in omega (arith, r)
fewer (false ∷ bs) (suc n) h e = let r = fewer bs n (omega (arith, h)) e in omega (arith, r)

pub set_flag : (flags : List Bool) (n : ℕ) → n < length flags → is_flagged (set flags n true) n ≡ true
set_flag flags n h = get_or-set_same flags n true false h

-- a number that is flagged after one was set was flagged before, or is that one
pub set_or_was : (flags : List Bool) (n m : ℕ) → is_flagged (set flags n true) m ≡ true → (is_flagged flags m ≡ true) ⊎ (m ≡ n)
set_or_was flags n m e = elim (same_or_not m n) [ inl q ↦ inr q | inr q ↦ inl (sym (get_or-set_other flags n m true false q) ∙ e) ]

pub set_keeps : (flags : List Bool) (n m : ℕ) → n < length flags → is_flagged flags m ≡ true → is_flagged (set flags n true) m ≡ true
set_keeps flags n m h e = elim (same_or_not m n) [
  | inl q ↦ subst (λ (k : ℕ). is_flagged (set flags n true) k ≡ true) (sym q) (set_flag flags n h)
  | inr q ↦ get_or-set_other flags n m true false q ∙ e
]

module _ (why : List Bool → List ℕ → Type 0) (rows : List (List ℕ)) where
  pub follows_then : {a b c : List Bool} → Follows why rows a b → Follows why rows b c → Follows why rows a c
  follows_then f follows_itself = f
  follows_then f (follows_raised n g r) = follows_raised n (follows_then f g) r

  -- an attempt is a step, or none
  pub follows_next : (old a b : List Bool) (n : ℕ) (moved : Bool) → Follows why rows old a → Applies why rows a n b moved → Follows why rows old b
  follows_next old a b n true f r = follows_raised n f r
  follows_next old a b n false f r = subst (Follows why rows old) (sym r.0) f

  raised_fewer : (a b : List Bool) (n : ℕ) → Raises why rows a n b → unflagged b < unflagged a
  raised_fewer a b n r = subst (λ (bs : List Bool). unflagged bs < unflagged a) (sym r.is) (fewer a n r.within r.unset)

  pub passed_next : (old a b : List Bool) (n : ℕ) (moved t : Bool) → Passed why rows old n a moved → Applies why rows a n b t → Passed why rows old (n + 1) b (moved || t)
  passed_next old a b n true true p r = let h = raised_fewer a b n r in omega (arith, p, h)
  passed_next old a b n true false p r = subst (λ (bs : List Bool). unflagged bs < unflagged old) (sym r.0) p
  passed_next old a b n false true p r = subst (λ (bs : List Bool). unflagged b < unflagged bs) p.0 (raised_fewer a b n r)
  passed_next old a b n false false p r = (r.0 ∙ p.0, below_next (IsClosedAt why rows old) n p.1 (subst (λ (bs : List Bool). IsClosedAt why rows bs n) p.0 r.1))

  -- a pass that changes nothing was the last
  pub closed_all : (old new : List Bool) → Passed why rows old (length old) new false → (n : ℕ) → IsClosedAt why rows new n
  closed_all old new p n = subst (λ (bs : List Bool). IsClosedAt why rows bs n) (sym p.0) (λ l. p.1 n l l)

  pub follows_length : {old new : List Bool} → Follows why rows old new → length new ≡ length old
  follows_length follows_itself = refl
  follows_length (follows_raised {a = a} n f r) = ap length r.is ∙ length-set a n true ∙ follows_length f

  pub follows_keeps : {old new : List Bool} → Follows why rows old new → (m : ℕ) → is_flagged old m ≡ true → is_flagged new m ≡ true
  follows_keeps follows_itself m e = e
  follows_keeps (follows_raised {a = a} n f r) m e = ap (λ (bs : List Bool). is_flagged bs m) r.is ∙ set_keeps a n m r.within (follows_keeps f m e)

  -- what holds of the flagged ones, and of each number whose row lets it be flagged where it holds of the flagged ones
  pub follows_sound : (P : ℕ → Type 0) {old new : List Bool} → ((flags : List Bool) (n : ℕ) → ((m : ℕ) → is_flagged flags m ≡ true → P m) → length flags ≡ length old → why flags (row_of rows n) → P n)
      → Follows why rows old new → ((m : ℕ) → is_flagged old m ≡ true → P m) → (m : ℕ) → is_flagged new m ≡ true → P m
  follows_sound P step follows_itself h m e = h m e
  follows_sound P step (follows_raised {a = a} n f r) h m e =
      let before = follows_sound P step f h in
      elim (set_or_was a n m (sym (ap (λ (bs : List Bool). is_flagged bs m) r.is) ∙ e)) [
        | inl k ↦ before m k
        | inr q ↦ subst P (sym q) (step a n before (follows_length f) r.cause)
      ]
