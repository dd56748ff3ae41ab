-- Assignments that are had from below agree where both are.
use Rattle.std.proofs.Common.{◌≡◌, ℕ, zero, suc, ◌+◌, ◌<◌, Bool, true, List, Some, sym, ap, ◌∙◌, subst, inl, inr, arith}
use Rattle.std.specs.Prelude.{slice_get}
use Rattle.go_typings.specs.Assignments.{Assignment, before, Below, Within}
use Rattle.go_typings.proofs.Cells.{either, some_once, none_some, before_has, over, over_left, over_right}

-- what is given is given under more entries
abbrev pub Grows : {Declaration Entry : Type 0} → (Assignment Entry → Declaration → Entry → Type 0) → Type 0
Grows {Declaration = Declaration} {Entry = Entry} gives = (a b : Assignment Entry) → Within a b → (d : Declaration) (x : Entry) → gives a d x → gives b d x

-- one entry is given
abbrev pub GivesOne : {Declaration Entry : Type 0} → (Assignment Entry → Declaration → Entry → Type 0) → Type 0
GivesOne {Declaration = Declaration} {Entry = Entry} gives = (a : Assignment Entry) (d : Declaration) (x y : Entry) → gives a d x → gives a d y → x ≡ y

module _ {Declaration Entry : Type 0} (gives : Assignment Entry → Declaration → Entry → Type 0) (grows : Grows gives) (one : GivesOne gives) (ds : List Declaration) where
  -- two entries that are given for one declaration
  pub one_entry : (c : Assignment Entry) (n : ℕ) (d e : Declaration) (x y : Entry) → slice_get ds n ≡ Some d → slice_get ds n ≡ Some e → gives c d x → gives c e y → x ≡ y
  one_entry c n d e x y p q g h = one c d x y g (subst (λ z. gives c z y) (some_once e d (sym q ∙ p)) h)

  pub held : (S : ℕ → Bool) (a : Assignment Entry) → Below gives ds S a → (n : ℕ) (x : Entry) → a n ≡ Some x → S n ≡ true
  held S a T n x e = elim (either (S n)) [ inl h ↦ h | inr h ↦ none_some (a n) x (T.only n h) e ]

  module _ (S : ℕ → Bool) (a : Assignment Entry) (T : Below gives ds S a) (R : ℕ → Bool) (b : Assignment Entry) (U : Below gives ds R b) where
    -- by the sum of the two orders: both entries are given under one assignment, that is over both cuts
    agree_by : (k n : ℕ) → S n ≡ true → R n ≡ true → T.order n + U.order n < k → a n ≡ b n
    agree_by zero n i j l = absurd (omega (arith, l))
    agree_by (suc k) n i j l =
        let g = T.below n i in
        let h = U.below n j in
        let c : Assignment Entry = before T.order (T.order n) a in
        let d : Assignment Entry = before U.order (U.order n) b in
        let both : (m : ℕ) (x y : Entry) → c m ≡ Some x → d m ≡ Some y → x ≡ y
        = λ m x y e f. let p = before_has T.order (T.order n) a m x e in let q = before_has U.order (U.order n) b m y f in let o = p.0 in let r = q.0 in
        some_once x y (sym p.1 ∙ agree_by k m (held S a T m x p.1) (held R b U m y q.1) (omega (arith, o, r, l)) ∙ q.1) in
        g.2.1
        ∙ ap Some (one_entry (over c d) n g.0 h.0 g.2.0 h.2.0 g.1 h.1 (grows c (over c d) (over_left c d) g.0 g.2.0 g.2.2) (grows d (over c d) (over_right c d both) h.0 h.2.0 h.2.2))
        ∙ sym h.2.1

    pub agree : (n : ℕ) → S n ≡ true → R n ≡ true → a n ≡ b n
    agree n i j = agree_by (suc (T.order n + U.order n)) n i j (omega arith)

  pub same : (S : ℕ → Bool) (a b : Assignment Entry) → Below gives ds S a → Below gives ds S b → (n : ℕ) → a n ≡ b n
  same S a b T U n = elim (either (S n)) [ inl i ↦ agree S a T S b U n i i | inr i ↦ T.only n i ∙ sym (U.only n i) ]
