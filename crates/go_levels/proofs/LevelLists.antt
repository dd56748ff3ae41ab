-- The numbers of a level, one after another.
use Rattle.std.proofs.Common.{◌≡◌, ◌<◌, ◌≤◌, ◌+◌, ◌⊎◌, ℕ, zero, suc, true, false, List, [], ◌∷◌, ◌++◌, Some, get_or, length, length-append, slice_get, take, refl, sym, ap, ◌∙◌, subst, inl, inr, arith}
use Rattle.std.specs.Prelude.{nat_eq, slice_index}
use Rattle.std.proofs.lemmas.Bool.Decides.{nat_tests}
use Rattle.go_base.specs.Lists.{Has, Once}
use Rattle.go_typings.proofs.Cells.{either}
use Rattle.go_levels.specs.LevelNumbers.{AreOnLevel, on_level}
use Rattle.go_levels.proofs.LevelCounts as counts

told : (m n : ℕ) → m < n + 1 → (m < n) ⊎ (m ≡ n)
told zero zero l = inr refl
told zero (suc n) l = inl (omega arith)
told (suc m) zero l = absurd (omega (arith, l))
told (suc m) (suc n) l = elim (told m n (omega (arith, l))) [ inl k ↦ inl (omega (arith, k)) | inr e ↦ inr (ap suc e) ]

-- a number below the next one is below this one, or is this one
pub below_next : (m n : ℕ) → m < n + 1 → (m < n) ⊎ (m ≡ n)
below_next m n l = told m n l

pub has_last : (ns : List ℕ) (x y : ℕ) → Has (ns ++ x ∷ []) y → Has ns y ⊎ (x ≡ y)
has_last [] x y h = elim h [ inl e ↦ inr e | inr k ↦ absurd k ]
has_last (n ∷ ns) x y h = elim h [ inl e ↦ inl (inl e) | inr k ↦ elim (has_last ns x y k) [ inl i ↦ inl (inr i) | inr e ↦ inr e ] ]

pub has_front : (ns : List ℕ) (x y : ℕ) → Has ns y → Has (ns ++ x ∷ []) y
has_front [] x y h = absurd h
has_front (n ∷ ns) x y h = elim h [ inl e ↦ inl e | inr k ↦ inr (has_front ns x y k) ]

pub last_has : (ns : List ℕ) (x : ℕ) → Has (ns ++ x ∷ []) x
last_has [] x = inl refl
last_has (n ∷ ns) x = inr (last_has ns x)

pub once_last : (ns : List ℕ) (x : ℕ) → Once ns → (Has ns x → ⊥) → Once (ns ++ x ∷ [])
once_last [] x o n = ((λ h. h), tt)
once_last (m ∷ ns) x o n = ((λ h. elim (has_last ns x m h) [ inl i ↦ o.0 i | inr e ↦ n (inl (sym e)) ]), once_last ns x o.1 (λ i. n (inr i)))

-- of numbers that stand once, the next one isn't among the first
pub next_fresh : (ns : List ℕ) (k : ℕ) → Once ns → k < length ns → Has (take k ns) (slice_index ns k) → ⊥
next_fresh [] k o l h = absurd (omega (arith, l))
next_fresh (n ∷ ns) zero o l h = absurd h
next_fresh (n ∷ ns) (suc k) o l h = elim h [ inl e ↦ o.0 (subst (Has ns) (sym e) (at ns k (omega (arith, l)))) | inr i ↦ next_fresh ns k o.1 (omega (arith, l)) i ]
  where
    at : (ns : List ℕ) (k : ℕ) → k < length ns → Has ns (slice_index ns k)
    at [] k l = absurd (omega (arith, l))
    at (n ∷ ns) zero l = inl refl
    at (n ∷ ns) (suc k) l = inr (at ns k (omega (arith, l)))

pub has_at : (ns : List ℕ) (k : ℕ) → k < length ns → Has ns (slice_index ns k)
has_at [] k l = absurd (omega (arith, l))
has_at (n ∷ ns) zero l = inl refl
has_at (n ∷ ns) (suc k) l = inr (has_at ns k (omega (arith, l)))

take_suc : (ns : List ℕ) (k : ℕ) → k < length ns → take (suc k) ns ≡ take k ns ++ slice_index ns k ∷ []
take_suc [] k l = absurd (omega (arith, l))
take_suc (n ∷ ns) zero l = refl
take_suc (n ∷ ns) (suc k) l = ap (λ (ms : List ℕ). n ∷ ms) (take_suc ns k (omega (arith, l)))

plus_one : (n : ℕ) → n + 1 ≡ suc n
plus_one n = omega arith

pub take_next : (ns : List ℕ) (k : ℕ) → k < length ns → take (k + 1) ns ≡ take k ns ++ slice_index ns k ∷ []
take_next ns k l = ap (λ (m : ℕ). take m ns) (plus_one k) ∙ take_suc ns k l

-- an item of the first ones, and one more
module _ {A : Type 0} where
  taken_suc : (xs : List A) (k : ℕ) (x y : A) → k < length xs → x ≡ get_or xs k x → Has (take (suc k) xs) y → Has (take k xs) y ⊎ (x ≡ y)
  taken_suc [] k x y l e h = absurd (omega (arith, l))
  taken_suc (z ∷ xs) zero x y l e h = elim h [ inl i ↦ inr (e ∙ i) | inr i ↦ absurd i ]
  taken_suc (z ∷ xs) (suc k) x y l e h = elim h [ inl i ↦ inl (inl i) | inr i ↦ elim (taken_suc xs k x y (omega (arith, l)) e i) [ inl j ↦ inl (inr j) | inr j ↦ inr j ] ]

  pub taken_next : (xs : List A) (k : ℕ) (x y : A) → k < length xs → x ≡ get_or xs k x → Has (take (k + 1) xs) y → Has (take k xs) y ⊎ (x ≡ y)
  taken_next xs k x y l e h = taken_suc xs k x y l e (subst (λ (m : ℕ). Has (take m xs) y) (plus_one k) h)

  more_suc : (xs : List A) (k : ℕ) (y : A) → Has (take k xs) y → Has (take (suc k) xs) y
  more_suc [] zero y h = absurd h
  more_suc [] (suc k) y h = absurd h
  more_suc (z ∷ xs) zero y h = absurd h
  more_suc (z ∷ xs) (suc k) y h = elim h [ inl i ↦ inl i | inr i ↦ inr (more_suc xs k y i) ]

  pub taken_more : (xs : List A) (k : ℕ) (y : A) → Has (take k xs) y → Has (take (k + 1) xs) y
  taken_more xs k y h = subst (λ (m : ℕ). Has (take m xs) y) (sym (plus_one k)) (more_suc xs k y h)

  last_suc : (xs : List A) (k : ℕ) (x : A) → k < length xs → x ≡ get_or xs k x → Has (take (suc k) xs) x
  last_suc [] k x l e = absurd (omega (arith, l))
  last_suc (z ∷ xs) zero x l e = inl (sym e)
  last_suc (z ∷ xs) (suc k) x l e = inr (last_suc xs k x (omega (arith, l)) e)

  pub taken_last : (xs : List A) (k : ℕ) (x : A) → k < length xs → x ≡ get_or xs k x → Has (take (k + 1) xs) x
  taken_last xs k x l e = subst (λ (m : ℕ). Has (take m xs) x) (sym (plus_one k)) (last_suc xs k x l e)

  pub get_at : (xs : List A) (k : ℕ) (x : A) → k < length xs → x ≡ get_or xs k x → slice_get xs k ≡ Some x
  get_at [] k x l e = absurd (omega (arith, l))
  get_at (z ∷ xs) zero x l e = ap (λ (y : A). Some y) (sym e)
  get_at (z ∷ xs) (suc k) x l e = get_at xs k x (omega (arith, l)) e

module _ (levels : List ℕ) (level : ℕ) where
  pub on_none : AreOnLevel levels level 0 []
  on_none = record { once = tt; within = λ n h. absurd h; on = λ n h. absurd h; all = λ n l e. absurd (omega (arith, l)) }

  pub on_more : (n : ℕ) (ns : List ℕ) → slice_index levels n ≡ level → AreOnLevel levels level n ns → AreOnLevel levels level (n + 1) (ns ++ n ∷ [])
  on_more n ns is o = record {
    once = once_last ns n o.once (λ h. let l = o.within n h in omega (arith, l));
    within = λ m h. elim (has_last ns n m h) [ inl i ↦ (let l = o.within m i in omega (arith, l)) | inr e ↦ omega (arith, e) ];
    on = λ m h. elim (has_last ns n m h) [ inl i ↦ o.on m i | inr e ↦ subst (λ (j : ℕ). slice_index levels j ≡ level) e is ];
    all = λ m l e. elim (below_next m n l) [ inl k ↦ has_front ns n m (o.all m k e) | inr q ↦ subst (Has (ns ++ n ∷ [])) (sym q) (last_has ns n) ];
  }

  pub on_less : (n : ℕ) (ns : List ℕ) → (slice_index levels n ≡ level → ⊥) → AreOnLevel levels level n ns → AreOnLevel levels level (n + 1) ns
  on_less n ns other o = record {
    once = o.once;
    within = λ m h. let l = o.within m h in omega (arith, l);
    on = o.on;
    all = λ m l e. elim (below_next m n l) [ inl k ↦ o.all m k e | inr q ↦ absurd (other (ap (slice_index levels) (sym q) ∙ e)) ];
  }

-- the numbers so far
pub record Numbers (levels : List ℕ) (level n : ℕ) (ns : List ℕ) : Type 0 where
  pub numbers : AreOnLevel levels level n ns
  pub few : length ns ≤ on_level (take n levels) level

pub numbers_next : (levels : List ℕ) (level n : ℕ) (ns ms : List ℕ) → n < length levels → Numbers levels level n ns → (slice_index levels n ≡ level → ms ≡ ns ++ n ∷ []) → ((slice_index levels n ≡ level → ⊥) → ms ≡ ns)
    → Numbers levels level (n + 1) ms
numbers_next levels level n ns ms l h more less = elim (either (nat_eq (slice_index levels n) level)) [
  | inl e ↦ (
      let is = same (slice_index levels n) level e in
      let few = h.few in
      let one = counts.on_more levels n level l is in
      let long = length-append ns (n ∷ []) in
      subst (Numbers levels level (n + 1)) (sym (more is)) (record { numbers = on_more levels level n ns is h.numbers; few = omega (arith, few, one, long) })
      )
  | inr e ↦ (
      let other : slice_index levels n ≡ level → ⊥ = λ is. apart (slice_index levels n) level e is in
      let few = h.few in
      let least = counts.on_least levels n level l in
      subst (Numbers levels level (n + 1)) (sym (less other)) (record { numbers = on_less levels level n ns other h.numbers; few = omega (arith, few, least) })
      )
]
  where
    same : (a b : ℕ) → nat_eq a b ≡ true → a ≡ b
    same a b e = grind (arith, nat_tests)

    apart : (a b : ℕ) → nat_eq a b ≡ false → a ≡ b → ⊥
    apart a b e f = grind (arith, nat_tests)
