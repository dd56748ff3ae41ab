-- Numbers that wait for their rows, until each is flagged.
use Rattle.std.proofs.Common.{◌≡◌, ◌≢◌, ℕ, zero, suc, ◌+◌, ◌<◌, ◌≤◌, Bool, true, false, List, [], ◌∷◌, ◌++◌, length, replicate, set, take, get_or, None, Some, sym, ap, ◌∙◌, subst, ◌⊎◌, inl, inr, arith, get_or-set_same, get_or-set_other}
use Rattle.std.specs.Prelude.{slice_get}
use Rattle.std.proofs.lemmas.List.{length-set, take-append-le}
use Rattle.std.proofs.lemmas.Option.{slice_get_within}
use Rattle.go_base.specs.Lists.{Has}
use Rattle.go_base.proofs.Lists.{take_past}
use Rattle.go_base.proofs.Members.{has_split}
use Rattle.go_graphs.specs.Flags.{AreFlagsOf, is_flagged}
use Rattle.go_graphs.specs.Walks.{row_of}
use Rattle.go_graphs.proofs.Flagging.{apart, set_flag, set_keeps, set_or_was}
use Rattle.go_graphs.proofs.Members.{has_at, has_more}
use Rattle.go_graphs.proofs.TurnedRows.{empty_size}
use Rattle.go_soundness.proofs.Members.{has_left, has_right}
use Rattle.go_typings.proofs.Cells.{some_once}
use Rattle.go_declaration_graph.specs.inner.Reaching.{ArePending, AreReached, IsReachedBy, named, led, numbers_in}

-- ---- places

got : (xs : List ℕ) (at i : ℕ) → slice_get xs at ≡ Some i → get_or xs at 0 ≡ i
got [] at i e = absurd (cc)
got (x ∷ xs) zero i e = some_once x i e
got (x ∷ xs) (suc at) i e = got xs at i e

none_past : (xs : List ℕ) (at : ℕ) → None ≡ slice_get xs at → length xs ≤ at
none_past [] at e = omega arith
none_past (x ∷ xs) zero e = absurd (cc)
none_past (x ∷ xs) (suc at) e = let r = none_past xs at e in omega (arith, r)

-- ---- the numbers in rows

in_rows : (rows : List (List ℕ)) (k n : ℕ) → Has (row_of rows k) n → Has (numbers_in rows) n
in_rows [] k n h = absurd h
in_rows (r ∷ rows) zero n h = has_left r (numbers_in rows) n h
in_rows (r ∷ rows) (suc k) n h = has_right r (numbers_in rows) n (in_rows rows k n h)

of_rows : (rows : List (List ℕ)) (n : ℕ) → Has (numbers_in rows) n → (k : ℕ) × Has (row_of rows k) n
of_rows [] n h = absurd h
of_rows (r ∷ rows) n h = elim (has_split r (numbers_in rows) n h) [ inl k ↦ (0, k) | inr k ↦ (let q = of_rows rows n k in (suc q.0, q.1)) ]

module _ (starts : List (List ℕ)) (count : ℕ) where
  -- none is flagged yet
  pub pending_none : (pending : List ℕ) (flags : List Bool) (rows : List (List ℕ)) → pending ≡ numbers_in starts → rows ≡ replicate count [] → AreFlagsOf count (Has {A = ℕ} []) flags → ArePending starts count pending 0 flags rows
  pending_none pending flags rows e r none = record {
    size = none.size;
    row_count = ap length r ∙ empty_size count;
    sound = λ n h. (let k = of_rows starts n (subst (λ (xs : List ℕ). Has xs n) e h) in named k.0 k.1);
    first = λ k n h. subst (λ (xs : List ℕ). Has xs n) (sym e) (in_rows starts k n h);
    next = λ k n f h. absurd (none.sound k f);
    known = λ n f. absurd (none.sound n f);
    told = λ n h l. absurd h;
  }

  -- each is flagged that is one of the numbers
  pub reached_all : (pending : List ℕ) (at : ℕ) (flags : List Bool) (rows : List (List ℕ)) → length pending ≤ at → ArePending starts count pending at flags rows → AreReached starts count flags rows
  reached_all pending at flags rows l p = record {
    size = p.size;
    sound = λ n f. p.sound n (p.known n f);
    first = λ k n h i. told n (p.first k n h) i;
    next = λ k n f h i. told n (p.next k n f h) i;
  }
    where
      told : (n : ℕ) → Has pending n → n < count → is_flagged flags n ≡ true
      told n h i = p.told n (subst (λ (xs : List ℕ). Has xs n) (sym (take_past at pending l)) h) i

  pub reached_end : (pending : List ℕ) (at : ℕ) (flags : List Bool) (rows : List (List ℕ)) → None ≡ slice_get pending at → ArePending starts count pending at flags rows → AreReached starts count flags rows
  reached_end pending at flags rows e p = reached_all pending at flags rows (none_past pending at e) p

  module _ (pending : List ℕ) (at : ℕ) (flags : List Bool) (rows : List (List ℕ)) (i : ℕ) (item : slice_get pending at ≡ Some i) (p : ArePending starts count pending at flags rows) where
    inside : at < length pending
    inside = slice_get_within pending at i item

    taken : (n : ℕ) → Has (take (at + 1) pending) n → Has (take at pending) n ⊎ (i ≡ n)
    taken n h = elim (has_more pending at n inside h) [ inl k ↦ inl k | inr e ↦ inr (sym (got pending at i item) ∙ e) ]

    there : Has pending i
    there = subst (Has pending) (got pending at i item) (has_at pending at inside)

    -- the number is flagged, or none of the numbers
    pub pending_passed : (i < count → is_flagged flags i ≡ true) → ArePending starts count pending (at + 1) flags rows
    pending_passed f = record {
      size = p.size;
      row_count = p.row_count;
      sound = p.sound;
      first = p.first;
      next = p.next;
      known = p.known;
      told = λ n h l. elim (taken n h) [
        | inl k ↦ p.told n k l
        | inr e ↦ subst (λ (m : ℕ). is_flagged flags m ≡ true) e (f (subst (λ (m : ℕ). m < count) (sym e) l))
      ];
    }

    -- the number gets its row, and what is in it waits
    module _ (unset : is_flagged flags i ≡ false) (within : i < count) (r : List ℕ) where
      placed : i < length flags
      placed = let q = p.size in omega (arith, within, q)

      apart_from : (k : ℕ) → is_flagged flags k ≡ true → k ≢ i
      apart_from k f q = apart (sym f ∙ ap (is_flagged flags) q ∙ unset)

      same_row : (k : ℕ) → is_flagged flags k ≡ true → row_of (set rows i r) k ≡ row_of rows k
      same_row k f = get_or-set_other rows i k r [] (apart_from k f)

      own_row : row_of (set rows i r) i ≡ r
      own_row = get_or-set_same rows i r [] (let q = p.row_count in omega (arith, within, q))

      keeps : (k : ℕ) → is_flagged flags k ≡ true → is_flagged (set flags i true) k ≡ true
      keeps k f = set_keeps flags i k placed f

      grown : {n : ℕ} → IsReachedBy starts flags rows n → IsReachedBy starts (set flags i true) (set rows i r) n
      grown (named k h) = named k h
      grown {n = n} (led k q f h) = led k (grown q) (keeps k f) (subst (λ (xs : List ℕ). Has xs n) (sym (same_row k f)) h)

      front : take (at + 1) (pending ++ r) ≡ take (at + 1) pending
      front = take-append-le (at + 1) pending r (let q = inside in omega (arith, q))

      waits : ArePending starts count (pending ++ r) (at + 1) (set flags i true) (set rows i r)
      waits = record {
        size = length-set flags i true ∙ p.size;
        row_count = length-set rows i r ∙ p.row_count;
        sound = λ n h. elim (has_split pending r n h) [
          | inl k ↦ grown (p.sound n k)
          | inr k ↦ led i (grown (p.sound i there)) (set_flag flags i placed) (subst (λ (xs : List ℕ). Has xs n) (sym own_row) k)
        ];
        first = λ k n h. has_left pending r n (p.first k n h);
        next = λ k n f h. elim (set_or_was flags i k f) [
          | inl g ↦ has_left pending r n (p.next k n g (subst (λ (xs : List ℕ). Has xs n) (same_row k g) h))
          | inr q ↦ has_right pending r n (subst (λ (xs : List ℕ). Has xs n) (ap (row_of (set rows i r)) q ∙ own_row) h)
        ];
        known = λ n f. elim (set_or_was flags i n f) [
          | inl g ↦ has_left pending r n (p.known n g)
          | inr q ↦ has_left pending r n (subst (Has pending) (sym q) there)
        ];
        told = λ n h l. elim (taken n (subst (λ (xs : List ℕ). Has xs n) front h)) [
          | inl k ↦ keeps n (p.told n k l)
          | inr e ↦ subst (λ (m : ℕ). is_flagged (set flags i true) m ≡ true) e (set_flag flags i placed)
        ];
      }

      pub pending_more : (more : List ℕ) (flagged : List Bool) (new : List (List ℕ)) → more ≡ pending ++ r → flagged ≡ set flags i true → new ≡ set rows i r → ArePending starts count more (at + 1) flagged new
      pending_more more flagged new e f g = subst (λ (q : List ℕ × (List Bool × List (List ℕ))). ArePending starts count q.0 (at + 1) q.1.0 q.1.1) (λ j. (sym e j, (sym f j, sym g j))) waits
