-- Names in a sorted list: where the search ends, and the list with one name more.
use Rattle.std.proofs.Common.{◌≡◌, ◌⊎◌, ◌≤◌, ◌<◌, ◌-◌, ℕ, zero, suc, inl, inr, le_of_suc-le-suc, List, [], ◌∷◌, ◌++◌, length, get_or, refl, sym, ap, ◌∙◌, subst, Bool, true, false, cond, Option, Some, Result, Ok, Err, is_ok, Ordering, Less, Equal, Greater, arith}
use mathlib.Core.Bool.{true≢false}
use Rattle.std.proofs.lemmas.Cmp.{nat_list_cmp_total}
use Rattle.std.proofs.lemmas.Map.Keys.{Less-from_sorted}
use Rattle.std.proofs.lemmas.Map.Text.{is_eq-slice_cmp}
use Rattle.std.specs.Cmp.Lexicographic.{slice_cmp, bytes_decides}
use Rattle.std.specs.List.{AllByRecursion, HoldsAt, insert, slice_get}
use Rattle.std.specs.List.Sorted.{IsBinarySearchResult, IsNonDecreasingBy, IsPartitionPoint, IsSearchInRange, IsStrictlySortedBy}
use Rattle.std.specs.Map.{keys_of}
use Rattle.std.specs.Option.{is_some}
use Rattle.std.specs.Ordering.{is_eq, is_lt, match_ordering, nat_cmp, ordering_index, ordering_reverse}
use Rattle.std.specs.Str.{bytes_eq}
use Rattle.go_rules.specs.Names.{Named, value_at, with_value}
use Rattle.go_rules.specs.inner.Announced.{AllBefore, listed, Rise}

abbrev order : List ℕ → List ℕ → Ordering
order = slice_cmp nat_cmp

above : (a b : List ℕ) → order a b ≡ Less → order b a ≡ Greater
above a b h = nat_list_cmp_total.antisymm b a ∙ ap ordering_reverse h

below : (a b : List ℕ) → order a b ≡ Greater → order b a ≡ Less
below a b h = nat_list_cmp_total.antisymm b a ∙ ap ordering_reverse h

same : (a b : List ℕ) → order a b ≡ Equal → a ≡ b
same a b h = (bytes_decides a b).0 (sym (is_eq-slice_cmp a b) ∙ ap is_eq h)

pub less : (o : Ordering) → is_lt o ≡ true → o ≡ Less
less Less h = refl
less Equal h = absurd (true≢false (sym h))
less Greater h = absurd (true≢false (sym h))

pub none_rise : (ns : List (List ℕ)) → ns ≡ [] → Rise ns
unfolding IsStrictlySortedBy
none_rise [] is = tt
none_rise (n ∷ ns) is = absurd (cc)

-- ---- the search

module _ (q : List ℕ) where
  by_place : (i j : ℕ) → i ≤ j → (i < j) ⊎ (i ≡ j)
  by_place zero zero h = inr refl
  by_place zero (suc j) h = inl (omega arith)
  by_place (suc i) zero h = absurd (omega (arith, h))
  by_place (suc i) (suc j) h = elim (by_place i j (le_of_suc-le-suc h)) [ inl lt ↦ inl (omega (arith, lt)) | inr e ↦ inr (ap suc e) ]

  rank_by : (a b : List ℕ) (o : Ordering) → order a q ≡ o → order a b ≡ Less → ordering_index o ≤ ordering_index (order b q)
  rank_by a b Less h lt = omega arith
  rank_by a b Equal h lt =
      let k : order b q ≡ Greater = ap (order b) (sym (same a q h)) ∙ above a b lt in
      let r : ordering_index (order b q) ≡ 2 = ap ordering_index k in
      omega (arith, r)
  rank_by a b Greater h lt =
      let k : order b q ≡ Greater = above q b (nat_list_cmp_total.trans q a b (below a q h) lt) in
      let r : ordering_index (order b q) ≡ 2 = ap ordering_index k in
      omega (arith, r)

  -- the names before another come first, and those behind it last
  pub ranked : (ns : List (List ℕ)) → Rise ns → IsNonDecreasingBy (λ n. ordering_index (order n q)) ns
  ranked ns up i j d le h = elim (by_place i j le) [
    | inl lt ↦ rank_by (get_or ns i d) (get_or ns j d) (order (get_or ns i d) q) refl (Less-from_sorted order ns i j d up lt h)
    | inr e ↦ let r : ordering_index (order (get_or ns i d) q) ≡ ordering_index (order (get_or ns j d) q) = ap (λ k. ordering_index (order (get_or ns k d) q)) e in omega (arith, r)
  ]

  abbrev has : List (List ℕ) → Bool
  has ns = is_some (value_at (listed ns) q)

  or_there : (b : Bool) (o : Option (Unit {0})) → is_some o ≡ true → is_some (cond b (Some tt) o) ≡ true
  or_there true o h = refl
  or_there false o h = h

  here : (n : List ℕ) (o : Option (Unit {0})) → order n q ≡ Equal → is_some (cond (bytes_eq q n) (Some tt) o) ≡ true
  here n o h = ap (λ b. is_some (cond b (Some tt) o)) ((bytes_decides q n).1 (sym (same n q h)))

  elsewhere : (n : List ℕ) (o : Option (Unit {0})) → is_eq (order q n) ≡ false → is_some (cond (bytes_eq q n) (Some tt) o) ≡ is_some o
  elsewhere n o h = ap (λ b. is_some (cond b (Some tt) o)) (sym (is_eq-slice_cmp q n) ∙ h)

  -- the name that the search finds is there
  pub there : (ns : List (List ℕ)) (at : ℕ) → at < length ns → HoldsAt (λ n. order n q ≡ Equal) ns at → has ns ≡ true
  there [] at h e = absurd (omega (arith, h))
  there (n ∷ ns) zero h e = here n (value_at (listed ns) q) (e n)
  there (n ∷ ns) (suc at) h e = or_there (bytes_eq q n) (value_at (listed ns) q) (there ns at (le_of_suc-le-suc h) e)

  abbrev Parts : List (List ℕ) → ℕ → Type 0
  Parts ns at = IsPartitionPoint (λ n. order n q ≡ Less) (λ n. order n q ≡ Greater) ns at

  rest : (n : List ℕ) (ns : List (List ℕ)) (at : ℕ) → Parts (n ∷ ns) (suc at) → Parts ns at
  rest n ns at p = (λ k d low high. p.0 (suc k) d (omega arith) (omega (arith, high)), λ k d low high. p.1 (suc k) d (omega (arith, low)) (omega (arith, high)))

  behind_first : (n : List ℕ) (ns : List (List ℕ)) → Parts (n ∷ ns) zero → Parts ns zero
  behind_first n ns p = (λ k d low high. absurd (omega (arith, high)), λ k d low high. p.1 (suc k) d (omega arith) (omega (arith, high)))

  -- the name that the search doesn't find isn't there
  pub missing : (ns : List (List ℕ)) (at : ℕ) → Parts ns at → has ns ≡ false
  missing [] at p = refl
  missing (n ∷ ns) zero p = elsewhere n (value_at (listed ns) q) (ap is_eq (below n q (p.1 0 n (omega arith) (omega arith)))) ∙ missing ns zero (behind_first n ns p)
  missing (n ∷ ns) (suc at) p = elsewhere n (value_at (listed ns) q) (ap is_eq (above n q (p.0 0 n (omega arith) (omega arith)))) ∙ missing ns at (rest n ns at p)

  abbrev IsFound : List (List ℕ) → Result ℕ ℕ → Type 0
  IsFound ns r = IsBinarySearchResult (λ n. order n q) ns r

  pub parted : (ns names : List (List ℕ)) (at : ℕ) → names ≡ ns → Rise ns → IsFound names (Err at) → Parts ns at
  parted ns names at is up found = subst (λ (ms : List (List ℕ)). IsFound ms (Err at)) is found (ranked ns up)

  -- the search finds the name where it is there
  pub searched : (ns names : List (List ℕ)) (r : Result ℕ ℕ) → names ≡ ns → Rise ns → IsSearchInRange r (length names) → IsFound names r → is_ok r ≡ has ns
  searched ns names (Ok at) is up within found = sym (there names at within found) ∙ ap has is
  searched ns names (Err at) is up within found = sym (missing ns at (parted ns names at is up found))

  -- ---- one name more

  put_step : (n : List ℕ) (es : Named (Unit {0})) (o : Ordering) → order q n ≡ o → with_value ((n, tt) ∷ es) q tt ≡ match_ordering o ((q, tt) ∷ (n, tt) ∷ es) ((n, tt) ∷ es) ((n, tt) ∷ with_value es q tt)
  put_step n es o h = ap (λ r. match_ordering r ((q, tt) ∷ (n, tt) ∷ es) ((n, tt) ∷ es) ((n, tt) ∷ with_value es q tt)) h

  -- at the place where the search ended
  pub inserted : (ns : List (List ℕ)) (at : ℕ) → at ≤ length ns → Parts ns at → listed (insert ns at q) ≡ with_value (listed ns) q tt
  inserted [] zero h p = refl
  inserted [] (suc at) h p = absurd (omega (arith, h))
  inserted (n ∷ ns) zero h p = sym (put_step n (listed ns) Less (below n q (p.1 0 n (omega arith) (omega arith))))
  inserted (n ∷ ns) (suc at) h p =
      ap (λ es. (n, tt) ∷ es) (inserted ns at (le_of_suc-le-suc h) (rest n ns at p))
      ∙ sym (put_step n (listed ns) Greater (above n q (p.0 0 n (omega arith) (omega arith))))

  -- where it is there
  pub kept : (ns : List (List ℕ)) (at : ℕ) → at < length ns → HoldsAt (λ n. order n q ≡ Equal) ns at → Rise ns → listed ns ≡ with_value (listed ns) q tt
  unfolding IsStrictlySortedBy
  kept [] at h e up = absurd (omega (arith, h))
  kept (n ∷ ns) zero h e up = sym (put_step n (listed ns) Equal (ap (order q) (same n q (e n)) ∙ ap (λ m. order m q) (sym (same n q (e n))) ∙ e n))
  kept (n ∷ ns) (suc at) h e up =
      let lt : order n q ≡ Less = ap (order n) (sym (same (get_or ns at n) q (e n))) ∙ Less-from_sorted order (n ∷ ns) 0 (suc at) n up (omega arith) h in
      ap (λ es. (n, tt) ∷ es) (kept ns at (le_of_suc-le-suc h) e up.1) ∙ sym (put_step n (listed ns) Greater (above n q lt))

  -- behind all others
  pub pushed : (ns : List (List ℕ)) → AllBefore ns q → listed (ns ++ q ∷ []) ≡ with_value (listed ns) q tt
  pushed [] a = refl
  pushed (n ∷ ns) a = ap (λ es. (n, tt) ∷ es) (pushed ns a.1) ∙ sym (put_step n (listed ns) Greater (above n q a.0))

  behind_from : (n : List ℕ) (ns : List (List ℕ)) (last : List ℕ) → Some last ≡ slice_get (n ∷ ns) (length ns) → order last q ≡ Less → Rise (n ∷ ns) → AllBefore (n ∷ ns) q
  unfolding IsStrictlySortedBy
  behind_from n [] last is lt up = let e : last ≡ n = cc in (ap (λ m. order m q) (sym e) ∙ lt, tt)
  behind_from n (m ∷ ns) last is lt up = let more = behind_from m ns last is lt up.1 in (nat_list_cmp_total.trans n m q up.0.0 more.0, more)

  -- what is behind the last name is behind all
  pub behind : (ns : List (List ℕ)) (last : List ℕ) → Some last ≡ slice_get ns (length ns - 1) → order last q ≡ Less → Rise ns → AllBefore ns q
  behind [] last is lt up = tt
  behind (n ∷ ns) last is lt up = let k : suc (length ns) - 1 ≡ length ns = omega arith in behind_from n ns last (is ∙ ap (slice_get (n ∷ ns)) k) lt up

  -- ---- the order stays

  all_put : (P : List ℕ → Type 0) (ns : List (List ℕ)) → P q → AllByRecursion P ns → AllByRecursion P (keys_of (with_value (listed ns) q tt))
  all_put P [] p a = (p, tt)
  all_put P (n ∷ ns) p a = by (order q n) (all_put P ns p a.1)
    where
      keys : (ms : List (List ℕ)) → AllByRecursion P ms → AllByRecursion P (keys_of (listed ms))
      keys [] b = tt
      keys (m ∷ ms) b = (b.0, keys ms b.1)

      by : (o : Ordering) → AllByRecursion P (keys_of (with_value (listed ns) q tt)) → AllByRecursion P (keys_of (match_ordering o ((q, tt) ∷ (n, tt) ∷ listed ns) ((n, tt) ∷ listed ns) ((n, tt) ∷ with_value (listed ns) q tt)))
      by Less more = (p, (a.0, keys ns a.1))
      by Equal more = (a.0, keys ns a.1)
      by Greater more = (a.0, more)

  before_all : (n : List ℕ) (ns : List (List ℕ)) → order q n ≡ Less → AllByRecursion (λ m. order n m ≡ Less) ns → AllByRecursion (λ m. order q m ≡ Less) (keys_of (listed ns))
  before_all n [] lt a = tt
  before_all n (m ∷ ns) lt a = (nat_list_cmp_total.trans q n m lt a.0, before_all n ns lt a.1)

  listed_keys : (ns : List (List ℕ)) → keys_of (listed ns) ≡ ns
  listed_keys [] = refl
  listed_keys (n ∷ ns) = ap (λ ms. n ∷ ms) (listed_keys ns)

  rises : (ns : List (List ℕ)) → Rise ns → Rise (keys_of (with_value (listed ns) q tt))
  unfolding IsStrictlySortedBy
  rises [] up = (tt, tt)
  rises (n ∷ ns) up = by (order q n) refl (rises ns up.1)
    where
      whole : Rise (keys_of (listed (n ∷ ns)))
      whole = subst (λ (ms : List (List ℕ)). Rise ms) (sym (listed_keys (n ∷ ns))) up

      by : (o : Ordering) → order q n ≡ o → Rise (keys_of (with_value (listed ns) q tt)) → Rise (keys_of (match_ordering o ((q, tt) ∷ (n, tt) ∷ listed ns) ((n, tt) ∷ listed ns) ((n, tt) ∷ with_value (listed ns) q tt)))
      by Less h more = ((h, before_all n ns h up.0), whole)
      by Equal h more = whole
      by Greater h more = (all_put (λ m. order n m ≡ Less) ns (below q n h) up.0, more)

  -- a list that tells of one name more is sorted
  pub risen : (ns ms : List (List ℕ)) → Rise ns → listed ms ≡ with_value (listed ns) q tt → Rise ms
  risen ns ms up is = subst (λ (ks : List (List ℕ)). Rise ks) (ap keys_of (sym is) ∙ listed_keys ms) (rises ns up)
