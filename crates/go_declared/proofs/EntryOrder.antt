-- Entries that were sorted by their names, and of which the first of each name stays, tell what they told before.
use Rattle.std.proofs.Common.{◌≡◌, refl, sym, ap, ◌∙◌, ℕ, zero, suc, ◌⊎◌, ◌+◌, not-suc-le-zero, le_of_suc-le-suc, ◌<◌, ◌≤◌, inl, inr, Bool, true, false, cond, List, [], ◌∷◌, length, filter, get_or, Option, None, Some, Ordering, Less, Equal, Greater, nat_cmp, subst, arith}
use mathlib.Core.Bool.{true≢false}
use Rattle.std.specs.Prelude.{not, ◌&&◌, slice_get}
use Rattle.std.specs.Cmp.{IsStrictWeakOrder, eq_by_cmp_equiv}
use Rattle.std.specs.Cmp.Lexicographic.{slice_cmp, bytes_decides}
use Rattle.std.specs.List.{dedup, dedup_from}
use Rattle.std.specs.List.Sorted.{IsPartitionedBy, IsSorted, IsStableBy, IsStrictlySortedBy}
use Rattle.std.specs.Map.{keys_of}
use Rattle.std.specs.Ordering.{is_eq, is_lt, ordering_reverse}
use Rattle.std.specs.Str.{bytes_eq}
use Rattle.std.proofs.lemmas.Cmp.{nat_list_cmp_total, tied_itself}
use Rattle.std.proofs.lemmas.List.{get_or-map, length-map}
use Rattle.std.proofs.lemmas.List.Kept.{IsStrictlySortedBy-dedup}
use Rattle.std.proofs.lemmas.List.Sorted.{ranks_by}
use Rattle.std.proofs.lemmas.Map.Entries.{lookup-filter-keys, lookup_at_gap, lookup_from_place}
use Rattle.std.proofs.lemmas.Map.Keys.{Less-from_sorted, IsDistinct-from_sorted}
use Rattle.std.proofs.lemmas.Map.Text.{is_eq-slice_cmp}
use Rattle.std.proofs.lemmas.Option.{get_or_from_slice_get, slice_get_cases, slice_get_read}
use Rattle.go_rules.specs.Names.{Named, value_at}
use Rattle.go_rules.proofs.TextEntries.{value_is}
use Rattle.go_declared.specs.declared.names.NamePlace.{NamePlace}
use Rattle.go_declared.specs.inner.EntryOrder.{AreSorted, is_before, IsFirstFrom, Rise, TellSame}

abbrev pub Entry : Type 0
Entry = List ℕ × NamePlace

at_zero : NamePlace
at_zero = record { number = 0; place = 0 }

-- ---- the sort

pub by_name : IsStrictWeakOrder (λ (d e : Entry). is_before d.0 e.0)
by_name = ranks_by nat_list_cmp_total (λ (e : Entry). e.0)

module _ (name : List ℕ) where
  abbrev is_tied : List ℕ → Bool
  is_tied k = not (is_before name k) && not (is_before k name)

  tied : (k : List ℕ) → bytes_eq name k ≡ true → is_tied k ≡ true
  tied k e = ap is_tied (sym ((bytes_decides name k).0 e)) ∙ ap (λ o. not (is_lt o) && not (is_lt o)) (tied_itself nat_list_cmp_total name)

  through : (t : Named NamePlace) → value_at (filter (λ (e : Entry). is_tied e.0) t) name ≡ value_at t name
  through t = lookup-filter-keys (bytes_eq name) is_tied true tied t

pub told_by_stable : (es fs : Named NamePlace) → IsStableBy (λ (d e : Entry). is_before d.0 e.0) es fs → TellSame es fs
told_by_stable es fs h name = sym (through name fs) ∙ ap (λ (t : Named NamePlace). value_at t name) (h (name, at_zero)) ∙ through name es

-- ---- the first of each name

abbrev pub are_namesakes : Entry → Entry → Bool
are_namesakes d e = is_eq (slice_cmp nat_cmp d.0 e.0)

names_equal : (a b : List ℕ) → is_eq (slice_cmp nat_cmp a b) ≡ true → a ≡ b
names_equal a b h = (bytes_decides a b).0 (sym (is_eq-slice_cmp a b) ∙ h)

told_from : (q : List ℕ) (k : Entry) (es : Named NamePlace) → value_at (dedup_from are_namesakes k es) q ≡ value_at (k ∷ es) q
told_from q k [] = refl
told_from q k (e ∷ es) = by (are_namesakes e k) refl (told_from q k es) (told_from q e es)
  where
    twice : (b : Bool) (r : Option NamePlace) → cond b (Some k.1) r ≡ cond b (Some k.1) (cond b (Some e.1) r)
    twice true r = refl
    twice false r = refl

    by : (b : Bool) → are_namesakes e k ≡ b → value_at (dedup_from are_namesakes k es) q ≡ value_at (k ∷ es) q → value_at (dedup_from are_namesakes e es) q ≡ value_at (e ∷ es) q
        → value_at (cond b (dedup_from are_namesakes k es) (k ∷ dedup_from are_namesakes e es)) q ≡ value_at (k ∷ e ∷ es) q
    by true h f g =
        f ∙ twice (bytes_eq q k.0) (value_at es q)
        ∙ ap (λ n. cond (bytes_eq q k.0) (Some k.1) (cond (bytes_eq q n) (Some e.1) (value_at es q))) (sym (names_equal e.0 k.0 h))
    by false h f g = ap (cond (bytes_eq q k.0) (Some k.1)) g

pub told_by_firsts : (es : Named NamePlace) → TellSame es (dedup are_namesakes es)
told_by_firsts [] name = refl
told_by_firsts (e ∷ es) name = told_from name e es

abbrev are_same : List ℕ → List ℕ → Bool
are_same a b = is_eq (slice_cmp nat_cmp a b)

keys_from : (k : Entry) (es : Named NamePlace) → keys_of (dedup_from are_namesakes k es) ≡ dedup_from are_same k.0 (keys_of es)
keys_from k [] = refl
keys_from k (e ∷ es) = by (are_same e.0 k.0) (keys_from k es) (keys_from e es)
  where
    by : (b : Bool) → keys_of (dedup_from are_namesakes k es) ≡ dedup_from are_same k.0 (keys_of es) → keys_of (dedup_from are_namesakes e es) ≡ dedup_from are_same e.0 (keys_of es)
        → keys_of (cond b (dedup_from are_namesakes k es) (k ∷ dedup_from are_namesakes e es)) ≡ cond b (dedup_from are_same k.0 (keys_of es)) (k.0 ∷ dedup_from are_same e.0 (keys_of es))
    by true f g = f
    by false f g = ap (λ ks. k.0 ∷ ks) g

keys_dedup : (es : Named NamePlace) → keys_of (dedup are_namesakes es) ≡ dedup are_same (keys_of es)
keys_dedup [] = refl
keys_dedup (e ∷ es) = keys_from e es

keys_sorted : (es : Named NamePlace) → AreSorted es → IsSorted (slice_cmp nat_cmp) (keys_of es)
keys_sorted es up k d low high =
    let h : k + 1 < length es = subst (λ n. k + 1 < n) (length-map es (λ (e : Entry). e.0)) high in
    ap (λ a. is_before a (get_or (keys_of es) k d)) (get_or-map (λ (e : Entry). e.0) es (k + 1) (d, at_zero) d h)
    ∙ ap (λ b. is_before (get_or es (k + 1) (d, at_zero)).0 b) (get_or-map (λ (e : Entry). e.0) es k (d, at_zero) d (omega (arith, h)))
    ∙ up k (d, at_zero) low h

pub firsts_rise : (es : Named NamePlace) → AreSorted es → Rise (dedup are_namesakes es)
firsts_rise es up = subst (λ (ks : List (List ℕ)). IsStrictlySortedBy (slice_cmp nat_cmp) ks) (sym (keys_dedup es)) (IsStrictlySortedBy-dedup nat_list_cmp_total (λ a b. refl) (keys_of es) (keys_sorted es up))

-- ---- the search

key_at : (es : Named NamePlace) (i : ℕ) (d : Entry) → i < length es → get_or (keys_of es) i d.0 ≡ (get_or es i d).0
key_at es i d h = get_or-map (λ (e : Entry). e.0) es i d d.0 h

name_less : (es : Named NamePlace) (i j : ℕ) (d : Entry) → Rise es → i < j → j < length es → slice_cmp nat_cmp (get_or es i d).0 (get_or es j d).0 ≡ Less
name_less es i j d up lt h =
    (λ p. slice_cmp nat_cmp (sym (key_at es i d (omega (arith, lt, h))) p) (sym (key_at es j d h) p))
    ∙ Less-from_sorted (slice_cmp nat_cmp) (keys_of es) i j d.0 up lt (subst (λ n. j < n) (sym (length-map es (λ (e : Entry). e.0))) h)

less_from : {o : Ordering} → is_lt o ≡ true → o ≡ Less
less_from {o} h = by o h
  where
    by : (p : Ordering) → is_lt p ≡ true → p ≡ Less
    by Less e = refl
    by Equal e = absurd (true≢false (sym e))
    by Greater e = absurd (true≢false (sym e))

by_place : (i j : ℕ) → i ≤ j → (i < j) ⊎ (i ≡ j)
by_place zero zero h = inr refl
by_place zero (suc j) h = inl (omega arith)
by_place (suc i) zero h = absurd (not-suc-le-zero h)
by_place (suc i) (suc j) h = elim (by_place i j (le_of_suc-le-suc h)) [ inl lt ↦ inl (omega (arith, lt)) | inr e ↦ inr (ap suc e) ]

pub parted : (es : Named NamePlace) (name : List ℕ) → Rise es → IsPartitionedBy (λ (e : Entry). is_before e.0 name) es
parted es name up i j d le h k = elim (by_place i j le) [
  | inl lt ↦ ap is_lt (nat_list_cmp_total.trans (get_or es i d).0 (get_or es j d).0 name (name_less es i j d up lt h) (less_from k))
  | inr e ↦ subst (λ n. is_before (get_or es n d).0 name ≡ true) (sym e) k
]

-- the entry at the place has the name
pub found_here : (es : Named NamePlace) (q : List ℕ) (at : ℕ) (e : Entry) → Rise es → at < length es → e ≡ get_or es at e → is_eq (slice_cmp nat_cmp e.0 q) ≡ true → value_at es q ≡ Some e.1
found_here es q at e up h is same =
    ap (value_at es) (sym (names_equal e.0 q same)) ∙ sym (value_is e.0 es)
    ∙ lookup_from_place (eq_by_cmp_equiv nat_list_cmp_total) es at e.0 e.1 (IsDistinct-from_sorted (slice_cmp nat_cmp) (keys_of es) up) (slice_get_read es (length es) at e refl h is)

none_before : (es : Named NamePlace) (q : List ℕ) (at : ℕ) → IsFirstFrom es q at → at ≤ length es → (j : ℕ) (e : Entry) → j < at → slice_get es j ≡ Some e → slice_cmp nat_cmp q e.0 ≡ Greater
none_before es q at point fits j e lt got =
    nat_list_cmp_total.antisymm q e.0 ∙ ap ordering_reverse (less_from (ap (λ (d : Entry). is_before d.0 q) (sym (get_or_from_slice_get es j e e got)) ∙ point.0 j e (omega arith) lt))

-- no entry stands at the place
pub found_end : (es : Named NamePlace) (q : List ℕ) (at : ℕ) → Rise es → length es ≤ at → at ≤ length es → IsFirstFrom es q at → value_at es q ≡ None
found_end es q at up h fits point = sym (value_is q es) ∙ lookup_at_gap nat_list_cmp_total q es at up (none_before es q at point fits) (λ e got. absurd (past e got))
  where
    past : (e : Entry) → slice_get es at ≡ Some e → ⊥
    past e got = elim (slice_get_cases es at).1 [
      | inl (x, lt, _, _) ↦ omega (arith, lt, h)
      | inr (_, none) ↦ cc (got, none)
    ]

-- the entry at the place has another name
pub found_other : (es : Named NamePlace) (q : List ℕ) (at : ℕ) (e : Entry) → Rise es → at < length es → e ≡ get_or es at e → IsFirstFrom es q at → is_eq (slice_cmp nat_cmp e.0 q) ≡ false → value_at es q ≡ None
found_other es q at e up h is point other = sym (value_is q es) ∙ lookup_at_gap nat_list_cmp_total q es at up (none_before es q at point (omega (arith, h))) beyond
  where
    above : (o : Ordering) → is_lt o ≡ false → is_eq o ≡ false → o ≡ Greater
    above Less l n = absurd (true≢false l)
    above Equal l n = absurd (true≢false n)
    above Greater l n = refl

    beyond : (d : Entry) → slice_get es at ≡ Some d → slice_cmp nat_cmp q d.0 ≡ Less
    beyond d got =
        let same : e ≡ d = sym (ap (λ (x : Entry). x) (sym is)) ∙ get_or_from_slice_get es at d e got in
        subst (λ (x : Entry). slice_cmp nat_cmp q x.0 ≡ Less) same
        (nat_list_cmp_total.antisymm q e.0 ∙ ap ordering_reverse (above (slice_cmp nat_cmp e.0 q) (ap (λ (x : Entry). is_before x.0 q) is ∙ point.1 at e (omega arith) h) other))
