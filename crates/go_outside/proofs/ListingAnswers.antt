-- What pairs whose paths rise tell, and what a listing of them says of it.
use Rattle.std.proofs.Common.{◌≡◌, ◌≢◌, ℕ, ◌<◌, inl, inr, Bool, true, false, Option, Some, None, List, [], length, get_or, refl, sym, ap, ◌∙◌, subst, arith}
use Rattle.std.specs.FinMap.{get}
use Rattle.std.specs.List.Sorted.{IsPermutation}
use Rattle.std.proofs.lemmas.List.Sorted.{IsPermutation-sym, sum_by-IsPermutation}
use Rattle.std.specs.Cmp.Lexicographic.{pointwise}
use Rattle.std.proofs.Common.{cond, nat_eq}
use Rattle.go_base.specs.Lists.{Has}
use Rattle.go_outside.specs.declared.files.Entry.{Entry}
use Rattle.go_outside.specs.declared.memory_files.FilePair.{FilePair}
use Rattle.go_outside.specs.Paths.{Path, entry_of}
use Rattle.go_outside.specs.Stores.{IsTold, IsListing}
use Rattle.go_outside.specs.MemoryFiles.{contents_of, Tells, IsTwice, Clashes, IsClear, IsLeastClash}
use Rattle.go_outside.specs.inner.SortedPairs.{is_before, path_at, IsSorted, IsRising, StandsBelow, IsListingBelow, IsClearBelow}
use Rattle.go_outside.proofs.PathOrder.{before_differs, not_both, same_path}
use Rattle.go_outside.proofs.Lists.{by_place, has_place, place_has, has_permuted, has_map}
use Rattle.go_outside.proofs.PairOrder.{sorted_up, path_default}
use Rattle.go_outside.proofs.PairContents.{get_at, get_has}
use Rattle.go_outside.proofs.Clashing.{twice_at}

some_none : (a : List ℕ) → Some a ≡ None → ⊥
some_none a e = cc

none_by : (o : Option Entry) → ((e : Entry) → o ≡ Some e → ⊥) → o ≡ None
none_by None h = refl
none_by (Some e) h = absurd (h e refl)

-- a pair at a place is what the contents hold at its path
held_at : (pairs : List FilePair) (k : ℕ) (d : FilePair) (q : Path) → IsRising pairs → k < length pairs → path_at pairs k d ≡ q → get (contents_of pairs) q ≡ Some (get_or pairs k d).bytes
held_at pairs k d q up h e = get_at pairs q k d h e (λ j lt same. before_differs (path_at pairs j d) (path_at pairs k d) (up j k d lt h) (same ∙ sym e))

pub has_held : (pairs : List FilePair) (p : FilePair) → IsRising pairs → Has pairs p → get (contents_of pairs) p.path ≡ Some p.bytes
has_held pairs p up h = let k = has_place pairs p h in held_at pairs k.0 p p.path up k.1 (ap (λ (w : FilePair). w.path) k.2) ∙ ap (λ (w : FilePair). Some w.bytes) k.2

stands_by : (pairs : List FilePair) (q : Path) (o : Option (List ℕ)) → get (contents_of pairs) q ≡ o → o ≢ None → StandsBelow pairs (length pairs) q
stands_by pairs q None e h = absurd (h refl)
stands_by pairs q (Some bytes) e h =
    let p : FilePair = record { path = q; bytes = bytes } in
    let k = has_place pairs p (get_has pairs q bytes e) in
    (k.0, p, k.1, ap (λ (w : FilePair). w.path) k.2)

told_stands : (pairs : List FilePair) (q : Path) → IsTold (contents_of pairs) q → StandsBelow pairs (length pairs) q
told_stands pairs q h = stands_by pairs q (get (contents_of pairs) q) refl h

stands_told : (pairs : List FilePair) (q : Path) → IsRising pairs → StandsBelow pairs (length pairs) q → IsTold (contents_of pairs) q
stands_told pairs q up s none = some_none (get_or pairs s.0 s.1).bytes (sym (held_at pairs s.0 s.1 q up s.2 s.3) ∙ none)

pub listing_told : (pairs : List FilePair) (folder : Path) (entries : List Entry) → IsRising pairs → IsListingBelow pairs (length pairs) folder entries → IsListing (IsTold (contents_of pairs)) folder entries
listing_told pairs folder entries up l = record {
  sound = λ e h. let k = l.sound e h in (k.0, stands_told pairs k.0 up k.1, k.2);
  complete = λ p e t is. l.complete p e (told_stands pairs p t) is;
  once = l.once;
}

pub listing_missing : (pairs : List FilePair) (folder : Path) (entries : List Entry) → entries ≡ [] → IsListingBelow pairs (length pairs) folder entries → (p : Path) → IsTold (contents_of pairs) p → entry_of folder p ≡ None
listing_missing pairs folder entries empty l p t = none_by (entry_of folder p) (λ e is. subst (λ (es : List Entry). Has es e) empty (l.complete p e (told_stands pairs p t) is))

-- sorted paths of which none clashes rise
pub clear_rising : (pairs : List FilePair) → IsSorted pairs → IsClearBelow pairs (length pairs) → IsRising pairs
clear_rising pairs up clear i j d lt h = sure _ (λ z. clear i d (omega arith) (inl (twice_at pairs i j d lt h (same_path (path_at pairs i d) (path_at pairs j d) z (sorted_up pairs i j d up (omega arith) h))))) where
  sure : (b : Bool) → (b ≡ false → ⊥) → b ≡ true
  sure true h = refl
  sure false h = absurd (h refl)

twice_permuted : (xs ys : List FilePair) (q : Path) → IsPermutation xs ys → IsTwice xs q → IsTwice ys q
twice_permuted xs ys q p h = let e = sum_by-IsPermutation (λ (w : FilePair). cond (pointwise nat_eq w.path q) 1 0) xs ys p in omega (arith, e, h)

clashes_permuted : (xs ys : List FilePair) (q : Path) → IsPermutation xs ys → Clashes xs q → Clashes ys q
clashes_permuted xs ys q p (inl twice) = inl (twice_permuted xs ys q p twice)
clashes_permuted xs ys q p (inr above) = inr (above.0, has_permuted xs ys above.0 p above.1, above.2)

module _ (pairs sorted : List FilePair) (moved : IsPermutation pairs sorted) where
  pub tells : IsRising sorted → Tells (contents_of sorted) pairs
  tells up path bytes = (
    (λ h. has_permuted sorted pairs _ (IsPermutation-sym pairs sorted moved) (get_has sorted path bytes h)),
    (λ h. has_held sorted (record { path = path; bytes = bytes }) up (has_permuted pairs sorted _ moved h)),
  )

  -- a pair whose path clashes stands at a place of the sorted ones
  pub clear_sorted : IsClearBelow sorted (length sorted) → IsClear pairs
  clear_sorted clear p h clash =
      let k = has_place sorted p (has_permuted pairs sorted p moved h) in
      clear k.0 p k.1 (subst (λ (w : FilePair). Clashes sorted w.path) (sym k.2) (clashes_permuted pairs sorted p.path moved clash))

  pub least_sorted : (at : ℕ) (x : FilePair) → IsSorted sorted → at < length sorted → Clashes sorted (path_at sorted at x) → IsClearBelow sorted at → IsLeastClash pairs (path_at sorted at x)
  least_sorted at x up inside here clear = record {
    stands = has_map (λ (w : FilePair). w.path) pairs (get_or sorted at x) (has_permuted sorted pairs _ (IsPermutation-sym pairs sorted moved) (place_has sorted at x inside));
    clash = clashes_permuted sorted pairs (path_at sorted at x) (IsPermutation-sym pairs sorted moved) here;
    least = λ p h before clash.
        let k = has_place sorted p (has_permuted pairs sorted p moved h) in
        let there = subst (λ (w : FilePair). Clashes sorted w.path) (sym k.2) (clashes_permuted pairs sorted p.path moved clash) in
        elim (by_place k.0 at) [
          | inl low ↦ clear k.0 p low there
          | inr high ↦ not_both before
              (subst (λ (w : FilePair). is_before w.path (path_at sorted at x) ≡ false) k.2
              (subst (λ (w : Path). is_before (path_at sorted k.0 p) w ≡ false) (path_default sorted at p x inside) (sorted_up sorted at k.0 p up high k.1)))
        ];
  }
