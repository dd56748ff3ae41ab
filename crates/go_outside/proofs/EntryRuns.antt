-- Among pairs whose paths rise, those of one entry of a folder stand together.
use Rattle.std.proofs.Common.{◌≡◌, ◌≢◌, ℕ, ◌+◌, ◌<◌, ◌≤◌, inl, inr, true, false, Some, List, [], ◌∷◌, ◌++◌, length, sym, ap, ◌∙◌, subst, arith}
use Rattle.go_outside.specs.declared.files.Entry.{Entry}
use Rattle.go_outside.specs.declared.files.EntryKind.TheVariants as kind
use Rattle.go_outside.specs.declared.memory_files.FilePair.{FilePair}
use Rattle.go_outside.specs.Paths.{Path, entry_of}
use Rattle.go_outside.specs.inner.SortedPairs.{is_before, path_at, IsRising, IsFirstFrom, IsPast}
use Rattle.go_outside.proofs.PathOrder.{not_both, before_differs, not_before_trans, slash_from, slash_before, between}
use Rattle.go_outside.proofs.Lists.{by_place}
use Rattle.go_outside.proofs.PairOrder.{sorted_up, rising_sorted}
use Rattle.go_outside.proofs.EntryPaths.{file_path, folder_path, folder_again}

-- no other path has the entry of a file
pub past_file : (pairs : List FilePair) (folder : Path) (at : ℕ) (e : Entry) → IsRising pairs → at < length pairs
    → ((d : FilePair) → entry_of folder (path_at pairs at d) ≡ Some e) → e.kind ≡ kind.File → IsPast pairs folder at e (at + 1)
past_file pairs folder at e up h is k = record {
  beyond = omega arith;
  within_pairs = omega arith;
  same = λ j d le lt. let s : at ≡ j = omega arith in subst (λ n. entry_of folder (path_at pairs n d) ≡ Some e) s (is d);
  others = λ j d le lt has. before_differs (path_at pairs at d) (path_at pairs j d) (up at j d (omega arith) lt)
      (file_path folder (path_at pairs at d) e k (is d) ∙ sym (file_path folder (path_at pairs j d) e k has));
}

abbrev key_of : Path → Entry → Path
key_of folder e = ((folder ++ 47 ∷ []) ++ e.name) ++ 48 ∷ []

module _ (pairs : List FilePair) (folder : Path) (at : ℕ) (e : Entry) (next : ℕ) (up : IsRising pairs) (inside : at < length pairs)
    (is : (d : FilePair) → entry_of folder (path_at pairs at d) ≡ Some e) (deep : e.kind ≢ kind.File) (point : IsFirstFrom pairs (key_of folder e) next) where
  abbrev name : Path
  name = (folder ++ 47 ∷ []) ++ e.name

  -- what has the entry is before the key
  under : (q : Path) → entry_of folder q ≡ Some e → is_before q (key_of folder e) ≡ true
  under q h = let m = folder_path folder q e deep h in subst (λ (w : Path). is_before w (key_of folder e) ≡ true) (sym m.1) (slash_before name m.0)

  -- and not before the folder's own name and a slash
  above : (q : Path) → entry_of folder q ≡ Some e → is_before q (name ++ 47 ∷ []) ≡ false
  above q h = let m = folder_path folder q e deep h in subst (λ (w : Path). is_before w (name ++ 47 ∷ []) ≡ false) (sym m.1) (slash_from name m.0)

  past_here : (d : FilePair) → at < next
  past_here d = elim (by_place at next) [
    | inl lt ↦ lt
    | inr le ↦ absurd (not_both (under (path_at pairs at d) (is d)) (point.1 at d le inside))
  ]

  -- a path between both keys has the entry
  same_between : (q : Path) → is_before q (name ++ 47 ∷ []) ≡ false → is_before q (key_of folder e) ≡ true → (d : FilePair) → entry_of folder q ≡ Some e
  same_between q low high d = let r = between name q low high in ap (entry_of folder) r.1 ∙ folder_again folder (path_at pairs at d) e r.0 deep (is d)

  pub past_folder : (d : FilePair) → next ≤ length pairs → IsPast pairs folder at e next
  past_folder x fits = record {
    beyond = past_here x;
    within_pairs = fits;
    same = λ j d le lt. same_between (path_at pairs j d)
        (not_before_trans (path_at pairs j d) (path_at pairs at d) (name ++ 47 ∷ []) (sorted_up pairs at j d (rising_sorted pairs up) le (omega arith)) (above (path_at pairs at d) (is d)))
        (point.0 j d (omega arith) lt) d;
    others = λ j d le lt has. not_both (under (path_at pairs j d) has) (point.1 j d le lt);
  }

some_by : (pairs : List FilePair) (k : ℕ) → k < length pairs → FilePair
some_by [] k h = absurd (omega arith)
some_by (p ∷ ps) k h = p

pub some_pair : (pairs : List FilePair) (k : ℕ) → k < length pairs → FilePair
some_pair = some_by
