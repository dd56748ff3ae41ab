-- The entries of a folder, as far as a place among pairs whose paths rise.
use Rattle.std.proofs.Common.{◌≡◌, ℕ, ◌<◌, ◌≤◌, inl, inr, true, false, Some, None, List, [], ◌∷◌, ◌++◌, length, refl, sym, ap, ◌∙◌, subst, arith}
use Rattle.go_base.specs.Lists.{Has}
use Rattle.go_outside.specs.declared.files.Entry.{Entry}
use Rattle.go_outside.specs.declared.memory_files.FilePair.{FilePair}
use Rattle.go_outside.specs.Paths.{Path, entry_of}
use Rattle.go_outside.specs.inner.SortedPairs.{is_before, path_at, IsSorted, IsFirstFrom, IsListingBelow, IsPast}
use Rattle.go_outside.proofs.PathOrder.{not_both, before_from, past_slash, slash_from, slash_before}
use Rattle.go_outside.proofs.Lists.{by_place, has_left, has_last, has_back, once_last}
use Rattle.go_outside.proofs.PairOrder.{sorted_up}
use Rattle.go_outside.proofs.FolderPaths.{entry_rest, entry_never}

-- the entries below the place were listed, none stands beyond it, and what stands beyond it is not before the folder
pub record SoFar (pairs : List FilePair) (folder : Path) (at : ℕ) (entries : List Entry) : Type 0 where
  pub fits : at ≤ length pairs
  pub listed : IsListingBelow pairs at folder entries
  pub fresh : (k : ℕ) (d : FilePair) (e : Entry) → at ≤ k → k < length pairs → entry_of folder (path_at pairs k d) ≡ Some e → Has entries e → ⊥
  pub reached : (k : ℕ) (d : FilePair) → at ≤ k → k < length pairs → is_before (path_at pairs k d) (folder ++ 47 ∷ []) ≡ false

same_entry : (a b : Entry) → Some a ≡ Some b → a ≡ b
same_entry a b h = cc

-- what has an entry in a folder is not before the folder and a slash, and is before the byte after it
entry_from : (folder q : Path) (e : Entry) → entry_of folder q ≡ Some e → is_before q (folder ++ 47 ∷ []) ≡ false
entry_from folder q e h = let r = entry_rest folder q e h in subst (λ (w : Path). is_before w (folder ++ 47 ∷ []) ≡ false) (sym r.1) (slash_from folder r.0)

entry_before : (folder q : Path) (e : Entry) → entry_of folder q ≡ Some e → is_before q (folder ++ 48 ∷ []) ≡ true
entry_before folder q e h = let r = entry_rest folder q e h in subst (λ (w : Path). is_before w (folder ++ 48 ∷ []) ≡ true) (sym r.1) (slash_before folder r.0)

pub so_far_none : (pairs : List FilePair) (folder : Path) (at : ℕ) → at ≤ length pairs → IsFirstFrom pairs (folder ++ 47 ∷ []) at → SoFar pairs folder at []
so_far_none pairs folder at fits point = record {
  fits = fits;
  listed = record {
    sound = λ e h. absurd h;
    complete = λ q e s h. not_both (point.0 s.0 s.1 (omega arith) s.2)
        (subst (λ (w : Path). is_before w (folder ++ 47 ∷ []) ≡ false) (sym s.3) (entry_from folder q e h));
    once = tt;
  };
  fresh = λ k d e le lt is h. absurd h;
  reached = λ k d le lt. point.1 k d le lt;
}

pub so_far_more : (pairs : List FilePair) (folder : Path) (at : ℕ) (entries : List Entry) (e : Entry) (next : ℕ) → FilePair → at < length pairs
    → IsPast pairs folder at e next → SoFar pairs folder at entries → SoFar pairs folder next (entries ++ e ∷ [])
so_far_more pairs folder at entries e next x inside past far = record {
  fits = past.within_pairs;
  listed = record {
    sound = λ g h. elim (has_back entries e g h) [
      | inl old ↦ (let s = far.listed.sound g old in (s.0, (s.1.0, s.1.1, omega (arith, s.1.2, past.beyond), s.1.3), s.2))
      | inr new ↦ (path_at pairs at x, (at, x, past.beyond, refl), past.same at x (omega arith) past.beyond ∙ ap Some new)
    ];
    complete = λ q g s h. elim (by_place s.0 at) [
      | inl low ↦ has_left entries (e ∷ []) g (far.listed.complete q g (s.0, s.1, low, s.3) h)
      | inr high ↦ subst (Has (entries ++ e ∷ [])) (same_entry e g (sym (past.same s.0 s.1 high s.2) ∙ ap (entry_of folder) s.3 ∙ h)) (has_last entries e)
    ];
    once = once_last entries e far.listed.once (far.fresh at x e (omega arith) inside (past.same at x (omega arith) past.beyond));
  };
  fresh = λ k d g le lt is h. elim (has_back entries e g h) [
    | inl old ↦ far.fresh k d g (omega (arith, past.beyond)) lt is old
    | inr new ↦ past.others k d le lt (is ∙ ap Some (sym new))
  ];
  reached = λ k d le lt. far.reached k d (omega (arith, past.beyond)) lt;
}

-- no pair stands beyond the place
pub so_far_end : (pairs : List FilePair) (folder : Path) (at : ℕ) (entries : List Entry) → length pairs ≤ at → SoFar pairs folder at entries → IsListingBelow pairs (length pairs) folder entries
so_far_end pairs folder at entries h far = let e : at ≡ length pairs = omega (arith, far.fits) in subst (λ n. IsListingBelow pairs n folder entries) e far.listed

-- the pair at the place has no entry, and none beyond it has one
pub so_far_past : (pairs : List FilePair) (folder : Path) (at : ℕ) (entries : List Entry) → IsSorted pairs → at < length pairs
    → ((d : FilePair) → entry_of folder (path_at pairs at d) ≡ None) → SoFar pairs folder at entries → IsListingBelow pairs (length pairs) folder entries
so_far_past pairs folder at entries up inside none far = record {
  sound = λ g h. let s = far.listed.sound g h in (s.0, (s.1.0, s.1.1, omega (arith, s.1.2), s.1.3), s.2);
  complete = λ q g s h. elim (by_place s.0 at) [
    | inl low ↦ far.listed.complete q g (s.0, s.1, low, s.3) h
    | inr high ↦ absurd (not_both
        (before_from (path_at pairs at s.1) (path_at pairs s.0 s.1) (folder ++ 48 ∷ []) (sorted_up pairs at s.0 s.1 up high s.2)
        (subst (λ (w : Path). is_before w (folder ++ 48 ∷ []) ≡ true) (sym s.3) (entry_before folder q g h)))
        (past_slash folder (path_at pairs at s.1) (far.reached at s.1 (omega arith) inside) (entry_never folder (path_at pairs at s.1) (none s.1))))
  ];
  once = far.listed.once;
}
