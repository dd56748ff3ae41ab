-- What a search among pairs whose paths rise has found.
use Rattle.std.proofs.Common.{◌≡◌, ℕ, ◌<◌, ◌≤◌, inl, inr, true, Some, None, List, length, get_or, sym, ap, ◌∙◌, subst, arith}
use Rattle.std.specs.FinMap.{get}
use Rattle.go_outside.specs.declared.memory_files.FilePair.{FilePair}
use Rattle.go_outside.specs.Paths.{Path}
use Rattle.go_outside.specs.MemoryFiles.{contents_of}
use Rattle.go_outside.specs.inner.SortedPairs.{is_before, path_at, IsRising, IsFirstFrom}
use Rattle.go_outside.proofs.PathOrder.{before_differs, not_both}
use Rattle.go_outside.proofs.Lists.{by_place}
use Rattle.go_outside.proofs.PairOrder.{default_is}
use Rattle.go_outside.proofs.PairContents.{get_at, get_none}

-- the pair at the place has the path
pub found_here : (pairs : List FilePair) (q : Path) (at : ℕ) (x : FilePair) → at < length pairs → x ≡ get_or pairs at x → IsFirstFrom pairs q at → x.path ≡ q → get (contents_of pairs) q ≡ Some x.bytes
found_here pairs q at x h is point e =
    get_at pairs q at x h (sym (ap (λ (w : FilePair). w.path) is) ∙ e) (λ j lt. before_differs (path_at pairs j x) q (point.0 j x (omega arith) lt)) ∙ ap (λ (w : FilePair). Some w.bytes) (sym is)

-- no pair stands at the place
pub found_end : (pairs : List FilePair) (q : Path) (at : ℕ) → length pairs ≤ at → IsFirstFrom pairs q at → get (contents_of pairs) q ≡ None
found_end pairs q at h point = get_none pairs q (λ j d lt. before_differs (path_at pairs j d) q (point.0 j d (omega arith) (omega arith)))

same_place : (pairs : List FilePair) (q : Path) (at j : ℕ) (x d : FilePair) → at < length pairs → x ≡ get_or pairs at x → j ≡ at → path_at pairs j d ≡ q → x.path ≡ q
same_place pairs q at j x d h is e s = ap (λ (w : FilePair). w.path) (is ∙ default_is pairs at x d h ∙ ap (λ n. get_or pairs n d) (sym e)) ∙ s

-- the pair at the place has another path
pub found_other : (pairs : List FilePair) (q : Path) (at : ℕ) (x : FilePair) → at < length pairs → x ≡ get_or pairs at x → IsRising pairs → IsFirstFrom pairs q at → (x.path ≡ q → ⊥) → get (contents_of pairs) q ≡ None
found_other pairs q at x h is up point other = get_none pairs q (λ j d lt s. elim (by_place j at) [
  | inl low ↦ before_differs (path_at pairs j d) q (point.0 j d (omega arith) low) s
  | inr high ↦ elim (by_place at j) [
    | inl more ↦ not_both (subst (λ (w : Path). is_before (path_at pairs at d) w ≡ true) s (up at j d more lt)) (point.1 at d (omega arith) h)
    | inr less ↦ other (same_place pairs q at j x d h is (omega arith) s)
  ]
])
