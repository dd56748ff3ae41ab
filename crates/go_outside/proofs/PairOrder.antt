-- Pairs in the order of their paths.
use Rattle.std.proofs.Common.{◌≡◌, ℕ, zero, suc, ◌+◌, ◌<◌, ◌≤◌, false, List, [], ◌∷◌, length, get_or, refl, ap, arith}
use Rattle.std.specs.Cmp.{IsStrictWeakOrder}
use Rattle.std.specs.List.Sorted.{IsPartitionedBy}
use Rattle.std.proofs.lemmas.Cmp.{nat_list_cmp_total}
use Rattle.std.proofs.lemmas.List.Sorted.{ranks_by, sorted_far}
use Rattle.go_outside.specs.declared.memory_files.FilePair.{FilePair}
use Rattle.go_outside.specs.Paths.{Path}
use Rattle.go_outside.specs.inner.SortedPairs.{is_before, path_at, IsSorted, IsRising}
use Rattle.go_outside.proofs.PathOrder.{one_way, before_from}

pub by_path : IsStrictWeakOrder (λ (p q : FilePair). is_before p.path q.path)
by_path = ranks_by nat_list_cmp_total (λ (p : FilePair). p.path)

-- the element at an index doesn't hang on the default
pub default_is : {A : Type 0} (xs : List A) (i : ℕ) (d e : A) → i < length xs → get_or xs i d ≡ get_or xs i e
default_is [] i d e h = absurd (omega arith)
default_is (x ∷ xs) zero d e h = refl
default_is (x ∷ xs) (suc i) d e h = default_is xs i d e (omega arith)

-- in sorted pairs a path is not before one that stands no later
pub sorted_up : (pairs : List FilePair) (i j : ℕ) (d : FilePair) → IsSorted pairs → i ≤ j → j < length pairs → is_before (path_at pairs j d) (path_at pairs i d) ≡ false
sorted_up pairs i j d up le h = sorted_far (λ (p q : FilePair). is_before p.path q.path) by_path pairs up i j d le h

pub rising_sorted : (pairs : List FilePair) → IsRising pairs → IsSorted pairs
rising_sorted pairs up k d low high = one_way (path_at pairs k d) (path_at pairs (k + 1) d) (up k (k + 1) d (omega arith) (omega arith))

-- the pairs whose paths are before a key come first
pub parted : (pairs : List FilePair) (key : Path) → IsSorted pairs → IsPartitionedBy (λ (p : FilePair). is_before p.path key) pairs
parted pairs key up i j d le h k = before_from (path_at pairs i d) (path_at pairs j d) key (sorted_up pairs i j d up le h) k

pub path_default : (pairs : List FilePair) (at : ℕ) (d e : FilePair) → at < length pairs → path_at pairs at d ≡ path_at pairs at e
path_default pairs at d e h = ap (λ (w : FilePair). w.path) (default_is pairs at d e h)
