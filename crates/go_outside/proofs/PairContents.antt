-- What the contents of pairs hold at a path.
use Rattle.std.proofs.Common.{◌≡◌, ℕ, zero, suc, ◌<◌, inl, inr, Bool, true, false, cond, Some, None, List, [], ◌∷◌, length, map, get_or, refl, sym, ap, ◌∙◌, subst, arith}
use Rattle.std.specs.Ordering.{nat_cmp, eq_by_cmp, is_eq}
use Rattle.std.specs.declared.cmp.Ordering.{Ordering}
use Rattle.std.specs.Cmp.{Equal-is}
use Rattle.std.specs.Cmp.Lexicographic.{slice_cmp}
use Rattle.std.specs.FinMap.{get, find, get-from_entries, slice_cmp-IsAntisymmetric, nat_cmp-IsAntisymmetric}
use Rattle.std.proofs.lemmas.Cmp.{nat_list_cmp_total, tied_itself}
use Rattle.go_base.specs.Lists.{Has}
use Rattle.go_outside.specs.declared.memory_files.FilePair.{FilePair}
use Rattle.go_outside.specs.Paths.{Path}
use Rattle.go_outside.specs.MemoryFiles.{contents_of}
use Rattle.go_outside.specs.inner.SortedPairs.{path_at}

inside : (a b : List ℕ) → Some a ≡ Some b → a ≡ b
inside a b e = cc

some_none : (a : List ℕ) → Some a ≡ None → ⊥
some_none a e = cc

pair_is : (p : FilePair) (q : Path) (bytes : List ℕ) → p.path ≡ q → p.bytes ≡ bytes → p ≡ record { path = q; bytes = bytes }
pair_is p q bytes e h = λ i. record { path = e i; bytes = h i }

abbrev order : Path → Path → Ordering
order = slice_cmp nat_cmp

ties : (q p : Path) → p ≡ q → eq_by_cmp order q p ≡ true
ties q p e = subst (λ (w : Path). eq_by_cmp order q w ≡ true) (sym e) (ap is_eq (tied_itself nat_list_cmp_total q))

false_by : (b : Bool) → (b ≡ true → ⊥) → b ≡ false
false_by true h = absurd (h refl)
false_by false h = refl

differs : (q p : Path) → (p ≡ q → ⊥) → eq_by_cmp order q p ≡ false
differs q p h = false_by _ (λ e. h (sym (slice_cmp-IsAntisymmetric nat_cmp-IsAntisymmetric q p ((Equal-is (order q p)).0 e))))

abbrev rows : List FilePair → List (Path × List ℕ)
rows pairs = map (λ p. (p.path, p.bytes)) pairs

find_at : (pairs : List FilePair) (q : Path) (k : ℕ) (d : FilePair) → k < length pairs → path_at pairs k d ≡ q → ((j : ℕ) → j < k → path_at pairs j d ≡ q → ⊥) → find order q (rows pairs) ≡ Some (get_or pairs k d).bytes
find_at [] q k d h e before = absurd (omega arith)
find_at (p ∷ ps) q zero d h e before = ap (λ b. cond b (Some p.bytes) (find order q (rows ps))) (ties q p.path e)
find_at (p ∷ ps) q (suc k) d h e before =
    ap (λ b. cond b (Some p.bytes) (find order q (rows ps))) (differs q p.path (before 0 (omega arith))) ∙ find_at ps q k d (omega arith) e (λ j lt. before (suc j) (omega arith))

find_none : (pairs : List FilePair) (q : Path) → ((j : ℕ) (d : FilePair) → j < length pairs → path_at pairs j d ≡ q → ⊥) → find order q (rows pairs) ≡ None
find_none [] q never = refl
find_none (p ∷ ps) q never =
    ap (λ b. cond b (Some p.bytes) (find order q (rows ps))) (differs q p.path (never 0 p (omega arith))) ∙ find_none ps q (λ j d lt. never (suc j) d (omega arith))

-- the bytes of the first pair with the path
pub get_at : (pairs : List FilePair) (q : Path) (k : ℕ) (d : FilePair) → k < length pairs → path_at pairs k d ≡ q → ((j : ℕ) → j < k → path_at pairs j d ≡ q → ⊥) → get (contents_of pairs) q ≡ Some (get_or pairs k d).bytes
get_at pairs q k d h e before = get-from_entries nat_list_cmp_total (rows pairs) q ∙ find_at pairs q k d h e before

pub get_none : (pairs : List FilePair) (q : Path) → ((j : ℕ) (d : FilePair) → j < length pairs → path_at pairs j d ≡ q → ⊥) → get (contents_of pairs) q ≡ None
get_none pairs q never = get-from_entries nat_list_cmp_total (rows pairs) q ∙ find_none pairs q never

has_by : (p : FilePair) (ps : List FilePair) (q : Path) (bytes : List ℕ) (b : Bool) → eq_by_cmp order q p.path ≡ b → (find order q (rows ps) ≡ Some bytes → Has ps (record { path = q; bytes = bytes }))
    → cond b (Some p.bytes) (find order q (rows ps)) ≡ Some bytes → Has (p ∷ ps) (record { path = q; bytes = bytes })
has_by p ps q bytes true e rest h = inl (pair_is p q bytes (sym (slice_cmp-IsAntisymmetric nat_cmp-IsAntisymmetric q p.path ((Equal-is (order q p.path)).0 e))) (inside p.bytes bytes h))
has_by p ps q bytes false e rest h = inr (rest h)

find_has : (pairs : List FilePair) (q : Path) (bytes : List ℕ) → find order q (rows pairs) ≡ Some bytes → Has pairs (record { path = q; bytes = bytes })
find_has [] q bytes h = absurd (some_none bytes (sym h))
find_has (p ∷ ps) q bytes h = has_by p ps q bytes (eq_by_cmp order q p.path) refl (find_has ps q bytes) h

-- what the contents hold is a pair
pub get_has : (pairs : List FilePair) (q : Path) (bytes : List ℕ) → get (contents_of pairs) q ≡ Some bytes → Has pairs (record { path = q; bytes = bytes })
get_has pairs q bytes h = find_has pairs q bytes (sym (get-from_entries nat_list_cmp_total (rows pairs) q) ∙ h)
