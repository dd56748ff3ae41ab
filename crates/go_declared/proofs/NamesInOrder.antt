-- The names of an ordered map are in the order of bytes.
use Rattle.std.proofs.Common.{◌≡◌, ℕ, List, [], ◌∷◌, refl, ap}
use Rattle.std.specs.Cmp.Lexicographic.{slice_cmp}
use Rattle.std.specs.List.{AllByRecursion}
use Rattle.std.specs.List.Sorted.{IsStrictlySortedBy}
use Rattle.std.specs.Ordering.{is_lt, nat_cmp}
use Rattle.std.specs.declared.cmp.Ordering.TheVariants.{Less}
use Rattle.go_base.specs.Lists.{Ascending, Before, Each}
use Rattle.go_declared.specs.NameTables.{entries_of, names_in, texts_of}
use Rattle.go_declared.specs.declared.names.ListedName.{ListedName}

before_each : (n : List ℕ) (ns : List (List ℕ)) → AllByRecursion (λ y. slice_cmp nat_cmp n y ≡ Less) ns → Each (Before n) ns
before_each n [] h = tt
before_each n (m ∷ ns) h = (ap is_lt h.0, before_each n ns h.1)

pub ascending : (ns : List (List ℕ)) → IsStrictlySortedBy (slice_cmp nat_cmp) ns → Ascending ns
unfolding IsStrictlySortedBy
ascending [] s = tt
ascending (n ∷ ns) s = (before_each n ns s.0, ascending ns s.1)

pub names_listed : (ls : List ListedName) → texts_of ls ≡ names_in (entries_of ls)
names_listed [] = refl
names_listed (l ∷ ls) = ap (λ ns. l.name.now ∷ ns) (names_listed ls)
