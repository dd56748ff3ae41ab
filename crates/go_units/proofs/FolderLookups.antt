-- Look-ups in folders that are ordered by their paths.
use Rattle.std.proofs.Common.{◌≡◌, ℕ, zero, suc, ◌<◌, ◌≤◌, true, Some, None, List, [], ◌∷◌, map, length, take, drop, get_or, refl, sym, ap, ◌∙◌, subst, inl, inr, arith}
use mathlib.Core.Bool.{true≢false}
use Rattle.std.specs.Ordering.{is_lt, ordering_reverse}
use Rattle.std.specs.declared.cmp.Ordering.{Ordering}
use Rattle.std.specs.declared.cmp.Ordering.TheVariants.{Less, Equal, Greater}
use Rattle.std.proofs.lemmas.Cmp.{nat_list_cmp_total, tied_itself}
use Rattle.std.proofs.lemmas.List.{take-append-drop}
use Rattle.go_base.specs.Lists.{Has, Each, Before}
use Rattle.go_base.proofs.Members.{has_split}
use Rattle.go_base.proofs.Ordered.{Narrowed}
use Rattle.go_imports.proofs.GrowingSets.{order, texts_tie}
use Rattle.go_imports.proofs.Members.{has_at, below_or, get_or_same}
use Rattle.go_units.specs.Folders.{no_folder, folder_of, path_of, AreOrdered}
use Rattle.go_units.specs.inner.FolderPlaces.{FindsOne, IsAt}
use Rattle.go_units.specs.declared.folder.Folder.{Folder}

itself : (path : List ℕ) → order path path ≡ Equal
itself path = tied_itself nat_list_cmp_total path

not_less : (a b : List ℕ) → a ≡ b → order a b ≡ Less → ⊥
not_less a b e l = absurd (let h : Less ≡ Equal = sym l ∙ ap (order a) (sym e) ∙ itself a in cc)

not_greater : (a b : List ℕ) → a ≡ b → order a b ≡ Greater → ⊥
not_greater a b e l = absurd (let h : Greater ≡ Equal = sym l ∙ ap (order a) (sym e) ∙ itself a in cc)

module _ (folders : List Folder) (path : List ℕ) where
  -- a folder has the path where it compares as equal
  pub at_equal : (i : ℕ) (f : Folder) → i < length folders → f ≡ get_or folders i f → order f.path path ≡ Equal → IsAt folders path i
  at_equal i f h is e = (h, ap path_of (get_or_same folders i no_folder f h ∙ sym is) ∙ texts_tie f.path path e)

  -- no folder has the path where no place is left for it
  pub at_none : (low high : ℕ) → high ≤ low → Narrowed path_of folders path low high → (n : ℕ) → IsAt folders path n → ⊥
  at_none low high h s n a =
      let there : Has folders (folder_of folders n) = has_at folders n no_folder a.0 in
      elim (has_split (take low folders) (drop low folders) (folder_of folders n) (subst (λ (w : List Folder). Has w (folder_of folders n)) (sym (take-append-drop low folders)) there)) [
        | inl k ↦ not_less (folder_of folders n).path path a.1 (s.before (folder_of folders n) k)
        | inr k ↦ not_greater (folder_of folders n).path path a.1 (s.after (folder_of folders n) (subst (λ (m : ℕ). Has (drop m folders) (folder_of folders n)) (let e : low ≡ high = omega (arith, s.rises) in e) k))
      ]

less_of : (o : Ordering) → is_lt o ≡ true → o ≡ Less
less_of Less e = refl
less_of Equal e = absurd (true≢false (sym e))
less_of Greater e = absurd (true≢false (sym e))

before_each : (x : List ℕ) (fs : List Folder) (j : ℕ) → Each (Before x) (map path_of fs) → j < length fs → Before x (folder_of fs j).path
before_each x [] j a h = absurd (omega (arith, h))
before_each x (f ∷ fs) zero a h = a.0
before_each x (f ∷ fs) (suc j) a h = before_each x fs j a.1 (omega (arith, h))

-- a folder before another has the lesser path
pub before_later : (fs : List Folder) (i j : ℕ) → AreOrdered fs → i < j → j < length fs → Before (folder_of fs i).path (folder_of fs j).path
before_later [] i j a h l = absurd (omega (arith, l))
before_later (f ∷ fs) i zero a h l = absurd (omega (arith, h))
before_later (f ∷ fs) zero (suc j) a h l = before_each f.path fs j a.0 (omega (arith, l))
before_later (f ∷ fs) (suc i) (suc j) a h l = before_later fs i j a.1 (omega (arith, h)) (omega (arith, l))

never_before_itself : (a b : List ℕ) → a ≡ b → Before a b → ⊥
never_before_itself a b e l = not_less a b e (less_of (order a b) l)

never_both : (a b : List ℕ) → Before a b → Before b a → ⊥
never_both a b l k = absurd (let h : Less ≡ Greater = sym (less_of (order b a) k) ∙ nat_list_cmp_total.antisymm b a ∙ ap ordering_reverse (less_of (order a b) l) in cc)

-- a path stands once
pub at_once : (fs : List Folder) (path : List ℕ) (n m : ℕ) → AreOrdered fs → IsAt fs path n → IsAt fs path m → m ≡ n
at_once fs path n m a p q = elim (below_or m n) [
  | inl less ↦ absurd (never_before_itself (folder_of fs m).path (folder_of fs n).path (q.1 ∙ sym p.1) (before_later fs m n a less p.0))
  | inr more ↦ elim (below_or n m) [
    | inl less ↦ absurd (never_before_itself (folder_of fs n).path (folder_of fs m).path (p.1 ∙ sym q.1) (before_later fs n m a less q.0))
    | inr same ↦ omega (arith, more, same)
  ]
]

-- no folder after another, nor that one itself, has a path before its
pub not_before : (fs : List Folder) (n m : ℕ) → AreOrdered fs → n ≤ m → m < length fs → Before (folder_of fs m).path (folder_of fs n).path → ⊥
not_before fs n m a le l b = elim (below_or n m) [
  | inl less ↦ never_both (folder_of fs n).path (folder_of fs m).path (before_later fs n m a less l) b
  | inr more ↦ never_before_itself (folder_of fs m).path (folder_of fs n).path (ap (λ (k : ℕ). (folder_of fs k).path) (let e : m ≡ n = omega (arith, le, more) in e)) b
]

module _ {P Q : ℕ → Type 0} (to : (m : ℕ) → Q m → P m) where
  -- one of which more is asked
  pub finds_here : (n : ℕ) → FindsOne P (Some n) → Q n → FindsOne Q (Some n)
  finds_here n f q = (q, λ m k. f.1 m (to m k))

  pub finds_no : (n : ℕ) → FindsOne P (Some n) → (Q n → ⊥) → FindsOne Q None
  finds_no n f never m k = never (subst Q (f.1 m (to m k)) k)

  pub finds_none : FindsOne P None → FindsOne Q None
  finds_none f m k = f m (to m k)
