-- Packages that come after those that they need have levels.
use Rattle.std.proofs.Common.{◌≡◌, ◌<◌, ◌≤◌, ◌⊎◌, ℕ, zero, suc, max, Bool, true, false, ◌&&◌, ◌||◌, List, [], ◌∷◌, Option, Some, None, length, slice_get, refl, sym, ap, ◌∙◌, subst, inl, inr, if◌then◌else◌, arith}
use Rattle.std.specs.Str.{bytes_eq}
use Rattle.std.proofs.lemmas.Option.{slice_get_within}
use Rattle.std.proofs.lemmas.Slice.Eq.{bytes_eq-Decides}
use Rattle.go_base.specs.Lists.{Has}
use Rattle.go_rules.proofs.OneKind.{no_truth}
use Rattle.go_typings.proofs.Cells.{either, if_false, if_true, none_some, some_once}
use Rattle.go_typings.specs.Sources.{Import, PackageSource, SourceFile, imports_in}
use Rattle.go_level_laws.specs.Levels.{AreLevels, ComeInOrder, NeedsOther, Rises}

-- ---- whether a package needs a path

imports_need : List Import → List ℕ → Bool
imports_need [] path = false
imports_need (i ∷ is) path = (i.is_found && bytes_eq i.path path) || imports_need is path

files_need : List SourceFile → List ℕ → Bool
files_need [] path = false
files_need (f ∷ fs) path = imports_need f.imports path || files_need fs path

or_either : (a b : Bool) → (a || b) ≡ true → (a ≡ true) ⊎ (b ≡ true)
or_either true b e = inl refl
or_either false b e = inr e

or_first : (a b : Bool) → a ≡ true → (a || b) ≡ true
or_first true b e = refl
or_first false b e = absurd (no_truth (sym e))

or_last : (a b : Bool) → b ≡ true → (a || b) ≡ true
or_last true b e = refl
or_last false b e = e

and_both : (a b : Bool) → (a && b) ≡ true → (a ≡ true) × (b ≡ true)
and_both true b e = (refl, e)
and_both false b e = absurd (no_truth (sym e))

import_told : (is : List Import) (path : List ℕ) → imports_need is path ≡ true → (i : Import) × Has is i × (i.is_found ≡ true) × (i.path ≡ path)
unfolding imports_need
import_told [] path e = absurd (no_truth (sym e))
import_told (i ∷ is) path e = elim (or_either (i.is_found && bytes_eq i.path path) (imports_need is path) e) [
  | inl h ↦ (let p = and_both i.is_found (bytes_eq i.path path) h in (i, inl refl, p.0, (bytes_eq-Decides i.path path).0 p.1))
  | inr h ↦ (let r = import_told is path h in (r.0, inr r.1, r.2, r.3))
]

told_import : (is : List Import) (path : List ℕ) (i : Import) → Has is i → i.is_found ≡ true → i.path ≡ path → imports_need is path ≡ true
unfolding imports_need
told_import [] path i h e f = absurd h
told_import (j ∷ is) path i (inl s) e f =
    or_first (j.is_found && bytes_eq j.path path) (imports_need is path)
    (subst (λ (z : Import). (z.is_found && bytes_eq z.path path) ≡ true) (sym s) (ap (λ b. b && bytes_eq i.path path) e ∙ (bytes_eq-Decides i.path path).1 f))
told_import (j ∷ is) path i (inr h) e f = or_last (j.is_found && bytes_eq j.path path) (imports_need is path) (told_import is path i h e f)

files_told : (fs : List SourceFile) (path : List ℕ) → files_need fs path ≡ true → (file : ℕ) × (i : Import) × Has (imports_in (slice_get fs file)) i × (i.is_found ≡ true) × (i.path ≡ path)
unfolding files_need
files_told [] path e = absurd (no_truth (sym e))
files_told (f ∷ fs) path e = elim (or_either (imports_need f.imports path) (files_need fs path) e) [
  | inl h ↦ (let r = import_told f.imports path h in (0, r.0, r.1, r.2, r.3))
  | inr h ↦ (let r = files_told fs path h in (suc r.0, r.1, r.2, r.3, r.4))
]

told_files : (fs : List SourceFile) (path : List ℕ) (file : ℕ) (i : Import) → Has (imports_in (slice_get fs file)) i → i.is_found ≡ true → i.path ≡ path → files_need fs path ≡ true
unfolding files_need
told_files [] path zero i h e f = absurd h
told_files [] path (suc n) i h e f = absurd h
told_files (g ∷ fs) path zero i h e f = or_first (imports_need g.imports path) (files_need fs path) (told_import g.imports path i h e f)
told_files (g ∷ fs) path (suc n) i h e f = or_last (imports_need g.imports path) (files_need fs path) (told_files fs path n i h e f)

-- ---- the greatest of numbers

greatest : List PackageSource → (PackageSource → ℕ) → ℕ
greatest [] f = 0
greatest (v ∷ vs) f = max (f v) (greatest vs f)

at_most : (vs : List PackageSource) (f : PackageSource → ℕ) (m : ℕ) (v : PackageSource) → slice_get vs m ≡ Some v → f v ≤ greatest vs f
unfolding greatest
at_most [] f m v e = none_some (slice_get [] m) v refl e
at_most (w ∷ vs) f zero v e = let s = ap f (some_once w v e) in omega (arith, s)
at_most (w ∷ vs) f (suc m) v e = let r = at_most vs f m v e in omega (arith, r)

larger : (a b : ℕ) → (max a b ≡ a) ⊎ (max a b ≡ b)
larger a b = grind (arith)

attained : (vs : List PackageSource) (f : PackageSource → ℕ) → (greatest vs f ≡ 0) ⊎ ((m : ℕ) × (v : PackageSource) × (slice_get vs m ≡ Some v) × (greatest vs f ≡ f v))
unfolding greatest
attained [] f = inl refl
attained (w ∷ vs) f = elim (larger (f w) (greatest vs f)) [
  | inl e ↦ inr (0, w, refl, e)
  | inr e ↦ elim (attained vs f) [ inl z ↦ inl (e ∙ z) | inr r ↦ inr (suc r.0, r.1, r.2, e ∙ r.3) ]
]

greatest_same : (vs : List PackageSource) (f g : PackageSource → ℕ) → ((m : ℕ) (v : PackageSource) → slice_get vs m ≡ Some v → f v ≡ g v) → greatest vs f ≡ greatest vs g
unfolding greatest
greatest_same [] f g h = refl
greatest_same (w ∷ vs) f g h = let e = h 0 w refl in let r = greatest_same vs f g (λ m v i. h (suc m) v i) in λ i. max (e i) (r i)

-- ---- levels

module _ (us : List PackageSource) (rises : Rises us (λ n. n)) where
  -- how high a package stands, where so many levels may be below it
  above_by : (PackageSource → ℕ) → PackageSource → PackageSource → ℕ
  above_by h u v = if files_need u.files v.path then suc (h v) else 0

  height : ℕ → PackageSource → ℕ
  height zero u = 0
  height (suc k) u = greatest us (above_by (height k) u)

  lower : (n m : ℕ) (u v : PackageSource) → slice_get us n ≡ Some u → slice_get us m ≡ Some v → files_need u.files v.path ≡ true → m < n
  lower n m u v e f h = rises n m (u, e, (v, f, files_told u.files v.path h))

  same_height : (k l n : ℕ) (u : PackageSource) → slice_get us n ≡ Some u → n < k → n < l → height k u ≡ height l u
  unfolding height above_by
  same_height zero l n u e i j = absurd (omega (arith, i))
  same_height (suc k) zero n u e i j = absurd (omega (arith, j))
  same_height (suc k) (suc l) n u e i j = greatest_same us (above_by (height k) u) (above_by (height l) u) (λ m v f. elim (either (files_need u.files v.path)) [
    | inl b ↦ (
        let low = lower n m u v e f b in
        ap (λ h. if files_need u.files v.path then suc h else 0) (same_height k l m v f (omega (arith, low, i)) (omega (arith, low, j)))
        )
    | inr b ↦ if_false (files_need u.files v.path) (suc (height k v)) 0 b ∙ sym (if_false (files_need u.files v.path) (suc (height l v)) 0 b)
  ])

  level_at : Option PackageSource → ℕ
  level_at None = 0
  level_at (Some u) = height (length us) u

  level : ℕ → ℕ
  level n = level_at (slice_get us n)

  level_is : (k n : ℕ) (u : PackageSource) → slice_get us n ≡ Some u → n < k → level n ≡ height k u
  unfolding level level_at
  level_is k n u e i = ap level_at e ∙ same_height (length us) k n u e (slice_get_within us n u e) i

  step : (n : ℕ) (u : PackageSource) → slice_get us n ≡ Some u → level n ≡ greatest us (above_by (height n) u)
  unfolding height
  step n u e = level_is (suc n) n u e (omega arith)

  over_lower : (n m : ℕ) (u v : PackageSource) → slice_get us n ≡ Some u → slice_get us m ≡ Some v → files_need u.files v.path ≡ true → above_by (height n) u v ≡ suc (level m)
  unfolding above_by
  over_lower n m u v e f b = if_true (files_need u.files v.path) (suc (height n v)) 0 b ∙ ap suc (sym (level_is n m v f (lower n m u v e f b)))

  rising : Rises us level
  rising n m k =
      let b = told_files k.0.files k.2.0.path k.2.2.0 k.2.2.1 k.2.2.2 k.2.2.3 k.2.2.4 in
      let most = at_most us (above_by (height n) k.0) m k.2.0 k.2.1 in
      let is = over_lower n m k.0 k.2.0 k.1 k.2.1 b in
      let whole = step n k.0 k.1 in
      omega (arith, most, is, whole)

  nothing_above : (n : ℕ) (u v : PackageSource) → files_need u.files v.path ≡ false → above_by (height n) u v ≡ 0
  unfolding above_by
  nothing_above n u v b = if_false (files_need u.files v.path) (suc (height n v)) 0 b

  next_level : (n : ℕ) (u : PackageSource) → slice_get us n ≡ Some u → (level n ≡ 0) ⊎ ((m : ℕ) × NeedsOther us n m × (level n ≡ suc (level m)))
  next_level n u e = elim (attained us (above_by (height n) u)) [
    | inl z ↦ inl (step n u e ∙ z)
    | inr r ↦ elim (either (files_need u.files r.1.path)) [
      | inl b ↦ inr (r.0, (u, e, (r.1, r.2, files_told u.files r.1.path b)), step n u e ∙ r.3 ∙ over_lower n r.0 u r.1 e r.2 b)
      | inr b ↦ inl (step n u e ∙ r.3 ∙ nothing_above n u r.1 b)
    ]
  ]

  is_there : (vs : List PackageSource) (n : ℕ) → n < length vs → (u : PackageSource) × (slice_get vs n ≡ Some u)
  is_there [] n l = absurd (omega (arith, l))
  is_there (v ∷ vs) zero l = (v, refl)
  is_there (v ∷ vs) (suc n) l = is_there vs n (omega (arith, l))

  levels_are : AreLevels us level
  levels_are = record { above = rising; least = λ n l. let p = is_there us n l in next_level n p.0 p.1 }

pub some_levels : (us : List PackageSource) → ComeInOrder us → (level : ℕ → ℕ) × AreLevels us level
some_levels us o = (level us o.rises, levels_are us o.rises)
