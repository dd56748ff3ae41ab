-- What stands before a unit in canonical order: all that it needs, and none of its path.
use Rattle.std.proofs.Common.{◌≡◌, ℕ, zero, suc, ◌≤◌, Bool, true, false, List, [], ◌∷◌, ◌++◌, length, map, take, None, slice_get, refl, sym, ap, ◌∙◌, subst, ◌⊎◌, inl, inr, arith, length-append}
use Rattle.std.proofs.lemmas.Slice.Eq.{bytes_eq-Decides}
use Rattle.std.specs.Str.{bytes_eq}
use mathlib.Core.Bool.{true≢false}
use mathlib.Core.Logic.{∥∥₁_elim}
use Rattle.go_base.specs.Keys.{first_with}
use Rattle.go_base.specs.Lists.{Has}
use Rattle.go_base.proofs.Lists.{take_past}
use Rattle.go_base.proofs.Ordered.{first_none}
use Rattle.go_imports.proofs.Members.{below_or}
use Rattle.go_model.specs.declared.types.package.Package.{Package}
use Rattle.go_model.specs.worlds.Worlds.{Packages, path_of}
use Rattle.go_sources.specs.UnitSources.{file_of, import_of, source_of}
use Rattle.go_exposed.specs.OfferedWorlds.{IsWorldOf}
use Rattle.go_typings.specs.PackageWorlds.{AreTyped}
use Rattle.go_typings.specs.Sources.{Import, imports_in, imports_of}
use Rattle.go_units.proofs.NeededPaths.{found_needed}
use Rattle.go_units.specs.UnitFacts.{needed_by}
use Rattle.go_units.specs.UnitOrders.{AreInOrder, InOrder, none, next, IsNextUnit, Stands}
use Rattle.go_units.specs.declared.unit.«Unit».{«Unit» as PackageUnit}
use Rattle.go_units.specs.declared.unit.UnitFile.{UnitFile}
use Rattle.go_units.specs.declared.unit.UsedImport.{UsedImport}
use Rattle.go_work.specs.Answers.{sources}
use Rattle.go_work.proofs.TypedUnits.{world_paths, world_paths_back, written_path}

-- ---- the parts of an order

head_same : (x y : PackageUnit) (xs ys : List PackageUnit) → x ∷ xs ≡ y ∷ ys → (x ≡ y) × (xs ≡ ys)
head_same x y xs ys e = (cc, cc)

no_last : (xs : List PackageUnit) (u : PackageUnit) → [] ≡ xs ++ u ∷ [] → ⊥
no_last [] u e = absurd (cc)
no_last (x ∷ xs) u e = absurd (cc)

last_same : (xs ys : List PackageUnit) (u v : PackageUnit) → xs ++ u ∷ [] ≡ ys ++ v ∷ [] → (xs ≡ ys) × (u ≡ v)
last_same [] [] u v e = (refl, (head_same u v [] [] e).0)
last_same [] (y ∷ ys) u v e = absurd (no_last ys v (head_same u y [] (ys ++ v ∷ []) e).1)
last_same (x ∷ xs) [] u v e = absurd (no_last xs u (sym (head_same x v (xs ++ u ∷ []) [] e).1))
last_same (x ∷ xs) (y ∷ ys) u v e =
    let h = head_same x y (xs ++ u ∷ []) (ys ++ v ∷ []) e in
    let r = last_same xs ys u v h.1 in
    ((λ i. h.0 i ∷ r.0 i), r.1)

take_front : (k : ℕ) (xs ys : List PackageUnit) → k ≤ length xs → take k (xs ++ ys) ≡ take k xs
take_front zero xs ys h = refl
take_front (suc k) [] ys h = absurd (omega (arith, h))
take_front (suc k) (x ∷ xs) ys h = ap (λ zs. x ∷ zs) (take_front k xs ys (omega (arith, h)))

take_none : (k : ℕ) → ◌≡◌ {A = List PackageUnit} (take k []) []
take_none zero = refl
take_none (suc k) = refl

take_through : (front rest : List PackageUnit) (u : PackageUnit) → take (suc (length front)) (front ++ u ∷ rest) ≡ front ++ u ∷ []
take_through [] rest u = refl
take_through (x ∷ front) rest u = ap (λ ys. x ∷ ys) (take_through front rest u)

module _ (among : PackageUnit → Type 0) where
  order_front : {xs : List PackageUnit} → InOrder among xs → (k : ℕ) → InOrder among (take k xs)
  order_front none k = subst (InOrder among) (sym (take_none k)) none
  order_front (next {standing = s} {u = u} o i) k = elim (below_or (length s) k) [
    | inl more ↦ subst (InOrder among) (sym (take_past k (s ++ u ∷ []) (omega (arith, more, length-append s (u ∷ []))))) (next o i)
    | inr within ↦ subst (InOrder among) (sym (take_front k s (u ∷ []) within)) (order_front o k)
  ]

  order_last : {xs : List PackageUnit} → InOrder among xs → (s : List PackageUnit) (u : PackageUnit) → xs ≡ s ++ u ∷ [] → IsNextUnit among s u
  order_last none s u e = absurd (no_last s u e)
  order_last (next {standing = t} {u = v} o i) s u e =
      let p = last_same t s v u e in
      subst (λ (q : List PackageUnit × PackageUnit). IsNextUnit among q.0 q.1) (λ j. (p.0 j, p.1 j)) i

  next_at : (us front rest : List PackageUnit) (u : PackageUnit) → InOrder among us → us ≡ front ++ u ∷ rest → IsNextUnit among front u
  next_at us front rest u o parts = order_last (order_front o (suc (length front))) front u (ap (take (suc (length front))) parts ∙ take_through front rest u)

-- ---- what it says of paths

pub never : IsProp ⊥
never a b = absurd a

pub has_or : (xs : List (List ℕ)) (k : List ℕ) → Has xs k ⊎ (Has xs k → ⊥)
has_or [] k = inr (λ h. h)
has_or (x ∷ xs) k = told (bytes_eq x k) refl (has_or xs k)
  where
    told : (b : Bool) → bytes_eq x k ≡ b → Has xs k ⊎ (Has xs k → ⊥) → Has (x ∷ xs) k ⊎ (Has (x ∷ xs) k → ⊥)
    told true e r = inl (inl ((bytes_eq-Decides x k).0 e))
    told false e (inl h) = inl (inr h)
    told false e (inr n) = inr (λ h. elim h [ inl s ↦ true≢false (sym ((bytes_eq-Decides x k).1 s) ∙ e) | inr j ↦ n j ])

standing_has : (us : List PackageUnit) (path : List ℕ) → Stands us path → Has (map written_path (sources us)) path
standing_has [] path s = absurd s.1
standing_has (v ∷ us) path s = elim s.1 [
  | inl e ↦ inl (ap (λ (w : PackageUnit). w.path) e ∙ s.2)
  | inr k ↦ inr (standing_has us path (s.0, k, s.2))
]

has_standing : (us : List PackageUnit) (path : List ℕ) → Has (map written_path (sources us)) path → Stands us path
has_standing [] path h = absurd h
has_standing (v ∷ us) path h = elim h [
  | inl e ↦ (v, inl refl, e)
  | inr k ↦ let s = has_standing us path k in (s.0, inr s.1, s.2)
]

-- an import that a file of the unit uses and that is found is one that it needs
file_has : (is : List UsedImport) (i : Import) → Has (map import_of is) i → (j : UsedImport) × Has is j × (import_of j ≡ i)
file_has [] i h = absurd h
file_has (x ∷ xs) i h = elim h [ inl e ↦ (x, inl refl, e) | inr k ↦ let r = file_has xs i k in (r.0, inr r.1, r.2) ]

import_there : (fs : List UnitFile) (file : ℕ) (i : Import) → Has (imports_in (slice_get (map file_of fs) file)) i → (f : UnitFile) × Has fs f × Has (map import_of f.imports) i
import_there [] zero i h = absurd h
import_there [] (suc n) i h = absurd h
import_there (f ∷ fs) zero i h = (f, inl refl, h)
import_there (f ∷ fs) (suc n) i h = let r = import_there fs n i h in (r.0, inr r.1, r.2)

needs_import : (u : PackageUnit) (file : ℕ) (i : Import) → Has (imports_of (source_of u) file) i → i.is_found ≡ true → Has (needed_by u.files) i.path
needs_import u file i h found =
    let f = import_there u.files file i h in
    let j = file_has f.0.imports i f.2 in
    found_needed u.files i.path (f.0, f.1, (j.0, j.1, (ap (λ (x : Import). x.is_found) j.2 ∙ found, ap (λ (x : Import). x.path) j.2)))

module _ (bits : ℕ) (us : List PackageUnit) (ordered : ∥ AreInOrder us ∥₁) (front rest : List PackageUnit) (u : PackageUnit) (parts : us ≡ front ++ u ∷ rest) (w : Packages) (typed : IsWorldOf bits (sources front) w) where
  -- what the unit imports is typed
  pub imports_typed : u.needs ≡ needed_by u.files → AreTyped w (source_of u)
  imports_typed needed file i h found = elim (has_or (map written_path (sources front)) i.path) [
    | inl k ↦ world_paths bits (sources front) w typed i.path k
    | inr none_there ↦ absurd (∥∥₁_elim ordered never (λ o. none_there (standing_has front i.path ((next_at (Has us) us front rest u o parts).met i.path (subst (λ ps. Has ps i.path) (sym needed) (needs_import u file i h found))))))
  ]

  not_there : Has (map path_of w.packages) u.path → ⊥
  not_there h = ∥∥₁_elim ordered never (λ o. (next_at (Has us) us front rest u o parts).fresh (has_standing front u.path (world_paths_back bits (sources front) w typed u.path h)))

  named : (ps : List Package) (x : Package) → Has ps x → Has (map path_of ps) x.path
  named [] x h = absurd h
  named (p ∷ ps) x h = elim h [ inl e ↦ inl (ap path_of e) | inr k ↦ inr (named ps x k) ]

  -- no package of its path is there
  pub unit_absent : first_with path_of w.packages u.path ≡ None
  unit_absent = first_none path_of w.packages u.path (λ x h. told (bytes_eq x.path u.path) x refl h)
    where
      told : (b : Bool) (x : Package) → bytes_eq x.path u.path ≡ b → Has w.packages x → bytes_eq x.path u.path ≡ false
      told true x e h = absurd (not_there (subst (Has (map path_of w.packages)) ((bytes_eq-Decides x.path u.path).0 e) (named w.packages x h)))
      told false x e h = e
