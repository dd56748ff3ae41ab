-- The world of the packages that are typed so far holds each of them under its path, and nothing else.
use Rattle.std.proofs.Common.{◌≡◌, ◌≢◌, ◌⊎◌, ℕ, zero, suc, List, [], ◌∷◌, Option, Some, None, map, slice_get, refl, sym, ap, ◌∙◌, subst, inl, inr, if◌then◌else◌}
use lib.Dec.{eqb-suc-suc, eqb-suc-zero, eqb-zero-suc}
use Rattle.std.specs.Str.{bytes_eq}
use Rattle.std.proofs.lemmas.Slice.Eq.{bytes_eq-Decides}
use Rattle.go_base.specs.Keys.{first_with, placed}
use Rattle.go_base.specs.Lists.{Has}
use Rattle.go_model.proofs.MoreWorlds.{first_placed}
use Rattle.go_model.specs.declared.types.package.Package.{Package}
use Rattle.go_model.specs.worlds.Worlds.{Packages, path_of}
use Rattle.go_unit_worlds.specs.go_std_worlds.StdSources.{HaveOwnPaths, source_path}
use Rattle.go_unit_worlds.proofs.go_typed_packages_proofs.Lists.{absent, own_placed}
use Rattle.go_typings.proofs.Cells.{either, none_some, some_once}
use Rattle.go_typings.specs.PackageWorlds.{Outcome, typed, refused, blocked, with_outcome}
use Rattle.go_typings.specs.Sources.{PackageSource}
use Rattle.go_level_laws.specs.ByLevels.{Outcomes, with_known, with_one, world_from}
use Rattle.go_level_laws.proofs.Places.{HasPath, outcomes_twice, placed_or_before}

-- what became of the packages has their paths
abbrev pub HavePathsOf : List PackageSource → Outcomes → Type 0
HavePathsOf us a = (n : ℕ) (u : PackageSource) (x : Outcome) → slice_get us n ≡ Some u → a n ≡ Some x → HasPath u x

abbrev pub behind : Outcomes → Outcomes
behind a n = a (suc n)

pub paths_behind : (u : PackageSource) (us : List PackageSource) (a : Outcomes) → HavePathsOf (u ∷ us) a → HavePathsOf us (behind a)
paths_behind u us a h n v x e f = h (suc n) v x e f

pub at_path : (us : List PackageSource) (n : ℕ) (u : PackageSource) → slice_get us n ≡ Some u → Has (map source_path us) u.path
at_path [] n u e = none_some (slice_get [] n) u refl e
at_path (v ∷ us) zero u e = inl (ap source_path (some_once v u e))
at_path (v ∷ us) (suc n) u e = inr (at_path us n u e)

-- a package behind another one has another path
other_path : (v : PackageSource) (us : List PackageSource) (n : ℕ) (u : PackageSource) → HaveOwnPaths (v ∷ us) → slice_get us n ≡ Some u → v.path ≢ u.path
other_path v us n u o e same = o.0 (subst (Has (map source_path us)) (sym same) (at_path us n u e))

-- a path is that of one number
pub one_number : (us : List PackageSource) → HaveOwnPaths us → (m n : ℕ) (u v : PackageSource) → slice_get us m ≡ Some u → slice_get us n ≡ Some v → u.path ≡ v.path → m ≡ n
one_number [] o m n u v e f s = none_some (slice_get [] m) u refl e
one_number (w ∷ us) o zero zero u v e f s = refl
one_number (w ∷ us) o zero (suc n) u v e f s = absurd (other_path w us n v o f (ap source_path (some_once w u e) ∙ s))
one_number (w ∷ us) o (suc m) zero u v e f s = absurd (other_path w us m u o e (ap source_path (some_once w v f) ∙ sym s))
one_number (w ∷ us) o (suc m) (suc n) u v e f s = ap suc (one_number us o.1 m n u v e f s)

-- ---- one more

swap_known : (w : Packages) (u v : PackageSource) (x : Outcome) (c : Option Outcome) → HasPath u x → ((y : Outcome) → c ≡ Some y → HasPath v y) → u.path ≢ v.path → with_known (with_outcome w u x) v c ≡ with_outcome (with_known w v c) u x
swap_known w u v x None h k n = refl
swap_known w u v x (Some y) h k n = outcomes_twice w u v x y h (k y refl) n

-- what is added first may be added last
pub added_late : (w : Packages) (u : PackageSource) (x : Outcome) (us : List PackageSource) (a : Outcomes) → HasPath u x → (Has (map source_path us) u.path → ⊥) → HavePathsOf us a → world_from (with_outcome w u x) us a ≡ with_outcome (world_from w us a) u x
added_late w u x [] a h n k = refl
added_late w u x (v ∷ us) a h n k =
    ap (λ z. world_from z us (behind a)) (swap_known w u v x (a 0) h (λ y e. k 0 v y refl e) (λ e. n (inl (sym e))))
    ∙ added_late (with_known w v (a 0)) u x us (behind a) h (λ i. n (inr i)) (paths_behind v us a k)

pub same_world : (w : Packages) (us : List PackageSource) (a b : Outcomes) → ((n : ℕ) → a n ≡ b n) → world_from w us a ≡ world_from w us b
same_world w us a b e = ap (world_from w us) (λ i n. e n i)

first_more : (x : Outcome) (a : Outcomes) (m : ℕ) → with_one 0 x a (suc m) ≡ a (suc m)
first_more x a m = ap (λ b. if b then Some x else a (suc m)) (eqb-suc-zero m)

later_first : (n : ℕ) (x : Outcome) (a : Outcomes) → with_one (suc n) x a 0 ≡ a 0
later_first n x a = ap (λ b. if b then Some x else a 0) (eqb-zero-suc n)

later_more : (n : ℕ) (x : Outcome) (a : Outcomes) (m : ℕ) → with_one (suc n) x a (suc m) ≡ with_one n x (behind a) m
later_more n x a m = ap (λ b. if b then Some x else a (suc m)) (eqb-suc-suc m n)

-- one of which nothing was known is added to the others
pub added : (w : Packages) (us : List PackageSource) (a : Outcomes) (n : ℕ) (u : PackageSource) (x : Outcome) → HaveOwnPaths us → HavePathsOf us a → slice_get us n ≡ Some u → a n ≡ None → HasPath u x
    → world_from w us (with_one n x a) ≡ with_outcome (world_from w us a) u x
added w [] a n u x o h e f k = none_some (slice_get [] n) u refl e
added w (v ∷ us) a zero u x o h e f k =
    let is = some_once v u e in
    same_world (with_outcome w v x) us (behind (with_one 0 x a)) (behind a) (first_more x a)
    ∙ added_late w v x us (behind a) (subst (λ z. HasPath z x) (sym is) k) o.0 (paths_behind v us a h)
    ∙ ap (λ z. with_outcome (world_from w us (behind a)) z x) is
    ∙ ap (λ c. with_outcome (world_from (with_known w v c) us (behind a)) u x) (sym f)
added w (v ∷ us) a (suc n) u x o h e f k =
    ap (λ c. world_from (with_known w v c) us (behind (with_one (suc n) x a))) (later_first n x a)
    ∙ same_world (with_known w v (a 0)) us (behind (with_one (suc n) x a)) (with_one n x (behind a)) (later_more n x a)
    ∙ added (with_known w v (a 0)) us (behind a) n u x o.1 (paths_behind v us a h) e f k

-- ---- what is found

abbrev pub found_in : Packages → List ℕ → Option Package
found_in w path = first_with path_of w.packages path

other_found : (w : Packages) (v : PackageSource) (c : Option Outcome) (path : List ℕ) → ((y : Outcome) → c ≡ Some y → HasPath v y) → v.path ≢ path → found_in (with_known w v c) path ≡ found_in w path
other_found w v None path h n = refl
other_found w v (Some (typed q)) path h n = first_placed path_of q w.packages path (elim (either (bytes_eq q.path path)) [
  | inl e ↦ absurd (n (sym (h (typed q) refl) ∙ (bytes_eq-Decides q.path path).0 e))
  | inr e ↦ e
])
other_found w v (Some (refused r)) path h n = refl
other_found w v (Some blocked) path h n = refl

-- under a path of none of them it is what was there
found_first : (w : Packages) (us : List PackageSource) (a : Outcomes) (path : List ℕ) → HavePathsOf us a → (Has (map source_path us) path → ⊥) → found_in (world_from w us a) path ≡ found_in w path
found_first w [] a path h n = refl
found_first w (v ∷ us) a path h n = found_first (with_known w v (a 0)) us (behind a) path (paths_behind v us a h) (λ i. n (inr i)) ∙ other_found w v (a 0) path (λ y e. h 0 v y refl e) (λ e. n (inl e))

-- the packages of which none stands in the world
abbrev AreNew : Packages → List PackageSource → Type 0
AreNew w us = (n : ℕ) (u : PackageSource) → slice_get us n ≡ Some u → found_in w u.path ≡ None

-- each that is typed is found
pub held_from : (w : Packages) (us : List PackageSource) (a : Outcomes) (n : ℕ) (u : PackageSource) (p : Package) → HaveOwnPaths us → HavePathsOf us a → AreNew w us → slice_get us n ≡ Some u → a n ≡ Some (typed p) → found_in (world_from w us a) u.path ≡ Some p
held_from w [] a n u p o h new e f = none_some (slice_get [] n) u refl e
held_from w (v ∷ us) a zero u p o h new e f =
    let is = some_once v u e in
    let own : p.path ≡ v.path = h 0 v (typed p) refl f in
    let fresh : Has (map path_of w.packages) p.path → ⊥ = λ i. absent path_of w.packages v.path (new 0 v refl) (subst (Has (map path_of w.packages)) own i) in
    ap (found_in (world_from w (v ∷ us) a)) (ap source_path (sym is))
    ∙ found_first (with_known w v (a 0)) us (behind a) v.path (paths_behind v us a h) o.0
    ∙ ap (λ c. found_in (with_known w v c) v.path) f
    ∙ ap (first_with path_of (placed path_of p w.packages)) (sym own)
    ∙ own_placed path_of p w.packages fresh
held_from w (v ∷ us) a (suc n) u p o h new e f =
    held_from (with_known w v (a 0)) us (behind a) n u p o.1 (paths_behind v us a h)
    (λ m x g. other_found w v (a 0) x.path (λ y i. h 0 v y refl i) (other_path v us m x o g) ∙ new (suc m) x g) e f

-- one of the packages, of this number, is typed as this one
pub record TypedAt (us : List PackageSource) (a : Outcomes) (path : List ℕ) (p : Package) : Type 0 where
  pub number : ℕ
  pub source : PackageSource
  pub is : slice_get us number ≡ Some source
  pub typed : a number ≡ Some (typed p)
  pub place : source.path ≡ path

known_found : (w : Packages) (v : PackageSource) (c : Option Outcome) (path : List ℕ) (p : Package) → ((y : Outcome) → c ≡ Some y → HasPath v y) → found_in (with_known w v c) path ≡ Some p → ((c ≡ Some (typed p)) × (v.path ≡ path)) ⊎ (found_in w path ≡ Some p)
known_found w v None path p h e = inr e
known_found w v (Some (typed q)) path p h e = elim (placed_or_before path_of q w.packages path p e) [
  | inl own ↦ inl (ap (λ z. Some (typed z)) own.1, sym (h (typed q) refl) ∙ own.0)
  | inr old ↦ inr old
]
known_found w v (Some (refused r)) path p h e = inr e
known_found w v (Some blocked) path p h e = inr e

-- what is found is one that is typed, or was there
pub found_from : (w : Packages) (us : List PackageSource) (a : Outcomes) (path : List ℕ) (p : Package) → HavePathsOf us a → found_in (world_from w us a) path ≡ Some p → TypedAt us a path p ⊎ (found_in w path ≡ Some p)
found_from w [] a path p h e = inr e
found_from w (v ∷ us) a path p h e = elim (found_from (with_known w v (a 0)) us (behind a) path p (paths_behind v us a h) e) [
  | inl t ↦ inl (record { number = suc t.number; source = t.source; is = t.is; typed = t.typed; place = t.place })
  | inr f ↦ elim (known_found w v (a 0) path p (λ y i. h 0 v y refl i) f) [
    | inl own ↦ inl (record { number = 0; source = v; is = refl; typed = own.0; place = own.1 })
    | inr old ↦ inr old
  ]
]
