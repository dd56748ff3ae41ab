-- What is told as taken is taken.
use Rattle.std.proofs.Common.{◌≡◌, ◌⊎◌, ℕ, zero, suc, Bool, true, false, List, [], ◌∷◌, ◌++◌, map, refl, sym, ap, ◌∙◌, subst, inl, inr}
use Rattle.std.specs.Prelude.{not, slice_get}
use Rattle.std.specs.List.{list_all}
use Rattle.go_base.specs.Lists.{Has}
use Rattle.go_typings.proofs.Cells.{either, if_false, if_true}
use Rattle.go_typings.proofs.ReachedRegion.{or_second}
use Rattle.go_typings.specs.Sources.{Import, PackageSource, SourceFile, imports_in}
use Rattle.go_taken_packages.proofs.KeptPaths.{mapped, once_at}
use Rattle.go_taken_packages.proofs.SoFar.{among, among_has, first_of, second_of}
use Rattle.go_taken_packages.specs.InOrder.{HavePathsOfTheirOwn}
use Rattle.go_taken_packages.specs.TakenPaths.{AreTaken, ImportsAreOf}
use Rattle.go_taken_packages.specs.ToldPackages.{Told, imports_are_among, is_among, is_missing_or_among, is_taken, taken_paths, told_source, with_taken}

-- ---- one package

all_pass : {A : Type 0} (test : A → Bool) (xs : List A) (x : A) → list_all test xs ≡ true → Has xs x → test x ≡ true
all_pass test [] x e h = absurd h
all_pass test (y ∷ xs) x e (inl s) = ap test (sym s) ∙ first_of (test y) (list_all test xs) e
all_pass test (y ∷ xs) x e (inr h) = all_pass test xs x (second_of (test y) (list_all test xs) e) h

not_missing : (b : Bool) → b ≡ true → not b ≡ false
not_missing true e = refl
not_missing false e = sym e

files_pass : (paths : List (List ℕ)) (fs : List SourceFile) (file : ℕ) (i : Import) → list_all (imports_are_among paths) fs ≡ true → Has (imports_in (slice_get fs file)) i → i.is_found ≡ true → is_among paths i.path ≡ true
files_pass paths [] file i e h found = absurd h
files_pass paths (f ∷ fs) zero i e h found =
    or_second (not i.is_found) (is_among paths i.path) (not_missing i.is_found found) (all_pass (is_missing_or_among paths) f.imports i (first_of (imports_are_among paths f) (list_all (imports_are_among paths) fs) e) h)
files_pass paths (f ∷ fs) (suc file) i e h found = files_pass paths fs file i (second_of (imports_are_among paths f) (list_all (imports_are_among paths) fs) e) h found

pub taken_as : (paths : List (List ℕ)) (t : Told) → is_taken paths t ≡ true → (t.same ≡ true) × ImportsAreOf (is_among paths) t.source
taken_as paths t e = (
  first_of t.same (list_all (imports_are_among paths) t.source.files) e,
  λ file i h found. files_pass paths t.source.files file i (second_of t.same (list_all (imports_are_among paths) t.source.files) e) h found,
)

-- ---- all of a list

pub one_more : (paths : List (List ℕ)) (ts : List Told) (t : Told) → taken_paths paths (ts ++ t ∷ []) ≡ with_taken (taken_paths paths ts) t
one_more paths [] t = refl
one_more paths (x ∷ ts) t = one_more (with_taken paths x) ts t

with_own : (paths : List (List ℕ)) (t : Told) → is_taken paths t ≡ true → with_taken paths t ≡ t.source.path ∷ paths
with_own paths t e = if_true (is_taken paths t) (t.source.path ∷ paths) paths e

with_none : (paths : List (List ℕ)) (t : Told) → is_taken paths t ≡ false → with_taken paths t ≡ paths
with_none paths t e = if_false (is_taken paths t) (t.source.path ∷ paths) paths e

grows_one : (paths : List (List ℕ)) (t : Told) (path : List ℕ) → Has paths path → Has (with_taken paths t) path
grows_one paths t path h = elim (either (is_taken paths t)) [
  | inl e ↦ subst (λ (ps : List (List ℕ)). Has ps path) (sym (with_own paths t e)) (inr h)
  | inr e ↦ subst (λ (ps : List (List ℕ)). Has ps path) (sym (with_none paths t e)) h
]

grows : (ts : List Told) (paths : List (List ℕ)) (path : List ℕ) → Has paths path → Has (taken_paths paths ts) path
grows [] paths path h = h
grows (t ∷ ts) paths path h = grows ts (with_taken paths t) path (grows_one paths t path h)

-- one of the list is told as the same, and its imports that are found are of these paths
record IsToldAt (all : List (List ℕ)) (ts : List Told) (path : List ℕ) : Type 0 where
  pub told : Told
  pub here : Has ts told
  pub same : told.same ≡ true
  pub place : told.source.path ≡ path
  pub imports : ImportsAreOf (is_among all) told.source

later : (all : List (List ℕ)) (t : Told) (ts : List Told) (path : List ℕ) → IsToldAt all ts path → IsToldAt all (t ∷ ts) path
later all t ts path k = record { told = k.told; here = inr k.here; same = k.same; place = k.place; imports = k.imports }

told_at : (ts : List Told) (paths : List (List ℕ)) (path : List ℕ) → Has (taken_paths paths ts) path → Has paths path ⊎ IsToldAt (taken_paths paths ts) ts path
told_at [] paths path h = inl h
told_at (t ∷ ts) paths path h = elim (told_at ts (with_taken paths t) path h) [
  | inl k ↦ elim (either (is_taken paths t)) [
    | inl e ↦ elim (subst (λ (ps : List (List ℕ)). Has ps path) (with_own paths t e) k) [
      | inl s ↦ (let a = taken_as paths t e in inr (record {
        told = t;
        here = inl refl;
        same = a.0;
        place = s;
        imports = λ file i m found. among (taken_paths paths (t ∷ ts)) i.path (grows (t ∷ ts) paths i.path (among_has paths i.path (a.1 file i m found)));
      }))
      | inr j ↦ inl j
    ]
    | inr e ↦ inl (subst (λ (ps : List (List ℕ)). Has ps path) (with_none paths t e) k)
  ]
  | inr k ↦ inr (later (taken_paths paths (t ∷ ts)) t ts path k)
]

module _ (ts : List Told) (vs : List PackageSource) (own : HavePathsOfTheirOwn (map told_source ts)) (has : (t : Told) → Has ts t → t.same ≡ true → Has vs t.source) where
  abbrev all : List (List ℕ)
  all = taken_paths [] ts

  told : (path : List ℕ) → is_among all path ≡ true → IsToldAt all ts path
  told path e = elim (told_at ts [] path (among_has all path e)) [ inl h ↦ absurd h | inr k ↦ k ]

  pub are_taken : AreTaken (map told_source ts) vs (is_among all)
  are_taken = record {
    same = λ path e. (let k = told path e in record { source = k.told.source; here = mapped told_source ts k.told k.here; there = has k.told k.here k.same; place = k.place });
    imports = λ u h e. (
        let k = told u.path e in
        subst (ImportsAreOf (is_among all)) (once_at (map told_source ts) own.once k.told.source u (mapped told_source ts k.told k.here) h k.place) k.imports
        );
  }
