-- Where packages that count import such ones alone, and those that stand in both lists are written the same, their paths are taken. So the packages of
-- the standard library are the same in the worlds of both lists, as `shared_std` of go_std_worlds says, and where all count those that stand in both, as
-- `shared_packages` of go_unit_worlds says.
use Rattle.std.proofs.Common.{◌≡◌, ◌⊎◌, ℕ, Bool, true, false, ◌&&◌, ◌||◌, List, [], ◌∷◌, Some, map, refl, sym, ap, ◌∙◌, subst, inl, inr}
use Rattle.std.specs.Str.{bytes_eq}
use Rattle.std.proofs.lemmas.Slice.Eq.{bytes_eq-Decides}
use Rattle.go_base.specs.Keys.{first_with}
use Rattle.go_base.specs.Lists.{Has}
use Rattle.go_model.specs.declared.types.package.Package.{Package}
use Rattle.go_model.specs.worlds.Worlds.{Packages, path_of}
use Rattle.go_rules.proofs.OneKind.{no_truth}
use Rattle.go_typings.proofs.Cells.{either, none_some, some_once}
use Rattle.go_typings.proofs.ReachedRegion.{or_second}
use Rattle.go_typings.specs.PackageWorlds.{AreTyped, ComeAfterImports, over, typed}
use Rattle.go_typings.specs.Sources.{Import, PackageSource, imports_of}
use Rattle.go_exposed.specs.OfferedPackages.{IsOfferedAs}
use Rattle.go_exposed.specs.OfferedWorlds.{Becomes, IsWorldOf}
use Rattle.go_taken_packages.proofs.KeptPaths.{key_finds, once_at, rest_kept}
use Rattle.go_taken_packages.proofs.SameReach.{or_left, or_right}
use Rattle.go_taken_packages.proofs.SoFar.{among, among_has, both, first_of, second_of}
use Rattle.go_taken_packages.proofs.TakenOver.{offered, packages, typed_in}
use Rattle.go_taken_packages.proofs.WorldsInOrder.{in_order}
use Rattle.go_taken_packages.specs.InOrder.{HavePathsOfTheirOwn, source_path}
use Rattle.go_taken_packages.specs.TakenPaths.{AreTaken, ImportsAreOf}
use Rattle.go_taken_packages.specs.ToldPackages.{is_among}

-- ---- packages of a list by their paths

-- a package of the list that has the path
abbrev pub IsAt : List PackageSource → List ℕ → Type 0
IsAt us path = (u : PackageSource) × Has us u × (u.path ≡ path)

pub at_path : (us : List PackageSource) (path : List ℕ) → Has (map source_path us) path → IsAt us path
at_path [] path h = absurd h
at_path (u ∷ us) path (inl e) = (u, inl refl, e)
at_path (u ∷ us) path (inr h) = let q = at_path us path h in (q.0, inr q.1, q.2)

-- an import that is found is of one of the list, or of what comes before it
listed_import : (us : List PackageSource) (paths : List (List ℕ)) → ComeAfterImports paths us → (u : PackageSource) → Has us u → (file : ℕ) (i : Import) → Has (imports_of u file) i → i.is_found ≡ true → Has paths i.path ⊎ Has (map source_path us) i.path
listed_import [] paths a u h file i has found = absurd h
listed_import (v ∷ us) paths a u (inl e) file i has found = inl (a.0 file i (subst (λ (z : PackageSource). Has (imports_of z file) i) (sym e) has) found)
listed_import (v ∷ us) paths a u (inr h) file i has found = elim (listed_import us (v.path ∷ paths) a.1 u h file i has found) [
  | inl k ↦ elim k [ inl e ↦ inr (inl e) | inr j ↦ inl j ]
  | inr k ↦ inr (inr k)
]

module _ (bits : ℕ) (us : List PackageSource) (w : Packages) (own : HavePathsOfTheirOwn us) (k : IsWorldOf bits us w) where
  imported : (u : PackageSource) → Has us u → (file : ℕ) (i : Import) → Has (imports_of u file) i → i.is_found ≡ true → IsAt us i.path
  imported u h file i has found = let a = in_order bits us w k in elim (listed_import us [] (a.1).after u h file i has found) [ inl n ↦ absurd n | inr j ↦ at_path us i.path j ]

  -- what stands at a path is typed as one of the list
  pub written : (path : List ℕ) (p : Package) → first_with path_of w.packages path ≡ Some p → (u : PackageSource) × Has us u × (u.path ≡ path) × Becomes (over bits w) u (typed p)
  written path p e = elim (either (is_among (map source_path us) path)) [
    | inl f ↦ (
        let q = at_path us path (among_has (map source_path us) path f) in
        let t = typed_in bits us w own k q.0 q.1 in
        let is : t.0 ≡ p = some_once t.0 p (sym t.1.1 ∙ ap (first_with path_of w.packages) q.2 ∙ e) in
        (q.0, q.1, q.2, subst (λ (z : Package). Becomes (over bits w) q.0 (typed z)) is t.1.0)
        )
    | inr f ↦ none_some (first_with path_of w.packages path) p (rest_kept bits path k.become (λ h. no_truth (sym (among (map source_path us) path h) ∙ f))) e
  ]

  listed : (path : List ℕ) → Has (map path_of w.packages) path → IsAt us path
  listed path h = let f = key_finds path_of w.packages path h in let u = written path f.0 f.1 in (u.0, u.1, u.2)

-- ---- packages that count

module _ (counts : PackageSource → Bool) where
  -- one that counts has the path
  abbrev pub counts_at : List PackageSource → List ℕ → Bool
  counts_at [] path = false
  counts_at (u ∷ us) path = (counts u && bytes_eq u.path path) || counts_at us path

  at_has : (us : List PackageSource) (path : List ℕ) → counts_at us path ≡ true → (u : PackageSource) × Has us u × (u.path ≡ path) × (counts u ≡ true)
  at_has [] path e = absurd (no_truth (sym e))
  at_has (u ∷ us) path e = elim (either (counts u && bytes_eq u.path path)) [
    | inl f ↦ (u, inl refl, (bytes_eq-Decides u.path path).0 (second_of (counts u) (bytes_eq u.path path) f), first_of (counts u) (bytes_eq u.path path) f)
    | inr f ↦ let q = at_has us path (or_second (counts u && bytes_eq u.path path) (counts_at us path) f e) in (q.0, inr q.1, q.2, q.3)
  ]

  has_at : (us : List PackageSource) (path : List ℕ) (u : PackageSource) → Has us u → u.path ≡ path → counts u ≡ true → counts_at us path ≡ true
  has_at [] path u h e c = absurd h
  has_at (v ∷ us) path u (inl s) e c =
      or_left (counts v && bytes_eq v.path path) (counts_at us path) (both (counts v) (bytes_eq v.path path) (ap counts s ∙ c) ((bytes_eq-Decides v.path path).1 (ap source_path s ∙ e)))
  has_at (v ∷ us) path u (inr h) e c = or_right (counts v && bytes_eq v.path path) (counts_at us path) (has_at us path u h e c)

  -- where one that counts imports a package that is found, that counts too
  abbrev pub ImportsCount : List PackageSource → Type 0
  ImportsCount us = (u v : PackageSource) (file : ℕ) (i : Import) → Has us u → Has us v → counts u ≡ true → Has (imports_of u file) i → i.is_found ≡ true → v.path ≡ i.path → counts v ≡ true

  abbrev pub in_both : List PackageSource → List PackageSource → List ℕ → Bool
  in_both us vs path = counts_at us path && counts_at vs path

  import_counts : (bits : ℕ) (us : List PackageSource) (w : Packages) → HavePathsOfTheirOwn us → IsWorldOf bits us w → ImportsCount us → (u : PackageSource) → Has us u → counts u ≡ true → (file : ℕ) (i : Import) → Has (imports_of u file) i → i.is_found ≡ true → counts_at us i.path ≡ true
  import_counts bits us w own k c u h sure file i has found = let q = imported bits us w own k u h file i has found in has_at us i.path q.0 q.1 q.2 (c u q.0 file i h q.1 sure has found q.2)

  module _ (bits : ℕ) (us vs : List PackageSource) (w v : Packages) (own : HavePathsOfTheirOwn us) (other : HavePathsOfTheirOwn vs) (here : ImportsCount us) (there : ImportsCount vs) (same : (u z : PackageSource) → Has us u → Has vs z → u.path ≡ z.path → counts u ≡ true → u ≡ z) (k : IsWorldOf bits us w) (l : IsWorldOf bits vs v) where
    imports_shared : (u : PackageSource) → Has us u → counts u ≡ true → ((file : ℕ) (i : Import) → Has (imports_of u file) i → i.is_found ≡ true → counts_at vs i.path ≡ true) → ImportsAreOf (in_both us vs) u
    imports_shared u h c yonder file i has found = both (counts_at us i.path) (counts_at vs i.path) (import_counts bits us w own k here u h c file i has found) (yonder file i has found)

    pub shared_paths : AreTaken us vs (in_both us vs)
    shared_paths = record {
      same = λ path e. (
          let a = at_has us path (first_of (counts_at us path) (counts_at vs path) e) in
          let b = at_has vs path (second_of (counts_at us path) (counts_at vs path) e) in
          record { source = a.0; here = a.1; there = subst (Has vs) (sym (same a.0 b.0 a.1 b.1 (a.2 ∙ sym b.2) a.3)) b.1; place = a.2 }
          );
      imports = λ u h e file i has found. (
          let a = at_has us u.path (first_of (counts_at us u.path) (counts_at vs u.path) e) in
          let b = at_has vs u.path (second_of (counts_at us u.path) (counts_at vs u.path) e) in
          let sure : counts u ≡ true = ap counts (sym (once_at us own.once a.0 u a.1 h a.2)) ∙ a.3 in
          let g = subst (Has vs) (sym (same u b.0 h b.1 (sym b.2) sure)) b.1 in
          imports_shared u h sure (import_counts bits vs v other l there u g sure) file i has found
          );
    }

    pub shared : (path : List ℕ) (u : PackageSource) (p q : Package) → Has us u → u.path ≡ path → counts u ≡ true → first_with path_of w.packages path ≡ Some p → first_with path_of v.packages path ≡ Some q → p ≡ q
    shared path u p q h e c f g =
        let z = written bits vs v other l path q g in
        let is = same u z.0 h z.1 (e ∙ sym z.2) c in
        let there_too = has_at vs path z.0 z.1 z.2 (ap counts (sym is) ∙ c) in
        let r = packages bits us vs w v (in_both us vs) own other shared_paths k l path (both (counts_at us path) (counts_at vs path) (has_at us path u h e c) there_too) in
        some_once p q (sym f ∙ r.1 ∙ sym r.2 ∙ g)

    -- one that counts is offered over the second world, too, where its imports are typed there and count
    pub offered_too : (u : PackageSource) → Has us u → counts u ≡ true → AreTyped v u → ((z : PackageSource) (file : ℕ) (i : Import) → Has vs z → Has (imports_of u file) i → i.is_found ≡ true → z.path ≡ i.path → counts z ≡ true) → (p : Package) × IsOfferedAs (over bits v) u p
    offered_too u h c t sure =
        let q = typed_in bits us w own k u h in
        let imports = imports_shared u h c (λ file i has found. (let z = listed bits vs v other l i.path (t file i has found) in has_at vs i.path z.0 z.1 z.2 (sure z.0 file i z.1 has found z.2))) in
        (q.0, (offered bits us vs w v (in_both us vs) own other shared_paths k l u q.0 h imports q.1.1).1)

-- ---- the cases

module _ (bits : ℕ) (us vs : List PackageSource) (w v : Packages) (own : HavePathsOfTheirOwn us) (other : HavePathsOfTheirOwn vs) (k : IsWorldOf bits us w) (l : IsWorldOf bits vs v) where
  abbrev of_std : PackageSource → Bool
  of_std u = u.from_std

  -- packages of the standard library
  pub shared_std : ImportsCount of_std us → ImportsCount of_std vs → ((u z : PackageSource) → Has us u → Has vs z → u.path ≡ z.path → u.from_std ≡ true → u ≡ z)
      → (path : List ℕ) (p q : Package) → first_with path_of w.packages path ≡ Some p → first_with path_of v.packages path ≡ Some q → p.from_std ≡ true → p ≡ q
  shared_std here there same path p q f g std =
      let u = written bits us w own k path p f in
      shared of_std bits us vs w v own other here there same k l path u.0 p q u.1 u.2 (sym (u.3).1.«package».from_std ∙ std) f g

  abbrev always : PackageSource → Bool
  always u = true

  -- all packages
  pub shared_packages : ((u z : PackageSource) → Has us u → Has vs z → u.path ≡ z.path → u ≡ z)
      → (path : List ℕ) (p q : Package) → first_with path_of w.packages path ≡ Some p → first_with path_of v.packages path ≡ Some q → p ≡ q
  shared_packages same path p q f g =
      let u = written bits us w own k path p f in
      shared always bits us vs w v own other (λ a b file i h j c has found e. refl) (λ a b file i h j c has found e. refl) (λ a b h j e c. same a b h j e) k l path u.0 p q u.1 u.2 refl f g
