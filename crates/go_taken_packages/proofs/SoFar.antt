-- The packages that became something so far, of which some have taken paths, and those that come after them.
use Rattle.std.proofs.Common.{◌≡◌, ℕ, Bool, true, false, ◌&&◌, ◌||◌, List, [], ◌∷◌, Some, None, map, refl, sym, ap, ◌∙◌, subst, inl, inr}
use Rattle.std.specs.Str.{bytes_eq}
use Rattle.std.proofs.lemmas.Slice.Eq.{bytes_eq-Decides}
use Rattle.go_base.specs.Keys.{first_with}
use Rattle.go_base.specs.Lists.{Has, Passes}
use Rattle.go_model.specs.declared.types.names.TypeName.{TypeName}
use Rattle.go_model.specs.declared.types.package.Package.{Package}
use Rattle.go_model.specs.types.Terms.{is_error}
use Rattle.go_model.specs.worlds.PackageTypes.{package_names}
use Rattle.go_model.specs.worlds.Worlds.{Packages, path_of}
use Rattle.go_typings.proofs.Cells.{either, none_some, some_once}
use Rattle.go_typings.proofs.HeldImports.{with_empty}
use Rattle.go_typings.proofs.ReachedRegion.{or_second, region, weaker}
use Rattle.go_typings.specs.PackageWorlds.{ComeAfterImports, Outcome, typed, refused, blocked, no_packages, over, with_outcome}
use Rattle.go_typings.specs.ReachedPackages.{is_reached}
use Rattle.go_typings.specs.Sources.{PackageSource}
use Rattle.go_exposed.specs.OfferedPackages.{IsOfferedAs}
use Rattle.go_exposed.specs.OfferedWorlds.{Become, become_none, become_more, Becomes}
use Rattle.go_taken_packages.proofs.KeptPaths.{mapped, other_kept, own_found, same_or_other}
use Rattle.go_taken_packages.proofs.SameReach.{HasNoEmptyPath, IsClosedAt, held_at, or_left, or_right, reached_at}
use Rattle.go_taken_packages.proofs.TypedNames.{typed_names}
use Rattle.go_taken_packages.specs.InOrder.{HavePathsOfTheirOwn, source_path, typed_package}
use Rattle.go_taken_packages.specs.TakenPaths.{ImportsAreOf}
use Rattle.go_taken_packages.specs.ToldPackages.{is_among}

pub among : (ps : List (List ℕ)) (path : List ℕ) → Has ps path → is_among ps path ≡ true
among [] path h = absurd h
among (p ∷ ps) path (inl e) = or_left (bytes_eq p path) (is_among ps path) ((bytes_eq-Decides p path).1 e)
among (p ∷ ps) path (inr h) = or_right (bytes_eq p path) (is_among ps path) (among ps path h)

pub among_has : (ps : List (List ℕ)) (path : List ℕ) → is_among ps path ≡ true → Has ps path
among_has [] path e = let g : false ≡ true = e in absurd (cc)
among_has (p ∷ ps) path e = elim (either (bytes_eq p path)) [
  | inl f ↦ inl ((bytes_eq-Decides p path).0 f)
  | inr f ↦ inr (among_has ps path (or_second (bytes_eq p path) (is_among ps path) f e))
]

pub both : (a b : Bool) → a ≡ true → b ≡ true → (a && b) ≡ true
both a b e f = ap (λ z. z && b) e ∙ f

pub first_of : (a b : Bool) → (a && b) ≡ true → a ≡ true
first_of true b e = refl
first_of false b e = e

pub second_of : (a b : Bool) → (a && b) ≡ true → b ≡ true
second_of true b e = e
second_of false b e = let g : false ≡ true = e in absurd (cc)

pub or_more : (a b c : Bool) → (b ≡ true → c ≡ true) → (a || b) ≡ true → (a || c) ≡ true
or_more true b c h e = refl
or_more false b c h e = h e

module _ (taken : List ℕ → Bool) where
  -- one of the paths so far, and taken
  abbrev pub held : List (List ℕ) → List ℕ → Bool
  held paths path = taken path && is_among paths path

  pub is_held : (paths : List (List ℕ)) (path : List ℕ) → taken path ≡ true → Has paths path → held paths path ≡ true
  is_held paths path t h = both (taken path) (is_among paths path) t (among paths path h)

  pub held_taken : (paths : List (List ℕ)) (path : List ℕ) → held paths path ≡ true → taken path ≡ true
  held_taken paths path e = first_of (taken path) (is_among paths path) e

  pub held_has : (paths : List (List ℕ)) (path : List ℕ) → held paths path ≡ true → Has paths path
  held_has paths path e = among_has paths path (second_of (taken path) (is_among paths path) e)

  held_more : (paths : List (List ℕ)) (p path : List ℕ) → held paths path ≡ true → held (p ∷ paths) path ≡ true
  held_more paths p path e = is_held (p ∷ paths) path (held_taken paths path e) (inr (held_has paths path e))

  empty_more : (paths : List (List ℕ)) (p path : List ℕ) → with_empty (held paths) path ≡ true → with_empty (held (p ∷ paths)) path ≡ true
  empty_more paths p path e = elim (either (held paths path)) [
    | inl k ↦ or_left (held (p ∷ paths) path) (bytes_eq path []) (held_more paths p path k)
    | inr k ↦ or_right (held (p ∷ paths) path) (bytes_eq path []) (or_second (held paths path) (bytes_eq path []) k e)
  ]

  -- an other path was one of them before
  empty_before : (paths : List (List ℕ)) (p path : List ℕ) → (p ≡ path → ⊥) → with_empty (held (p ∷ paths)) path ≡ true → with_empty (held paths) path ≡ true
  empty_before paths p path n e = elim (either (held (p ∷ paths) path)) [
    | inl k ↦ elim (held_has (p ∷ paths) path k) [
      | inl s ↦ absurd (n s)
      | inr h ↦ or_left (held paths path) (bytes_eq path []) (is_held paths path (held_taken (p ∷ paths) path k) h)
    ]
    | inr k ↦ or_right (held paths path) (bytes_eq path []) (or_second (held (p ∷ paths) path) (bytes_eq path []) k e)
  ]

  -- the paths so far, what is typed of them, and the packages that come after them
  pub record SoFar (paths : List (List ℕ)) (w : Packages) (us : List PackageSource) : Type 0 where
    pub empty : HasNoEmptyPath w
    pub closed : IsClosedAt (held paths) w
    pub free : (u : PackageSource) → Has us u → first_with path_of w.packages u.path ≡ None
    pub new : (path : List ℕ) → Has paths path → Has (map source_path us) path → ⊥
    pub own : HavePathsOfTheirOwn us
    pub imports : (u : PackageSource) → Has us u → taken u.path ≡ true → ImportsAreOf taken u
    pub after : ComeAfterImports paths us

  pub imports_held : (paths : List (List ℕ)) (w : Packages) (u : PackageSource) (us : List PackageSource) → SoFar paths w (u ∷ us) → ImportsAreOf taken u → ImportsAreOf (held paths) u
  imports_held paths w u us s k file i h e = is_held paths i.path (k file i h e) (s.after.0 file i h e)

  module _ (bits : ℕ) (paths : List (List ℕ)) (w : Packages) (u : PackageSource) (us : List PackageSource) (x : Outcome) (s : SoFar paths w (u ∷ us)) (a : Becomes (over bits w) u x) where
    own_names : (p : Package) → typed_package x ≡ Some p → taken u.path ≡ true → Passes (region u (with_empty (held paths))).types (package_names p)
    own_names p e t = by x a e
      where
        by : (y : Outcome) → Becomes (over bits w) u y → typed_package y ≡ Some p → Passes (region u (with_empty (held paths))).types (package_names p)
        by (typed q) b f = let k = imports_held paths w u us s (s.imports u (inl refl) t) in
            typed_names (over bits w) u (with_empty (held paths)) p (reached_at (held paths) u k w s.closed) (held_at (held paths) u k) (subst (IsOfferedAs (over bits w) u) (some_once q p f) b.1)
        by (refused r) b f = none_some (typed_package (refused r)) p refl f
        by blocked b f = none_some (typed_package blocked) p refl f

    name_held : taken u.path ≡ true → (n : TypeName) → (region u (with_empty (held paths))).types n ≡ true → is_reached (with_empty (held (u.path ∷ paths))) n ≡ true
    name_held t n e = elim (either (bytes_eq u.path n.path)) [
      | inl f ↦ or_right (is_error n) (with_empty (held (u.path ∷ paths)) n.path)
          (or_left (held (u.path ∷ paths) n.path) (bytes_eq n.path []) (ap (held (u.path ∷ paths)) (sym ((bytes_eq-Decides u.path n.path).0 f)) ∙ is_held (u.path ∷ paths) u.path t (inl refl)))
      | inr f ↦ or_more (is_error n) (with_empty (held paths) n.path) (with_empty (held (u.path ∷ paths)) n.path) (empty_more paths u.path n.path) (or_second (bytes_eq u.path n.path) (is_reached (with_empty (held paths)) n) f e)
    ]

    closed_next : IsClosedAt (held (u.path ∷ paths)) (with_outcome w u x)
    closed_next path p i e = elim (same_or_other u.path path) [
      | inl s1 ↦ (
          let t : taken u.path ≡ true = ap taken s1 ∙ elim (either (held (u.path ∷ paths) path)) [
            | inl k ↦ held_taken (u.path ∷ paths) path k
            | inr k ↦ absurd (s.own.named u (inl refl) (s1 ∙ (bytes_eq-Decides path []).0 (or_second (held (u.path ∷ paths) path) (bytes_eq path []) k i)))
          ] in
          let mine : typed_package x ≡ Some p = sym (own_found bits w u x a (s.free u (inl refl))) ∙ ap (first_with path_of (with_outcome w u x).packages) s1 ∙ e in
          weaker (region u (with_empty (held paths))).types (is_reached (with_empty (held (u.path ∷ paths)))) (name_held t) (package_names p) (own_names p mine t)
          )
      | inr n ↦ (
          weaker (is_reached (with_empty (held paths))) (is_reached (with_empty (held (u.path ∷ paths)))) (λ m. or_more (is_error m) (with_empty (held paths) m.path) (with_empty (held (u.path ∷ paths)) m.path) (empty_more paths u.path m.path)) (package_names p)
          (s.closed path p (empty_before paths u.path path n i) (sym (other_kept bits w u x path a n) ∙ e))
          )
    ]

    pub so_far_next : SoFar (u.path ∷ paths) (with_outcome w u x) us
    so_far_next = record {
      empty = other_kept bits w u x [] a (s.own.named u (inl refl)) ∙ s.empty;
      closed = closed_next;
      free = λ v h. other_kept bits w u x v.path a (λ e. s.own.once.0 (subst (Has (map source_path us)) (sym e) (mapped source_path us v h))) ∙ s.free v (inr h);
      new = λ path h k. elim h [ inl e ↦ s.own.once.0 (subst (Has (map source_path us)) (sym e) k) | inr j ↦ s.new path j (inr k) ];
      own = record { once = s.own.once.1; named = λ v h. s.own.named v (inr h) };
      imports = λ v h. s.imports v (inr h);
      after = s.after.1;
    }

  pub so_far_none : (us : List PackageSource) → HavePathsOfTheirOwn us → ((u : PackageSource) → Has us u → taken u.path ≡ true → ImportsAreOf taken u) → ComeAfterImports [] us → SoFar [] no_packages us
  so_far_none us own imports after = record { empty = refl; closed = λ path p i e. none_some None p refl e; free = λ u h. refl; new = λ path h k. h; own = own; imports = imports; after = after }

  -- ---- all of them

  -- the paths of a list after those so far
  abbrev pub with_paths : List (List ℕ) → List PackageSource → List (List ℕ)
  with_paths paths [] = paths
  with_paths paths (u ∷ us) = with_paths (u.path ∷ paths) us

  pub before_has : (us : List PackageSource) (paths : List (List ℕ)) (path : List ℕ) → Has paths path → Has (with_paths paths us) path
  before_has [] paths path h = h
  before_has (u ∷ us) paths path h = before_has us (u.path ∷ paths) path (inr h)

  pub listed_has : (us : List PackageSource) (paths : List (List ℕ)) (u : PackageSource) → Has us u → Has (with_paths paths us) u.path
  listed_has [] paths u h = absurd h
  listed_has (v ∷ us) paths u (inl e) = before_has us (v.path ∷ paths) u.path (inl (ap source_path e))
  listed_has (v ∷ us) paths u (inr h) = listed_has us (v.path ∷ paths) u h

  pub so_far_all : (bits : ℕ) (paths : List (List ℕ)) {w v : Packages} {us : List PackageSource} {xs : List Outcome} → Become bits w us xs v → SoFar paths w us → SoFar (with_paths paths us) v []
  so_far_all bits paths become_none s = s
  so_far_all bits paths (become_more {w = w} {u = u} {us = us} {x = x} a r) s = so_far_all bits (u.path ∷ paths) r (so_far_next bits paths w u us x s a)
