-- Over two worlds of typed packages that both hold all that a package needs, the same becomes of it.
use Rattle.std.proofs.Common.{◌≡◌, ◌<◌, ℕ, zero, suc, Bool, true, false, ◌&&◌, ◌||◌, List, [], Some, None, slice_get, refl, sym, ap, ◌∙◌, subst, inl, inr, if◌then◌else◌, arith}
use Rattle.std.specs.Prelude.{nat_lt}
use Rattle.std.specs.Str.{bytes_eq}
use Rattle.std.proofs.lemmas.Bool.Decides.{nat_tests}
use Rattle.std.proofs.lemmas.Slice.Eq.{bytes_eq-Decides}
use Rattle.go_base.specs.Lists.{Has, Passes}
use Rattle.go_exposed.proofs.SameImports.{offered_same, refused_same}
use Rattle.go_exposed.specs.OfferedWorlds.{Becomes}
use Rattle.go_exposed.specs.SkippedDeclarations.{Skipped}
use Rattle.go_exposed.specs.SkippedWorlds.{IsSkippedAs}
use Rattle.go_model.specs.declared.types.names.TypeName.{TypeName}
use Rattle.go_model.specs.declared.types.package.Package.{Package}
use Rattle.go_model.specs.types.Terms.{is_error}
use Rattle.go_model.specs.worlds.PackageTypes.{package_names}
use Rattle.go_model.specs.worlds.Worlds.{Packages, path_of}
use Rattle.go_unit_worlds.proofs.go_taken_packages_proofs.KeptPaths.{has_key, key_finds}
use Rattle.go_unit_worlds.proofs.go_taken_packages_proofs.OverAll.{has_place}
use Rattle.go_unit_worlds.proofs.go_taken_packages_proofs.SameReach.{or_right}
use Rattle.go_unit_worlds.proofs.go_taken_packages_proofs.SameSkipped.{skipped_same}
use Rattle.go_unit_worlds.proofs.go_taken_packages_proofs.SoFar.{both, first_of as left_of, or_more, second_of as right_of}
use Rattle.go_unit_worlds.proofs.go_taken_packages_proofs.TypedNames.{typed_names}
use Rattle.go_unit_worlds.specs.go_std_worlds.StdSources.{HaveOwnPaths, HavePaths}
use Rattle.go_typings.proofs.Cells.{either, if_false, if_true, maybe, none_some, some_once}
use Rattle.go_typings.proofs.HeldImports.{path_found, path_missing}
use Rattle.go_typings.proofs.ReachedRegion.{or_second, weaker}
use Rattle.go_typings.specs.PackageWorlds.{AreTyped, Outcome, typed, refused, blocked, no_packages, over}
use Rattle.go_typings.specs.ReachedPackages.{AreReached, HoldImports, ReachesSame, is_reached}
use Rattle.go_typings.specs.Sources.{Import, PackageSource, imports_of}
use Rattle.go_level_laws.specs.ByLevels.{BecomeByLevels, Outcomes, world_below, world_of}
use Rattle.go_level_laws.specs.Levels.{Needs, NeedsOther, Rises}
use Rattle.go_level_laws.proofs.KnownWorlds.{HavePathsOf, TypedAt, found_from, found_in, held_from, one_number}
use Rattle.go_level_laws.proofs.Places.{HasPath}
use Rattle.go_level_laws.proofs.Standing.{passes_two, stands_at, stands_either, stands_found, stands_in, stands_nowhere}

-- what became of these alone
abbrev pub only : (ℕ → Bool) → Outcomes → Outcomes
only S a n = if S n then a n else None

pub only_had : (S : ℕ → Bool) (a : Outcomes) (n : ℕ) (x : Outcome) → only S a n ≡ Some x → (S n ≡ true) × (a n ≡ Some x)
only_had S a n x e = elim (either (S n)) [
  | inl i ↦ (i, sym (if_true (S n) (a n) None i) ∙ e)
  | inr i ↦ none_some (only S a n) x (if_false (S n) (a n) None i) e
]

pub only_has : (S : ℕ → Bool) (a : Outcomes) (n : ℕ) (x : Outcome) → S n ≡ true → a n ≡ Some x → only S a n ≡ Some x
only_has S a n x i e = if_true (S n) (a n) None i ∙ e

-- those below a level
abbrev pub below : (ℕ → ℕ) → ℕ → ℕ → Bool
below level k n = nat_lt (level n) k

pub below_is : (m n : ℕ) → m < n → nat_lt m n ≡ true
below_is m n l = grind (arith, nat_tests)

pub is_below : (m n : ℕ) → nat_lt m n ≡ true → m < n
is_below m n e = grind (arith, nat_tests)

pub outcome_path : (bits : ℕ) (w : Packages) (u : PackageSource) (x : Outcome) → Becomes (over bits w) u x → HasPath u x
outcome_path bits w u (typed p) b = b.1.«package».path
outcome_path bits w u (refused r) b = tt
outcome_path bits w u blocked b = tt

or_both : (a b c : Bool) → (a || b) ≡ true → (a || c) ≡ true → (a || (b && c)) ≡ true
or_both true b c e f = refl
or_both false b c e f = both b c e f

-- of a number that is known its package is there
pub known_source : (bits : ℕ) (us : List PackageSource) (level : ℕ → ℕ) (a : Outcomes) → BecomeByLevels bits us level a → (n : ℕ) (u : PackageSource) (x : Outcome) → slice_get us n ≡ Some u → a n ≡ Some x → Becomes (over bits (world_below us level (level n) a)) u x
known_source bits us level a by n u x e f = let b = by.become n x f in subst (λ z. Becomes (over bits (world_below us level (level n) a)) z x) (some_once b.0 u (sym b.1 ∙ e)) b.2

package_of : Package → Outcome → Package
package_of d (typed p) = p
package_of d x = d

typed_once : (p q : Package) → ◌≡◌ {A = Outcome} (typed p) (typed q) → p ≡ q
unfolding package_of
typed_once p q e = ap (λ x. package_of p x) e

module _ (bits : ℕ) (us : List PackageSource) (own : HaveOwnPaths us) (some : HavePaths us) (a : Outcomes) (paths : HavePathsOf us a) where
  -- the world of these of them
  abbrev pub world : (ℕ → Bool) → Packages
  world S = world_of us (only S a)

  only_paths : (S : ℕ → Bool) → HavePathsOf us (only S a)
  only_paths S n u x e f = paths n u x e (only_had S a n x f).1

  -- with each that is known all that it needs is among these
  abbrev pub IsClosed : (ℕ → Bool) → Type 0
  IsClosed S = (n m : ℕ) (x : Outcome) → S n ≡ true → a n ≡ Some x → NeedsOther us n m → S m ≡ true

  -- all that a package needs is among these
  abbrev pub HasNeeds : (ℕ → Bool) → PackageSource → Type 0
  HasNeeds S u = (m : ℕ) (v : PackageSource) → slice_get us m ≡ Some v → Needs u v.path → S m ≡ true

  held : (S : ℕ → Bool) (n : ℕ) (u : PackageSource) (p : Package) → slice_get us n ≡ Some u → S n ≡ true → a n ≡ Some (typed p) → found_in (world S) u.path ≡ Some p
  held S n u p e i f = held_from no_packages us (only S a) n u p own (only_paths S) (λ m v g. refl) e (only_has S a n (typed p) i f)

  found : (S : ℕ → Bool) (path : List ℕ) (p : Package) → found_in (world S) path ≡ Some p → TypedAt us (only S a) path p
  found S path p e = elim (found_from no_packages us (only S a) path p (only_paths S) e) [ inl t ↦ t | inr f ↦ none_some (found_in no_packages path) p refl f ]

  typed_in : (S : ℕ → Bool) (path : List ℕ) (p : Package) (t : TypedAt us (only S a) path p) → (S t.number ≡ true) × (a t.number ≡ Some (typed p))
  typed_in S path p t = only_had S a t.number (typed p) t.typed

  there : (S : ℕ → Bool) (path : List ℕ) (p : Package) (t : TypedAt us (only S a) path p) → found_in (world S) t.source.path ≡ Some p
  there S path p t = let k = typed_in S path p t in held S t.number t.source p t.is k.0 k.1

  -- what is found in two of these worlds is the same
  one_typed : (S T : ℕ → Bool) (path : List ℕ) (p q : Package) (t : TypedAt us (only S a) path p) (r : TypedAt us (only T a) path q) → t.number ≡ r.number
  one_typed S T path p q t r = one_number us own t.number r.number t.source r.source t.is r.is (t.place ∙ sym r.place)

  typed_same : (S T : ℕ → Bool) (path : List ℕ) (p q : Package) → TypedAt us (only S a) path p → TypedAt us (only T a) path q → p ≡ q
  typed_same S T path p q t r =
      let is = one_typed S T path p q t r in
      let e = some_once (typed p) (typed q) (sym (typed_in S path p t).1 ∙ ap a is ∙ (typed_in T path q r).1) in
      typed_once p q e

  nothing_empty : (S : ℕ → Bool) → found_in (world S) [] ≡ None
  nothing_empty S = elim (maybe (found_in (world S) [])) [
    | inl q ↦ (let t = found S [] q.0 q.1 in absurd (some t.source (has_place us t.number t.source t.is) t.place))
    | inr n ↦ n
  ]

  abbrev shared : (ℕ → Bool) → (ℕ → Bool) → List ℕ → Bool
  shared S T path = stands_in (world S) path && stands_in (world T) path

  stands_both : (S T : ℕ → Bool) → shared S T [] ≡ true
  stands_both S T = both (stands_in (world S) []) (stands_in (world T) []) (stands_nowhere (world S)) (stands_nowhere (world T))

  -- an import whose package is typed
  import_typed : (S : ℕ → Bool) (u : PackageSource) (file : ℕ) (i : Import) → AreTyped (world S) u → Has (imports_of u file) i → i.is_found ≡ true → (p : Package) × TypedAt us (only S a) i.path p
  import_typed S u file i t h f = let q = key_finds path_of (world S).packages i.path (t file i h f) in (q.0, found S i.path q.0 q.1)

  typed_needed : (S : ℕ → Bool) (u : PackageSource) (file : ℕ) (i : Import) (p : Package) (t : TypedAt us (only S a) i.path p) → Has (imports_of u file) i → i.is_found ≡ true → Needs u t.source.path
  typed_needed S u file i p t h f = (file, i, h, f, sym t.place)

  -- it is found in another of these worlds
  import_there : (S T : ℕ → Bool) (u : PackageSource) (file : ℕ) (i : Import) → HasNeeds T u → AreTyped (world S) u → Has (imports_of u file) i → i.is_found ≡ true → (p : Package) × (found_in (world T) i.path ≡ Some p)
  import_there S T u file i needs t h f =
      let q = import_typed S u file i t h f in
      let r = q.1 in
      let k = needs r.number r.source r.is (typed_needed S u file i q.0 r h f) in
      (q.0, ap (found_in (world T)) (sym r.place) ∙ held T r.number r.source q.0 r.is k (typed_in S i.path q.0 r).1)

  typed_there : (S T : ℕ → Bool) (u : PackageSource) → HasNeeds T u → AreTyped (world S) u → AreTyped (world T) u
  typed_there S T u needs t file i h f = let q = import_there S T u file i needs t h f in has_key path_of (world T).packages i.path q.0 q.1

  import_stands : (S : ℕ → Bool) (u : PackageSource) (file : ℕ) (i : Import) → AreTyped (world S) u → Has (imports_of u file) i → i.is_found ≡ true → stands_in (world S) i.path ≡ true
  import_stands S u file i t h f = let q = key_finds path_of (world S).packages i.path (t file i h f) in stands_at (world S) i.path q.0 q.1

  held_imports : (S T : ℕ → Bool) (u : PackageSource) → AreTyped (world S) u → AreTyped (world T) u → HoldImports u (shared S T)
  held_imports S T u s t file i h = elim (either i.is_found) [
    | inl e ↦ ap (shared S T) (path_found i e) ∙ both (stands_in (world S) i.path) (stands_in (world T) i.path) (import_stands S u file i s h e) (import_stands T u file i t h e)
    | inr e ↦ ap (shared S T) (path_missing i e) ∙ stands_both S T
  ]

  -- a package that is found in the second world, where its path stands in the first, is typed in the first
  found_both : (S T : ℕ → Bool) (path : List ℕ) (q : Package) → stands_in (world S) path ≡ true → TypedAt us (only T a) path q → TypedAt us (only S a) path q
  found_both S T path q e r = elim (stands_either (world S) path e) [
    | inl i ↦ (
        let f = stands_found (world S) path i in
        let t = found S path f.0 f.1 in
        subst (TypedAt us (only S a) path) (typed_same S T path f.0 q t r) t
        )
    | inr n ↦ none_some (found_in (world T) []) q (nothing_empty T) (ap (found_in (world T)) (sym (r.place ∙ n)) ∙ there T path q r)
  ]

  module _ (level : ℕ → ℕ) (rises : Rises us level) where
    pub below_closed : (k : ℕ) → IsClosed (below level k)
    below_closed k n m x i e needs = below_is (level m) k (let l = rises n m needs in let h = is_below (level n) k i in omega (arith, l, h))

    -- all that a package needs is on lower levels
    pub lower_needs : (n : ℕ) (u : PackageSource) → slice_get us n ≡ Some u → HasNeeds (below level (level n)) u
    lower_needs n u e m v f needs = below_is (level m) (level n) (rises n m (u, e, (v, f, needs)))

  module _ (level : ℕ → ℕ) (rises : Rises us level) (by : BecomeByLevels bits us level a) where
    -- the types of the packages below a level are of packages of the same world
    abbrev NamesStand : ℕ → Type 0
    NamesStand k = (S : ℕ → Bool) → IsClosed S → (path : List ℕ) (p : Package) (t : TypedAt us (only S a) path p) → level t.number < k → Passes (is_reached (stands_in (world S))) (package_names p)

    module _ (k : ℕ) (lower : NamesStand k) (S : ℕ → Bool) (closed : IsClosed S) (path : List ℕ) (p : Package) (t : TypedAt us (only S a) path p) (l : level t.number < suc k) where
      abbrev T : ℕ → Bool
      T = below level (level t.number)

      offered : Becomes (over bits (world T)) t.source (typed p)
      offered = known_source bits us level a by t.number t.source (typed p) t.is (typed_in S path p t).1

      needs_there : HasNeeds S t.source
      needs_there m v f needs = let k = typed_in S path p t in closed t.number m (typed p) k.0 k.1 (t.source, t.is, (v, f, needs))

      imports_there : AreTyped (world S) t.source
      imports_there = typed_there T S t.source needs_there offered.0

      types_there : (path : List ℕ) (q : Package) → shared S T path ≡ true → found_in (world T) path ≡ Some q → Passes (is_reached (shared S T)) (package_names q)
      types_there path q i e =
          let x = found T path q e in
          let y = found_both S T path q (left_of (stands_in (world S) path) (stands_in (world T) path) i) x in
          let is : y.number ≡ x.number = one_typed S T path q q y x in
          let low : level x.number < k = (let h = is_below (level x.number) (level t.number) (typed_in T path q x).0 in omega (arith, h, l)) in
          passes_two (is_reached (stands_in (world S))) (is_reached (stands_in (world T))) (is_reached (shared S T)) (λ n. or_both (is_error n) (stands_in (world S) n.path) (stands_in (world T) n.path)) (package_names q)
          (lower S closed path q y (subst (λ m. level m < k) (sym is) low)) (lower T (below_closed level rises (level t.number)) path q x low)

      reached : AreReached (world T) t.source (shared S T)
      reached = record {
        imports = λ file i h f. both (stands_in (world S) i.path) (stands_in (world T) i.path) (import_stands S t.source file i imports_there h f) (import_stands T t.source file i offered.0 h f);
        closed = types_there;
      }

      own_stands : (n : TypeName) → (bytes_eq t.source.path n.path || is_reached (shared S T) n) ≡ true → is_reached (stands_in (world S)) n ≡ true
      own_stands n i = elim (either (bytes_eq t.source.path n.path)) [
        | inl e ↦ or_right (is_error n) (stands_in (world S) n.path) (stands_at (world S) n.path p (ap (found_in (world S)) (sym ((bytes_eq-Decides t.source.path n.path).0 e)) ∙ there S path p t))
        | inr e ↦ or_more (is_error n) (shared S T n.path) (stands_in (world S) n.path) (left_of (stands_in (world S) n.path) (stands_in (world T) n.path)) (or_second (bytes_eq t.source.path n.path) (is_reached (shared S T) n) e i)
      ]

      names_more : Passes (is_reached (stands_in (world S))) (package_names p)
      names_more =
          weaker (λ (n : TypeName). bytes_eq t.source.path n.path || is_reached (shared S T) n) (is_reached (stands_in (world S))) own_stands (package_names p)
          (typed_names (over bits (world T)) t.source (shared S T) p reached (held_imports S T t.source imports_there offered.0) offered.1)

    names : (k : ℕ) → NamesStand k
    names zero S closed path p t l = absurd (omega (arith, l))
    names (suc k) S closed path p t l = names_more k (names k) S closed path p t l

    names_stand : (S : ℕ → Bool) → IsClosed S → (path : List ℕ) (p : Package) → TypedAt us (only S a) path p → Passes (is_reached (stands_in (world S))) (package_names p)
    names_stand S closed path p t = names (suc (level t.number)) S closed path p t (omega arith)

    -- ---- from one of these worlds to another

    module _ (S T : ℕ → Bool) (here : IsClosed S) (yonder : IsClosed T) (u : PackageSource) (needs_here : HasNeeds S u) (needs_yonder : HasNeeds T u) where
      types_same : (path : List ℕ) (p : Package) → shared S T path ≡ true → found_in (world S) path ≡ Some p → Passes (is_reached (shared S T)) (package_names p)
      types_same path p i e =
          let x = found S path p e in
          let y = found_both T S path p (right_of (stands_in (world S) path) (stands_in (world T) path) i) x in
          passes_two (is_reached (stands_in (world S))) (is_reached (stands_in (world T))) (is_reached (shared S T)) (λ n. or_both (is_error n) (stands_in (world S) n.path) (stands_in (world T) n.path)) (package_names p)
          (names_stand S here path p x) (names_stand T yonder path p y)

      found_same : (path : List ℕ) → shared S T path ≡ true → found_in (world S) path ≡ found_in (world T) path
      found_same path i = elim (stands_either (world S) path (left_of (stands_in (world S) path) (stands_in (world T) path) i)) [
        | inl j ↦ (
            let f = stands_found (world S) path j in
            let y = found_both T S path f.0 (right_of (stands_in (world S) path) (stands_in (world T) path) i) (found S path f.0 f.1) in
            f.1 ∙ sym (ap (found_in (world T)) (sym y.place) ∙ there T path f.0 y)
            )
        | inr n ↦ ap (found_in (world S)) n ∙ nothing_empty S ∙ sym (nothing_empty T) ∙ ap (found_in (world T)) (sym n)
      ]

      abbrev reaches_same : AreTyped (world S) u → AreTyped (world T) u → ReachesSame u (over bits (world S)) (over bits (world T))
      reaches_same s t = record {
        reached = shared S T;
        are = record {
          imports = λ file i h f. both (stands_in (world S) i.path) (stands_in (world T) i.path) (import_stands S u file i s h f) (import_stands T u file i t h f);
          closed = types_same;
        };
        same = found_same;
        bits = refl;
        profile = refl;
      }

      pub becomes_there : (x : Outcome) → Becomes (over bits (world S)) u x → Becomes (over bits (world T)) u x
      becomes_there (typed p) b = let t = typed_there S T u needs_yonder b.0 in (t, offered_same u (over bits (world S)) (over bits (world T)) (reaches_same b.0 t) (held_imports S T u b.0 t) p b.1)
      becomes_there (refused r) b = let t = typed_there S T u needs_yonder b.0 in (t, refused_same u (over bits (world S)) (over bits (world T)) (reaches_same b.0 t) (held_imports S T u b.0 t) r b.1)
      becomes_there blocked b = λ t. b (typed_there T S u needs_here t)

      pub skips_there : (x : Outcome) (xs : List Skipped) → Becomes (over bits (world S)) u x → IsSkippedAs (over bits (world S)) u x xs → IsSkippedAs (over bits (world T)) u x xs
      skips_there (typed p) xs b k = let t = typed_there S T u needs_yonder b.0 in skipped_same u (over bits (world S)) (over bits (world T)) (reaches_same b.0 t) (held_imports S T u b.0 t) xs k
      skips_there (refused r) xs b k = k
      skips_there blocked xs b k = k
