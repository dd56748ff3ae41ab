-- Where packages agree on paths, what imports of these paths alone reaches the same in both, and becomes the same.
use Rattle.std.proofs.Common.{◌≡◌, ℕ, Bool, true, false, ◌||◌, List, [], Some, None, refl, sym, ap, ◌∙◌, inl, inr}
use Rattle.std.specs.Str.{bytes_eq}
use Rattle.std.proofs.lemmas.Slice.Eq.{bytes_eq-Decides}
use Rattle.go_base.specs.Keys.{first_with}
use Rattle.go_base.specs.Lists.{Passes}
use Rattle.go_model.specs.declared.types.package.Package.{Package}
use Rattle.go_model.specs.worlds.PackageTypes.{package_names}
use Rattle.go_model.specs.worlds.Worlds.{Packages, path_of}
use Rattle.go_typings.proofs.Cells.{either}
use Rattle.go_typings.proofs.HeldImports.{is_empty, path_found, path_missing, with_empty}
use Rattle.go_typings.specs.PackageWorlds.{AreTyped, Outcome, typed, refused, blocked, over}
use Rattle.go_typings.specs.ReachedPackages.{AreReached, HoldImports, ReachesSame, is_reached}
use Rattle.go_typings.specs.Sources.{PackageSource}
use Rattle.go_exposed.specs.OfferedWorlds.{Becomes}
use Rattle.go_exposed.specs.SkippedDeclarations.{Skipped}
use Rattle.go_exposed.specs.SkippedWorlds.{IsSkipped, IsSkippedAs}
use Rattle.go_exposed.proofs.SameImports.{offered_same, refused_same}
use Rattle.go_taken_packages.proofs.KeptPaths.{has_key, key_finds}
use Rattle.go_taken_packages.proofs.SameSkipped.{skipped_same}
use Rattle.go_taken_packages.specs.TakenPaths.{ImportsAreOf}

-- the types of packages at these paths, or at the empty one, are of packages there
abbrev pub IsClosedAt : (List ℕ → Bool) → Packages → Type 0
IsClosedAt held w = (path : List ℕ) (p : Package) → with_empty held path ≡ true → first_with path_of w.packages path ≡ Some p → Passes (is_reached (with_empty held)) (package_names p)

-- the same stands at these paths in both
abbrev pub AgreeAt : (List ℕ → Bool) → Packages → Packages → Type 0
AgreeAt held w v = (path : List ℕ) → held path ≡ true → first_with path_of w.packages path ≡ first_with path_of v.packages path

abbrev pub HasNoEmptyPath : Packages → Type 0
HasNoEmptyPath w = first_with path_of w.packages [] ≡ None

pub or_left : (a b : Bool) → a ≡ true → (a || b) ≡ true
or_left true b e = refl
or_left false b e = let g : false ≡ true = e in absurd (cc)

pub or_right : (a b : Bool) → b ≡ true → (a || b) ≡ true
or_right true b e = refl
or_right false b e = e

pub nowhere : (held : List ℕ → Bool) → with_empty held [] ≡ true
nowhere held = or_right (held []) (bytes_eq [] []) ((bytes_eq-Decides [] []).1 refl)

module _ (held : List ℕ → Bool) (u : PackageSource) (imports : ImportsAreOf held u) where
  pub reached_at : (w : Packages) → IsClosedAt held w → AreReached w u (with_empty held)
  reached_at w c = record { imports = λ file i h e. or_left (held i.path) (bytes_eq i.path []) (imports file i h e); closed = c }

  pub held_at : HoldImports u (with_empty held)
  held_at file i h = elim (either i.is_found) [
    | inl e ↦ ap (with_empty held) (path_found i e) ∙ or_left (held i.path) (bytes_eq i.path []) (imports file i h e)
    | inr e ↦ ap (with_empty held) (path_missing i e) ∙ nowhere held
  ]

  typed_there : (w v : Packages) → AgreeAt held w v → AreTyped w u → AreTyped v u
  typed_there w v g t file i h e =
      let q = key_finds path_of w.packages i.path (t file i h e) in
      has_key path_of v.packages i.path q.0 (sym (g i.path (imports file i h e)) ∙ q.1)

  module _ (bits : ℕ) (w v : Packages) (closed : IsClosedAt held w) (none : HasNoEmptyPath w) (nil : HasNoEmptyPath v) (agree : AgreeAt held w v) where
    abbrev pub same_at : ReachesSame u (over bits w) (over bits v)
    same_at = record {
      reached = with_empty held;
      are = reached_at w closed;
      same = λ path i. elim (either (held path)) [
        | inl k ↦ agree path k
        | inr k ↦ ap (first_with path_of w.packages) (is_empty held path k i) ∙ none ∙ sym nil ∙ ap (first_with path_of v.packages) (sym (is_empty held path k i))
      ];
      bits = refl;
      profile = refl;
    }

    pub becomes_there : (x : Outcome) → Becomes (over bits w) u x → Becomes (over bits v) u x
    becomes_there (typed p) a = (typed_there w v agree a.0, offered_same u (over bits w) (over bits v) same_at held_at p a.1)
    becomes_there (refused r) a = (typed_there w v agree a.0, refused_same u (over bits w) (over bits v) same_at held_at r a.1)
    becomes_there blocked a = λ t. a (typed_there v w (λ path i. sym (agree path i)) t)

    pub skipped_there : (xs : List Skipped) → IsSkipped (over bits w) u xs → IsSkipped (over bits v) u xs
    skipped_there xs k = skipped_same u (over bits w) (over bits v) same_at held_at xs k

    pub skipped_as_there : (x : Outcome) (xs : List Skipped) → IsSkippedAs (over bits w) u x xs → IsSkippedAs (over bits v) u x xs
    skipped_as_there (typed p) xs k = skipped_there xs k
    skipped_as_there (refused r) xs k = k
    skipped_as_there blocked xs k = k
