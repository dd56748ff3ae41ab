-- The world of packages in a list, each typed over those before it, and what becomes of each.
-- Public source: Go specification, "Import declarations" and "Package initialization"; which packages are public is own, after "Internal
-- packages" of the Go command's documentation, as is that a package isn't typed where one that it imports isn't.
use Rattle.std.specs.Prelude.{◌≡◌, ℕ, suc, Bool, true, false, not, nat_eq, ◌&&◌, List, [], ◌∷◌, map, codes}
use Rattle.std.specs.List.{list_all, slice_split}
use Rattle.std.specs.Str.{bytes_eq}
use Rattle.go_references.specs.go_base.Lists.{Has, Passes}
use Rattle.go_rules.specs.go_model.declared.types.package.Package.{Package}
use Rattle.go_rules.specs.go_model.worlds.Worlds.{Packages, path_of, with_package}
use Rattle.go_typings.specs.Refusals.{IsRefused, Refusal}
use Rattle.go_typings.specs.Sources.{Import, PackageSource, Setting, imports_of}
use Rattle.go_typings.specs.TypedPackages.{IsTypedAs}

-- ---- public packages

abbrev pub is_slash : ℕ → Bool
is_slash b = nat_eq b 47

abbrev pub is_public_element : List ℕ → Bool
is_public_element element = not (bytes_eq element (codes "internal"))

-- a package of the module, not `main`, and without an element `internal` in its path
abbrev pub is_public : PackageSource → Bool
is_public u = not u.from_std && (not (bytes_eq u.name (codes "main")) && list_all is_public_element (slice_split is_slash u.path))

-- ---- what becomes of a package

pub data Outcome : Type 0 where
  -- it is typed as this package
  typed : Package → Outcome
  -- it is refused
  refused : Refusal → Outcome
  -- a package that it imports isn't typed
  blocked : Outcome

-- each import that is found is of a typed package
abbrev pub AreTyped : Packages → PackageSource → Type 0
AreTyped w u = (file : ℕ) (i : Import) → Has (imports_of u file) i → i.is_found ≡ true → Has (map path_of w.packages) i.path

-- this becomes of the package
abbrev pub Becomes : Setting → PackageSource → Outcome → Type 0
Becomes s u (typed p) = AreTyped s.world u × IsTypedAs s u p
Becomes s u (refused r) = AreTyped s.world u × IsRefused s u r
Becomes s u blocked = AreTyped s.world u → ⊥

-- ---- what becomes of packages

-- a package that isn't a client's is typed in these packages
abbrev pub over : ℕ → Packages → Setting
over bits w = record { world = w; bits = bits; profile = false }

abbrev pub with_outcome : Packages → PackageSource → Outcome → Packages
with_outcome w u (typed p) = with_package w p (is_public u)
with_outcome w u x = w

-- the listed packages become these in turn, each over the first packages and those that are typed before it; the last packages are the
-- first with all that are typed
pub data Become (bits : ℕ) : Packages → List PackageSource → List Outcome → Packages → Type 0 where
  become_none : {w : Packages} → Become bits w [] [] w
  become_more : {w v : Packages} {u : PackageSource} {us : List PackageSource} {x : Outcome} {xs : List Outcome} → Becomes (over bits w) u x → Become bits (with_outcome w u x) us xs v → Become bits w (u ∷ us) (x ∷ xs) v

abbrev pub no_packages : Packages
no_packages = record { packages = []; publics = [] }

abbrev pub is_typed : Outcome → Bool
is_typed (typed p) = true
is_typed x = false

-- each import that is found is of a package with one of these paths, or of a listed one that comes before
abbrev pub ComeAfterImports : List (List ℕ) → List PackageSource → Type 0
ComeAfterImports paths [] = Unit {0}
ComeAfterImports paths (u ∷ us) = ((file : ℕ) (i : Import) → Has (imports_of u file) i → i.is_found ≡ true → Has paths i.path) × ComeAfterImports (u.path ∷ paths) us

-- all of the listed packages are typed, and this is their world
pub record IsWorldOf (bits : ℕ) (us : List PackageSource) (w : Packages) : Type 0 where
  pub outcomes : List Outcome
  pub become : Become bits no_packages us outcomes w
  pub all_typed : Passes is_typed outcomes

abbrev pub is_refused : Outcome → Bool
is_refused (refused r) = true
is_refused x = false

-- over the first packages the listed one of this number is refused so, and none before it is refused; what comes after doesn't count
pub data IsRefusedAt (bits : ℕ) : Packages → List PackageSource → ℕ → Refusal → Type 0 where
  refused_here : {w : Packages} {u : PackageSource} {us : List PackageSource} {r : Refusal} → Becomes (over bits w) u (refused r) → IsRefusedAt bits w (u ∷ us) 0 r
  refused_later : {w : Packages} {u : PackageSource} {us : List PackageSource} {n : ℕ} {r : Refusal} (x : Outcome) → Becomes (over bits w) u x → is_refused x ≡ false → IsRefusedAt bits (with_outcome w u x) us n r → IsRefusedAt bits w (u ∷ us) (suc n) r

abbrev pub IsFirstRefused : ℕ → List PackageSource → ℕ → Refusal → Type 0
IsFirstRefused bits us n r = IsRefusedAt bits no_packages us n r
