-- The paths under which a package's imports are had, where each is found, or where no package has the empty path.
use Rattle.std.proofs.Common.{◌≡◌, ℕ, Bool, true, false, ◌||◌, List, [], Some, None, refl, sym, ap, ◌∙◌, inl, inr}
use Rattle.std.specs.Str.{bytes_eq}
use Rattle.std.proofs.lemmas.Slice.Eq.{bytes_eq-Decides}
use Rattle.go_references.specs.go_base.Keys.{first_with}
use Rattle.go_references.specs.go_base.Lists.{Has, Passes}
use Rattle.go_rules.specs.go_model.declared.types.names.TypeName.{TypeName}
use Rattle.go_rules.specs.go_model.declared.types.package.Package.{Package}
use Rattle.go_rules.specs.go_model.types.Terms.{is_error}
use Rattle.go_rules.specs.go_model.worlds.PackageTypes.{package_names}
use Rattle.go_rules.specs.go_model.worlds.Worlds.{Packages, path_of}
use Rattle.go_typings.specs.PackageEnvironments.{had_path}
use Rattle.go_typings.specs.ReachedPackages.{AreReached, HoldImports, ReachesSame, is_reached}
use Rattle.go_typings.specs.Sources.{AreFound, Import, PackageSource, Setting}
use Rattle.go_typings.proofs.Cells.{either, if_false, if_true, none_some}
use Rattle.go_typings.proofs.ReachedRegion.{weaker}

-- an import that is found is had under its path
pub path_found : (i : Import) → i.is_found ≡ true → had_path i ≡ i.path
path_found i e = if_true i.is_found i.path [] e

-- one that isn't is had under the empty path
pub path_missing : (i : Import) → i.is_found ≡ false → had_path i ≡ []
path_missing i e = if_false i.is_found i.path [] e

pub found_held : (w : Packages) (u : PackageSource) (reached : List ℕ → Bool) → AreFound u → AreReached w u reached → HoldImports u reached
found_held w u reached f r file i h = ap reached (path_found i (f file i h)) ∙ r.imports file i h (f file i h)

-- ---- with the empty path

abbrev pub with_empty : (List ℕ → Bool) → List ℕ → Bool
with_empty reached path = reached path || bytes_eq path []

left : (a b : Bool) → a ≡ true → (a || b) ≡ true
left true b e = refl
left false b e = let g : false ≡ true = e in absurd (cc)

right : (a b : Bool) → b ≡ true → (a || b) ≡ true
right true b e = refl
right false b e = e

one_of : (a b : Bool) → a ≡ false → (a || b) ≡ true → b ≡ true
one_of true b f e = let g : true ≡ false = f in absurd (cc)
one_of false b f e = e

reached_more : (reached : List ℕ → Bool) (n : TypeName) → is_reached reached n ≡ true → is_reached (with_empty reached) n ≡ true
reached_more reached n e = elim (either (is_error n)) [
  | inl i ↦ left (is_error n) (with_empty reached n.path) i
  | inr i ↦ right (is_error n) (with_empty reached n.path) (left (reached n.path) (bytes_eq n.path []) (one_of (is_error n) (reached n.path) i e))
]

-- a path of these that isn't of the others is empty
pub is_empty : (reached : List ℕ → Bool) (path : List ℕ) → reached path ≡ false → with_empty reached path ≡ true → path ≡ []
is_empty reached path f e = (bytes_eq-Decides path []).0 (one_of (reached path) (bytes_eq path []) f e)

pub held_empty : (w : Packages) (u : PackageSource) (reached : List ℕ → Bool) → AreReached w u reached → HoldImports u (with_empty reached)
held_empty w u reached r file i h = elim (either i.is_found) [
  | inl e ↦ ap (with_empty reached) (path_found i e) ∙ left (reached i.path) (bytes_eq i.path []) (r.imports file i h e)
  | inr e ↦ ap (with_empty reached) (path_missing i e) ∙ right (reached []) (bytes_eq [] []) ((bytes_eq-Decides [] []).1 refl)
]

pub are_more : (w : Packages) (u : PackageSource) (reached : List ℕ → Bool) → first_with path_of w.packages [] ≡ None → AreReached w u reached → AreReached w u (with_empty reached)
are_more w u reached none r = record {
  imports = λ file i h e. left (reached i.path) (bytes_eq i.path []) (r.imports file i h e);
  closed = λ path p i e. elim (either (reached path)) [
    | inl k ↦ weaker (is_reached reached) (is_reached (with_empty reached)) (reached_more reached) (package_names p) (r.closed path p k e)
    | inr k ↦ none_some (first_with path_of w.packages []) p none (ap (first_with path_of w.packages) (sym (is_empty reached path k i)) ∙ e)
  ];
}

pub same_more : (u : PackageSource) (s t : Setting) → first_with path_of s.world.packages [] ≡ None → first_with path_of t.world.packages [] ≡ None → ReachesSame u s t → ReachesSame u s t
same_more u s t none nil m = record {
  reached = with_empty m.reached;
  are = are_more s.world u m.reached none m.are;
  same = λ path i. elim (either (m.reached path)) [
    | inl k ↦ m.same path k
    | inr k ↦ ap (first_with path_of s.world.packages) (is_empty m.reached path k i) ∙ none ∙ sym nil ∙ ap (first_with path_of t.world.packages) (sym (is_empty m.reached path k i))
  ];
  bits = m.bits;
  profile = m.profile;
}
