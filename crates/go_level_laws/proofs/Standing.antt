-- Where packages of a world stand.
use Rattle.std.proofs.Common.{◌≡◌, ◌⊎◌, inl, inr, ℕ, Bool, true, false, List, [], ◌∷◌, Option, Some, None, sym, ap, ◌∙◌}
use Rattle.std.specs.Str.{bytes_eq}
use Rattle.go_base.specs.Keys.{first_with}
use Rattle.go_base.specs.Lists.{Passes}
use Rattle.go_model.specs.declared.types.package.Package.{Package}
use Rattle.go_model.specs.worlds.Worlds.{Packages, path_of}
use Rattle.go_typings.proofs.Cells.{either, maybe}
use Rattle.go_typings.proofs.HeldImports.{is_empty, with_empty}
use Rattle.go_unit_worlds.proofs.go_taken_packages_proofs.SameReach.{nowhere, or_left}

pub passes_two : {A : Type 0} (p q r : A → Bool) → ((x : A) → p x ≡ true → q x ≡ true → r x ≡ true) → (xs : List A) → Passes p xs → Passes q xs → Passes r xs
passes_two p q r h [] k l = tt
passes_two p q r h (x ∷ xs) k l = (h x k.0 l.0, passes_two p q r h xs k.1 l.1)

abbrev pub is_there : Option Package → Bool
is_there None = false
is_there (Some p) = true

abbrev stands : Packages → List ℕ → Bool
stands w path = is_there (first_with path_of w.packages path)

-- at this path stands a package, or the path is empty, as that under which an import is had that isn't found
abbrev pub stands_in : Packages → List ℕ → Bool
stands_in w = with_empty (stands w)

pub stands_either : (w : Packages) (path : List ℕ) → stands_in w path ≡ true → (is_there (first_with path_of w.packages path) ≡ true) ⊎ (path ≡ [])
stands_either w path e = elim (either (stands w path)) [ inl i ↦ inl i | inr n ↦ inr (is_empty (stands w) path n e) ]

-- the package that stands there
pub stands_found : (w : Packages) (path : List ℕ) → is_there (first_with path_of w.packages path) ≡ true → (p : Package) × (first_with path_of w.packages path ≡ Some p)
stands_found w path e = elim (maybe (first_with path_of w.packages path)) [
  | inl q ↦ q
  | inr n ↦ (let g : true ≡ false = sym e ∙ ap is_there n in absurd (cc))
]

pub stands_at : (w : Packages) (path : List ℕ) (p : Package) → first_with path_of w.packages path ≡ Some p → stands_in w path ≡ true
stands_at w path p e = or_left (stands w path) (bytes_eq path []) (ap is_there e)

pub stands_nowhere : (w : Packages) → stands_in w [] ≡ true
stands_nowhere w = nowhere (stands w)
