-- Imports that are of listed paths.
use Rattle.std.proofs.Common.{◌≡◌, ℕ, Bool, true, false, List, refl, sym, ◌∙◌}
use Rattle.std.proofs.lemmas.List.Folds.{list_all-map}
use Rattle.std.specs.BTreeMap.{is_at}
use Rattle.std.specs.List.{list_all, list_any}
use Rattle.go_imports.proofs.GrowingSets.{order}
use Rattle.go_imports.proofs.TextKeys.{has_key, key_has}
use Rattle.go_sources.specs.UnitSources.{file_of, source_of}
use Rattle.go_taken_packages.proofs.SoFar.{among, among_has}
use Rattle.go_taken_packages.proofs.ToldPackages.{taken_as}
use Rattle.go_taken_packages.specs.TakenPaths.{ImportsAreOf}
use Rattle.go_taken_packages.specs.ToldPackages.{imports_are_among, is_among}
use Rattle.go_units.specs.declared.unit.«Unit».{«Unit» as PackageUnit}

both_ways : (a b : Bool) → (a ≡ true → b ≡ true) → (b ≡ true → a ≡ true) → a ≡ b
both_ways true b to from = sym (to refl)
both_ways false true to from = from refl
both_ways false false to from = refl

-- an ordered set of texts has what stands among its keys
pub contains_among : (paths : List (List ℕ)) (path : List ℕ) → list_any (is_at (order path)) paths ≡ is_among paths path
contains_among paths path =
    both_ways (list_any (is_at (order path)) paths) (is_among paths path) (λ e. among paths path (key_has paths path e)) (λ e. has_key paths path (among_has paths path e))

pub imports_among : (paths : List (List ℕ)) (u : PackageUnit) → list_all (λ f. imports_are_among paths (file_of f)) u.files ≡ true → ImportsAreOf (is_among paths) (source_of u)
imports_among paths u e = (taken_as paths (record { source = source_of u; same = true }) (list_all-map (imports_are_among paths) file_of u.files ∙ e)).1
