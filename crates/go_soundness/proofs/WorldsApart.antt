-- A world knows nothing of a package with a new path.
use Rattle.std.proofs.Common.{◌≡◌, ◌≢◌, ℕ, Bool, true, false, List, [], ◌∷◌, Some, None, map, refl, sym, ◌∙◌, ◌⊎◌, inl, inr}
use Rattle.std.specs.Prelude.{if◌then◌else◌}
use Rattle.std.specs.Str.{bytes_eq}
use Rattle.std.proofs.lemmas.Slice.Eq.{bytes_eq-Decides}
use Rattle.go_base.specs.Keys.{first_with}
use Rattle.go_base.specs.Lists.{Has}
use Rattle.go_typings.specs.go_model.declared.types.package.Package.{Package}
use Rattle.go_typings.specs.go_model.worlds.Worlds.{IsWorld, path_of}
use Rattle.go_typings.proofs.go_model_proofs.Paths.{absent_name}
use Rattle.go_typings.proofs.go_rules_proofs.OneKind.{no_truth}
use Rattle.go_typings.specs.Sources.{PackageSource, Setting}
use Rattle.go_typings.proofs.Cells.{none_some}
use Rattle.go_soundness.specs.Apart.{IsApart}

absent : (ps : List Package) (path : List ℕ) → first_with path_of ps path ≡ None → Has (map path_of ps) path → ⊥
absent [] path e h = absurd h
absent (p ∷ ps) path e h = choose (bytes_eq p.path path) refl (λ f k. absent ps path f k) e h
  where
    choose : (b : Bool) → bytes_eq p.path path ≡ b → (first_with path_of ps path ≡ None → Has (map path_of ps) path → ⊥) → (if b then Some p else first_with path_of ps path) ≡ None → (p.path ≡ path) ⊎ Has (map path_of ps) path → ⊥
    choose true f r g k = none_some (Some p) p g refl
    choose false f r g (inl d) = no_truth (sym ((bytes_eq-Decides p.path path).1 d) ∙ f)
    choose false f r g (inr k) = r g k

pub world_apart : (s : Setting) (u : PackageSource) → IsWorld s.world → u.path ≢ [] → first_with path_of s.world.packages u.path ≡ None → IsApart s u
world_apart s u w e h = record { pathed = e; unnamed = λ n k. absent_name s.world u.path w e (absent s.world.packages u.path h) n k }
