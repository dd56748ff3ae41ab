-- Where all packages of a list are typed, they come after those that they import.
use Rattle.std.proofs.Common.{◌≡◌, ℕ, List, [], ◌∷◌, Some, None, refl, sym, ◌∙◌, inl, inr}
use Rattle.go_base.specs.Keys.{first_with}
use Rattle.go_base.specs.Lists.{Has, Passes}
use Rattle.go_model.specs.declared.types.package.Package.{Package}
use Rattle.go_model.specs.worlds.Worlds.{Packages, path_of}
use Rattle.go_rules.proofs.OneKind.{no_truth}
use Rattle.go_typings.proofs.Cells.{none_some}
use Rattle.go_typings.specs.PackageWorlds.{ComeAfterImports, Outcome, typed, refused, blocked, is_typed}
use Rattle.go_typings.specs.Sources.{PackageSource}
use Rattle.go_exposed.specs.OfferedWorlds.{Become, become_none, become_more, IsWorldOf}
use Rattle.go_taken_packages.proofs.KeptPaths.{key_finds, other_kept, same_or_other}
use Rattle.go_taken_packages.specs.InOrder.{BecomeInOrder}

module _ (bits : ℕ) where
  after_imports : (paths : List (List ℕ)) {w v : Packages} {us : List PackageSource} {xs : List Outcome} → Become bits w us xs v → Passes is_typed xs → ((path : List ℕ) (p : Package) → first_with path_of w.packages path ≡ Some p → Has paths path) → ComeAfterImports paths us
  after_imports paths become_none o k = tt
  after_imports paths (become_more {w = w} {u = u} {x = typed p} a r) o k = (
    λ file i h e. (let q = key_finds path_of w.packages i.path (a.0 file i h e) in k i.path q.0 q.1),
    after_imports (u.path ∷ paths) r o.1 (λ path q e. elim (same_or_other u.path path) [
      | inl s ↦ inl s
      | inr n ↦ inr (k path q (sym (other_kept bits w u (typed p) path a n) ∙ e))
    ]),
  )
  after_imports paths (become_more {x = refused q} a r) o k = absurd (no_truth (sym o.0))
  after_imports paths (become_more {x = blocked} a r) o k = absurd (no_truth (sym o.0))

  pub in_order : (us : List PackageSource) (w : Packages) → IsWorldOf bits us w → (xs : List Outcome) × BecomeInOrder bits us xs w × Passes is_typed xs
  in_order us w i = (i.outcomes, record { after = after_imports [] i.become i.all_typed (λ path p e. none_some None p refl e); become = i.become }, i.all_typed)
