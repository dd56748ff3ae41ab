-- Where packages come after those that they import, the first that isn't typed is refused.
use Rattle.std.proofs.Common.{ℕ, suc, List, [], ◌∷◌, map, refl, ◌∙◌, subst, ◌⊎◌, inl, inr}
use Rattle.go_references.specs.go_base.Keys.{placed}
use Rattle.go_references.specs.go_base.Lists.{Has, Passes}
use Rattle.go_rules.specs.go_model.worlds.Worlds.{Packages, path_of}
use Rattle.go_rules.proofs.go_model_proofs.MoreWorlds.{key_placed, keys_kept}
use Rattle.go_typings.specs.PackageWorlds.{Become, become_none, become_more, ComeAfterImports, IsFirstRefused, IsRefusedAt, refused_here, refused_later, IsWorldOf, Outcome, typed, refused, blocked, is_typed, no_packages}
use Rattle.go_typings.specs.Refusals.{Refusal}
use Rattle.go_typings.specs.Sources.{PackageSource}

module _ (bits : ℕ) where
  typed_or_first : {w v : Packages} {us : List PackageSource} {xs : List Outcome} (paths : List (List ℕ)) → Become bits w us xs v → ((path : List ℕ) → Has paths path → Has (map path_of w.packages) path) → ComeAfterImports paths us → Passes is_typed xs ⊎ ((n : ℕ) × (r : Refusal) × IsRefusedAt bits w us n r)
  typed_or_first paths become_none h k = inl tt
  typed_or_first paths (become_more {w = w} {u = u} {x = typed p} {xs = xs} a r) h k =
      elim (typed_or_first (u.path ∷ paths) r (λ path i. elim i [
        | inl e ↦ subst (Has (map path_of (placed path_of p w.packages))) (a.1.«package».path ∙ e) (key_placed path_of p w.packages)
        | inr j ↦ keys_kept path_of p w.packages path (h path j)
      ]) k.1) [ inl t ↦ inl (refl, t) | inr f ↦ inr (suc f.0, f.1, refused_later (typed p) a refl f.2) ]
  typed_or_first paths (become_more {x = refused q} a r) h k = inr (0, q, refused_here a)
  typed_or_first paths (become_more {x = blocked} a r) h k = absurd (a (λ file i j f. h i.path (k.0 file i j f)))

  pub world_or_refusal : (us : List PackageSource) (xs : List Outcome) (w : Packages) → Become bits no_packages us xs w → ComeAfterImports [] us → IsWorldOf bits us w ⊎ ((n : ℕ) × (r : Refusal) × IsFirstRefused bits us n r)
  world_or_refusal us xs w b k = elim (typed_or_first [] b (λ path h. absurd h) k) [
    | inl t ↦ inl (record { outcomes = xs; become = b; all_typed = t })
    | inr f ↦ inr f
  ]
