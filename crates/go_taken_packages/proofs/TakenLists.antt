-- Paths that are taken between two lists are so the other way round, and from longer lists.
use Rattle.std.proofs.Common.{◌≡◌, ℕ, Bool, true, List, ap, ◌∙◌, subst}
use Rattle.go_base.specs.Lists.{Has}
use Rattle.go_typings.specs.Sources.{PackageSource}
use Rattle.go_taken_packages.proofs.KeptPaths.{once_at}
use Rattle.go_taken_packages.specs.InOrder.{HavePathsOfTheirOwn}
use Rattle.go_taken_packages.specs.TakenPaths.{AreTaken, ImportsAreOf, StandsInBoth}

module _ (us vs : List PackageSource) (taken : List ℕ → Bool) (t : AreTaken us vs taken) where
  -- a package of a taken path, in a list that has those of the first, or of the second, and no other one of a path of theirs
  own_imports : (ws : List PackageSource) → HavePathsOfTheirOwn ws → ((path : List ℕ) (q : StandsInBoth us vs path) → Has ws q.source) → (u : PackageSource) → Has ws u → taken u.path ≡ true → ImportsAreOf taken u
  own_imports ws own has u h i =
      let q = t.same u.path i in
      subst (ImportsAreOf taken) (once_at ws own.once q.source u (has u.path q) h q.place) (t.imports q.source q.here (ap taken q.place ∙ i))

  pub turned : HavePathsOfTheirOwn vs → AreTaken vs us taken
  turned own = record {
    same = λ path i. (let q = t.same path i in record { source = q.source; here = q.there; there = q.here; place = q.place });
    imports = λ u h i. own_imports vs own (λ path q. q.there) u h i;
  }

  pub in_longer : (more : List PackageSource) → HavePathsOfTheirOwn more → ((u : PackageSource) → Has us u → Has more u) → AreTaken more vs taken
  in_longer more own has = record {
    same = λ path i. (let q = t.same path i in record { source = q.source; here = has q.source q.here; there = q.there; place = q.place });
    imports = λ u h i. own_imports more own (λ path q. has q.source q.here) u h i;
  }
