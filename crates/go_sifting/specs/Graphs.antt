-- What the declarations of a package have to do with one another, as rows of numbers.
-- Own: graphs as lists.
use Rattle.std.specs.Prelude.{◌≡◌, ◌⊎◌, ◌↔◌, ℕ, List, length, Some}
use Rattle.go_base.specs.Lists.{Has}
use Rattle.go_graphs.specs.Walks.{row_of}
use Rattle.go_typings.specs.Assignments.{At}
use Rattle.go_typings.specs.DeclarationNodes.{references}
use Rattle.go_typings.specs.Declarations.{declarations}
use Rattle.go_typings.specs.PackageEnvironments.{Entries, Entry, environment}
use Rattle.go_typings.specs.References.{FindsMethod, NamesDeclaration}
use Rattle.go_typings.specs.Sources.{PackageSource, Setting}
use Rattle.go_soundness.specs.LostDeclarations.{Depends, HasInLength, MeetsAsks}
use Rattle.go_soundness.specs.Ranks.{ComesAfter}
use Rattle.go_sifting.specs.declared.graph.DeclarationGraph.{DeclarationGraph}

module _ (s : Setting) (u : PackageSource) (a : Entries) where
  -- a step leads from the one declaration to the other: by a name, or by a method that is found
  abbrev pub Leads : ℕ → ℕ → Type 0
  Leads m n = At (declarations u) m (λ d. NamesDeclaration (environment s u a d) u d.form (references d.form) n) ⊎ At (declarations u) m (λ d. FindsMethod (environment s u a d) u d.form n)

  -- each row has exactly the numbers to which its declaration stands so
  pub record AreRows (Stands : ℕ → ℕ → Type 0) (rows : List (List ℕ)) : Type 0 where
    pub size : length rows ≡ length (declarations u)
    pub exact : (m n : ℕ) → Has (row_of rows m) n ↔ Stands m n

  pub record IsGraphOf (g : DeclarationGraph) : Type 0 where
    pub depends : AreRows (Depends s u a) g.depends
    pub leads : AreRows Leads g.leads
    pub after : AreRows (ComesAfter s u a) g.after
    pub lengths : AreRows (HasInLength s u a) g.lengths

  -- the declaration has an entry and meets what it is asked
  pub record Stands (n : ℕ) : Type 0 where
    pub entry : Entry
    pub had : a n ≡ Some entry
    pub meets : MeetsAsks s u a n
