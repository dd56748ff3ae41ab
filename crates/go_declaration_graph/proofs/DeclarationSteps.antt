-- Rows that tell of each declaration tell of the package, and scopes show the same steps as the environments of its declarations.
use Rattle.std.proofs.Common.{◌≡◌, ◌≢◌, ◌↔◌, ℕ, zero, suc, ◌<◌, List, [], ◌∷◌, length, Some, refl, ◌⊎◌, inl, inr, arith}
use Rattle.std.specs.Prelude.{slice_get}
use Rattle.go_base.specs.Lists.{Has}
use Rattle.go_graphs.specs.Walks.{row_of}
use Rattle.go_leads.specs.Listed.{Lists}
use Rattle.go_package_scopes.proofs.SameAnswers.{finds_same, names_same}
use Rattle.go_package_scopes.specs.PackageScopes.{IsScopeOf, at_declaration}
use Rattle.go_references.specs.declared.references.Reference.{Reference}
use Rattle.go_rules.specs.Scopes.{Scopes, env_of}
use Rattle.go_sifting.specs.Graphs.{Leads}
use Rattle.go_typings.specs.Assignments.{At}
use Rattle.go_typings.specs.DeclarationNodes.{references}
use Rattle.go_typings.specs.Declarations.{Declaration, declarations}
use Rattle.go_typings.specs.PackageEnvironments.{Entries, environment}
use Rattle.go_typings.specs.References.{FindsMethod, NamesDeclaration}
use Rattle.go_typings.specs.Sources.{PackageSource, Setting}

-- ---- rows

has_row : (rows : List (List ℕ)) (m n : ℕ) → Has (row_of rows m) n → m < length rows
has_row [] m n h = absurd h
has_row (r ∷ rows) zero n h = omega arith
has_row (r ∷ rows) (suc m) n h = let l = has_row rows m n h in omega (arith, l)

within : (ds : List Declaration) (m : ℕ) → m < length ds → (d : Declaration) × (slice_get ds m ≡ Some d)
within [] m l = absurd (omega (arith, l))
within (d ∷ ds) zero l = (d, refl)
within (d ∷ ds) (suc m) l = within ds m (omega (arith, l))

module _ (Q : Declaration → ℕ → Type 0) (rows : List (List ℕ)) (ds : List Declaration) (size : length rows ≡ length ds) where
  -- where the row of a number tells of its declaration
  pub exact_at : (m : ℕ) → ((d : Declaration) → slice_get ds m ≡ Some d → Lists (Q d) (row_of rows m)) → (n : ℕ) → Has (row_of rows m) n ↔ At ds m (λ d. Q d n)
  exact_at m tell n = (
    (λ h. let d = within ds m (let l = has_row rows m n h in omega (arith, l, size)) in (d.0, d.1, (tell d.0 d.1 n).0 h)),
    (λ a. (tell a.0 a.1 n).1 a.2),
  )

  pub exact : ((m : ℕ) (d : Declaration) → slice_get ds m ≡ Some d → Lists (Q d) (row_of rows m)) → (m n : ℕ) → Has (row_of rows m) n ↔ At ds m (λ d. Q d n)
  exact tell m n = exact_at m (tell m) n

pub via : {P Q : ℕ → Type 0} (xs : List ℕ) → Lists P xs → ((n : ℕ) → P n ↔ Q n) → Lists Q xs
via xs l same n = ((λ h. (same n).0 ((l n).0 h)), (λ q. (l n).1 ((same n).1 q)))

-- ---- steps

module _ (s : Setting) (u : PackageSource) (a : Entries) where
  abbrev pub IsLed : Declaration → ℕ → Type 0
  IsLed d n = NamesDeclaration (environment s u a d) u d.form (references d.form) n ⊎ FindsMethod (environment s u a d) u d.form n

  pub leads_of : (m n : ℕ) → At (declarations u) m (λ d. IsLed d n) → Leads s u a m n
  leads_of m n k = elim k.2 [ inl h ↦ inl (k.0, k.1, h) | inr h ↦ inr (k.0, k.1, h) ]

  pub of_leads : (m n : ℕ) → Leads s u a m n → At (declarations u) m (λ d. IsLed d n)
  of_leads m n h = elim h [ inl k ↦ (k.0, k.1, inl k.2) | inr k ↦ (k.0, k.1, inr k.2) ]

  module _ (c : Scopes) (scope : IsScopeOf s u a c) (pathed : u.path ≢ []) where
    pub same_named : (d : Declaration) (rs : List Reference) (n : ℕ) → NamesDeclaration (env_of (at_declaration c d)) u d.form rs n ↔ NamesDeclaration (environment s u a d) u d.form rs n
    same_named d rs n = names_same s u a c scope pathed d d.form rs n

    same_found : (d : Declaration) (n : ℕ) → FindsMethod (env_of (at_declaration c d)) u d.form n ↔ FindsMethod (environment s u a d) u d.form n
    same_found d n = finds_same s u a c scope pathed d d.form n

    pub same_led : (d : Declaration) (n : ℕ) → (NamesDeclaration (env_of (at_declaration c d)) u d.form (references d.form) n ⊎ FindsMethod (env_of (at_declaration c d)) u d.form n) ↔ IsLed d n
    same_led d n = (
      (λ h. elim h [ inl k ↦ inl ((same_named d (references d.form) n).0 k) | inr k ↦ inr ((same_found d n).0 k) ]),
      (λ h. elim h [ inl k ↦ inl ((same_named d (references d.form) n).1 k) | inr k ↦ inr ((same_found d n).1 k) ]),
    )
