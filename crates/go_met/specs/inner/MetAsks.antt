-- Whether declarations meet what they are asked, in scopes.
-- Own: words of the contracts inside this crate.
use Rattle.std.specs.Prelude.{◌≡◌, ◌<◌, ℕ, Bool, false, List, get_or, length, Some, slice_get}
use Rattle.go_package_scopes.specs.PackageScopes.{at_declaration}
use Rattle.go_rules.specs.Scopes.{env_of, Scopes}
use Rattle.go_selectors.specs.Answers.{Decides}
use Rattle.go_typings.specs.DeclarationAsks.{Asks}
use Rattle.go_typings.specs.Declarations.{Declaration, declarations}
use Rattle.go_typings.specs.Sources.{PackageSource}

-- the answer tells whether the declaration of the number meets what it is asked in the scopes where it stands
abbrev pub IsMetThere : Scopes → List ℕ → List Declaration → ℕ → Bool → Type 0
IsMetThere c name ds n answer =
    (u : PackageSource) → declarations u ≡ ds → u.name ≡ name → u.path ≡ c.path → (d : Declaration) → slice_get ds n ≡ Some d → Decides answer (Asks (env_of (at_declaration c d)) u n d.form)

-- there is an answer for each declaration
pub record AreMetThere (c : Scopes) (name : List ℕ) (ds : List Declaration) (answers : List Bool) : Type 0 where
  pub size : length answers ≡ length ds
  pub met : (n : ℕ) → n < length ds → IsMetThere c name ds n (get_or answers n false)
