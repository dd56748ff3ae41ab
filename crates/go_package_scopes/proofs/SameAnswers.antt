-- In the scopes of a package a declaration meets, names and finds what it does in its environment.
use Rattle.std.proofs.Common.{◌≡◌, ◌≢◌, ◌↔◌, ℕ, Bool, true, false, ◌&&◌, List, [], Some, refl, sym, ap, ◌∙◌}
use Rattle.std.specs.Prelude.{codes}
use Rattle.std.specs.Cmp.Lexicographic.{bytes_decides}
use Rattle.std.specs.Str.{bytes_eq}
use Rattle.go_model.specs.declared.types.names.TypeName.{TypeName}
use Rattle.go_model.specs.types.Terms.{error_type, is_error}
use Rattle.go_typings.specs.go_references.declared.references.Reference.{Reference}
use Rattle.go_rules.specs.Environments.{Env}
use Rattle.go_rules.specs.Growth.{Grows}
use Rattle.go_rules.specs.Scopes.{env_of, Scopes}
use Rattle.go_typings.specs.DeclarationAsks.{Asks}
use Rattle.go_typings.specs.Declarations.{Form, constants, variables, alias, definition, function, method, Declaration}
use Rattle.go_typings.specs.PackageEnvironments.{Entries, environment}
use Rattle.go_typings.specs.References.{FindsMethod, NamesDeclaration}
use Rattle.go_typings.specs.Sources.{PackageSource, Setting}
use Rattle.go_typings.proofs.Cells.{if_false}
use Rattle.go_typings.proofs.SameAsks.{KeepsBase}
use Rattle.go_package_scopes.specs.PackageScopes.{at_declaration, IsScopeOf}
use Rattle.go_package_scopes.proofs.SameEnvironments.{scope_gives_back, scope_has}
use Rattle.go_typings.proofs.WholeRegion.{asks_more, finds_more, names_back}

module _ (u : PackageSource) (named : u.path ≢ []) (E F : Env) (m : Grows E F) where
  abbrev own : List ℕ → TypeName
  own name = record { path = u.path; name = name }

  -- `error` isn't a type of the package
  not_error : (name : List ℕ) → is_error (own name) ≡ false
  not_error name = ap (λ b. b && bytes_eq name (codes "error")) (by (bytes_eq u.path []) refl)
    where
      by : (b : Bool) → bytes_eq u.path [] ≡ b → b ≡ false
      by true e = absurd (named ((bytes_decides u.path []).0 e))
      by false e = refl

  -- the type that a method is declared for is had among more entries
  keeps_base : (f : Form) → KeepsBase E F u f
  keeps_base (method receiver f) = λ name d of e.
      let k = m.table (own name) d (if_false (is_error (own name)) (Some error_type) (E.table (own name)) (not_error name) ∙ e) in
      (k.grown, sym (if_false (is_error (own name)) (Some error_type) (F.table (own name)) (not_error name)) ∙ k.stored, k.underlying)
  keeps_base (constants spec place) = tt
  keeps_base (variables spec) = tt
  keeps_base (alias spec) = tt
  keeps_base (definition spec) = tt
  keeps_base (function f) = tt

  meets : (n : ℕ) (f : Form) → Asks E u n f → Asks F u n f
  meets n f k = asks_more E F m u n f (keeps_base f) k

module _ (s : Setting) (u : PackageSource) (a : Entries) (c : Scopes) (is : IsScopeOf s u a c) (named : u.path ≢ []) (d : Declaration) where
  abbrev E : Env
  E = env_of (at_declaration c d)

  abbrev F : Env
  F = environment s u a d

  forth : Grows E F
  forth = scope_gives_back s u a c is named d

  back : Grows F E
  back = scope_has s u a c is named d

  pub asks_same : (n : ℕ) (f : Form) → Asks E u n f ↔ Asks F u n f
  asks_same n f = (meets u named E F forth n f, meets u named F E back n f)

  pub names_same : (f : Form) (rs : List Reference) (n : ℕ) → NamesDeclaration E u f rs n ↔ NamesDeclaration F u f rs n
  names_same f rs n = (names_back F E back u f rs n, names_back E F forth u f rs n)

  pub finds_same : (f : Form) (n : ℕ) → FindsMethod E u f n ↔ FindsMethod F u f n
  finds_same f n = (finds_more E F forth u f n, finds_more F E back u f n)
