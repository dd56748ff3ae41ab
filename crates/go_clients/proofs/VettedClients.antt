-- What is told of a client, by the check of its declarations and what is found in its bodies.
use Rattle.std.proofs.Common.{inl, inr, ◌≡◌, ℕ, Bool, true, false, List, [], ◌∷◌, map, None, Some, refl, sym, ap, ◌∙◌, subst, if◌then◌else◌}
use Rattle.std.specs.Str.{bytes_eq}
use Rattle.std.proofs.lemmas.Slice.Eq.{bytes_eq-Decides}
use Rattle.go_base.specs.Keys.{first_with}
use Rattle.go_base.specs.Lists.{Has}
use Rattle.go_check.specs.Answers.{IsWhollyRefusedAs, refusal_of}
use Rattle.go_check.specs.declared.error.CheckError.{CheckError}
use Rattle.go_check.specs.declared.error.CheckError.TheVariants as error
use Rattle.go_client_typings.specs.Clients.{Blocks, IsTypedClient, IsUntypedClient, IsVetted, refused_at, setting, untyped_body, untyped_declaration}
use Rattle.go_client_typings.proofs.OneVetted.{client_apart}
use Rattle.go_client_typings.specs.declared.vetted.Vetted.{Vetted}
use Rattle.go_clients.specs.inner.Told.{Finds, TellsError}
use Rattle.go_model.specs.declared.types.package.Package.{Package}
use Rattle.go_model.specs.worlds.Worlds.{Packages, path_of}
use Rattle.go_syntax.specs.declared.name.Place.{Place}
use Rattle.go_typings.specs.Refusals.{IsRefused, Refusal, missing_import, redeclared, unsound}
use Rattle.go_typings.specs.Sources.{PackageSource, Setting}
use Rattle.go_typings.specs.TypedPackages.{IsTypedAs}

-- no memory was left
abbrev pub is_starved : CheckError → Bool
is_starved error.NoMemory = true
is_starved e = false

module _ (s : Setting) (u : PackageSource) (blocks : Blocks) where
  pub typed_client : (p : Package) → IsTypedAs s u p → Finds s u blocks None → IsTypedClient s u blocks
  typed_client p t f = record { once = t.once; found = t.found; entries = t.entries; typing = t.typing; bodies = f t.entries t.typing }

  pub untyped_client : (p : Package) (q : Place) → IsTypedAs s u p → Finds s u blocks (Some q) → IsUntypedClient s u blocks q
  untyped_client p q t f = untyped_body {a = t.entries} t.once t.found t.typing (f t.entries t.typing)

  pub refused_client : (r : Refusal) (q : Place) → IsRefused s u r → refused_at r ≡ q → IsUntypedClient s u blocks q
  refused_client r q k e = untyped_declaration r k e

  -- a client that is refused, or has an untyped body, isn't typed
  pub not_refused : (r : Refusal) → IsRefused s u r → IsTypedClient s u blocks → ⊥
  not_refused r k c = client_apart s u blocks c (refused_at r) (untyped_declaration r k refl)

  pub not_untyped : (p : Package) (q : Place) → IsTypedAs s u p → Finds s u blocks (Some q) → IsTypedClient s u blocks → ⊥
  not_untyped p q t f c = client_apart s u blocks c q (untyped_client p q t f)

  pub refused_apart : (e : CheckError) → is_starved e ≡ false → IsWhollyRefusedAs s u (refusal_of e) → IsTypedClient s u blocks → ⊥
  refused_apart (error.Redeclared p) h k = not_refused (redeclared p) k
  refused_apart (error.MissingImport p) h k = not_refused (missing_import p) k
  refused_apart (error.Unsound p) h k = not_refused (unsound p) k
  refused_apart error.NoMemory h k = absurd (cc)

-- what is told of a client whose declarations aren't typed without the flag
pub error_told : (world : Packages) (bits : ℕ) (u : PackageSource) (blocks : Blocks) (e : CheckError) (v : Vetted) → TellsError e v → IsWhollyRefusedAs (setting world bits false) u (refusal_of e) → IsVetted world bits u blocks v
error_told world bits u blocks (error.Redeclared p) v h k = subst (IsVetted world bits u blocks) (sym h) (refused_client (setting world bits false) u blocks (redeclared p) p k refl)
error_told world bits u blocks (error.MissingImport p) v h k = subst (IsVetted world bits u blocks) (sym h) (refused_client (setting world bits false) u blocks (missing_import p) p k refl)
error_told world bits u blocks (error.Unsound p) v h k = subst (IsVetted world bits u blocks) (sym h) (refused_client (setting world bits false) u blocks (unsound p) p k refl)
error_told world bits u blocks error.NoMemory v h k = absurd h

-- ---- packages

-- a path that no package has
pub absent_path : (ps : List Package) (k : List ℕ) → (Has (map path_of ps) k → ⊥) → first_with path_of ps k ≡ None
absent_path [] k n = refl
absent_path (p ∷ ps) k n = by (absent_path ps k (λ h. n (inr h))) (bytes_eq p.path k) refl
  where
    by : first_with path_of ps k ≡ None → (b : Bool) → bytes_eq p.path k ≡ b → first_with path_of (p ∷ ps) k ≡ None
    by f true e = absurd (n (inl ((bytes_eq-Decides p.path k).0 e)))
    by f false e = ap (λ b. if b then Some p else first_with path_of ps k) e ∙ f
