-- Scopes keep what is had once the objects of a declaration are.
use Rattle.std.proofs.Common.{◌≡◌, ℕ, List, Some, None, refl, sym, ap, ◌∙◌}
use Rattle.std.specs.Prelude.{slice_get}
use Rattle.std.specs.Option.{option_or}
use Rattle.go_model.specs.declared.types.package.Entity.{Entity}
use Rattle.go_rules.specs.Names.{Named}
use Rattle.go_rules.specs.Scopes.{Scopes}
use Rattle.go_rules.specs.declared.seen.Seen.{Seen}
use Rattle.go_syntax.specs.declared.declaration.TypeSpec.{TypeSpec}
use Rattle.go_typings.specs.Declarations.{Declaration, declarations, declared, definition}
use Rattle.go_typings.specs.PackageEnvironments.{Entries, objects}
use Rattle.go_typings.specs.Receivers.{methods}
use Rattle.go_typings.specs.Sources.{PackageSource, Setting}
use Rattle.go_package_scopes.specs.KeptScopes.{first_object, HasObjects, Keeps, with_entry}
use Rattle.go_package_scopes.proofs.DeclaredNames.{form_of}
use Rattle.go_package_scopes.proofs.KeptScopes.{kept, shown_kept, type_kept, under_kept}
use Rattle.go_package_scopes.proofs.OneMoreEntry.{entity_more}

module _ (s : Setting) (u : PackageSource) (a : Entries) (c : Scopes) (n : ℕ) (d : Declaration) (xs : List Entity) (t : Named Seen) where
  pub objects_more : Keeps s u a c → a n ≡ None → slice_get (declarations u) n ≡ Some d → ((spec : TypeSpec) → d.form ≡ definition spec → ⊥) → HasObjects (declarations u) n xs c.declared t
      → Keeps s u (with_entry a n (objects xs)) (record c { declared = t })
  objects_more keeps fresh at not has =
      kept s u a c keeps (with_entry a n (objects xs)) t c.defined
      (λ name. has name ∙ ap (option_or (first_object (declarations u) n xs name)) (keeps.objects name)
      ∙ entity_more u.path a n xs fresh (declared (declarations u) name) (λ v e same spec f. not spec (sym (form_of (declarations u) name v n d e same at) ∙ f)))
      (λ type. type_kept s u a c keeps n fresh (objects xs) type (under_kept s u a c keeps n fresh (objects xs) refl (declared (declarations u) type)) (shown_kept s u a c keeps n fresh (objects xs) refl (methods u type)))
