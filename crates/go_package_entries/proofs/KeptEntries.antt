-- Scopes that keep what is had keep it once the entry of a declaration is taken.
use Rattle.std.proofs.Common.{◌≡◌, ℕ, Bool, true, false, List, nat_eq, Option, None, Some, refl, sym, ap, ◌∙◌, subst}
use Rattle.std.specs.Prelude.{if◌then◌else◌, slice_get}
use mathlib.Core.Bool.{true≢false}
use Rattle.go_declared.specs.MethodTables.{AreMethods}
use Rattle.go_declared.specs.NameTables.{AreDeclared, place_of}
use Rattle.go_declared.specs.NamesakeTables.{AreNamesakes, rows_at}
use Rattle.go_declared.specs.declared.methods.MethodRow.{MethodRow}
use Rattle.go_declared.specs.declared.names.NamePlace.{NamePlace}
use Rattle.go_model.specs.declared.types.package.Defined.{Defined}
use Rattle.go_model.specs.declared.types.package.Entity.{Entity}
use Rattle.go_model.specs.declared.types.term.Signature.{Signature}
use Rattle.go_model.specs.declared.types.term.Term.{Term}
use Rattle.go_package_scopes.proofs.DeclaredNames.{form_of}
use Rattle.go_package_scopes.proofs.KeptMethods.{method_elsewhere, method_more}
use Rattle.go_package_scopes.proofs.KeptObjects.{objects_more}
use Rattle.go_package_scopes.proofs.KeptTypes.{type_elsewhere, type_more}
use Rattle.go_package_scopes.proofs.OneMoreEntry.{itself, same_number}
use Rattle.go_package_scopes.specs.KeptScopes.{Keeps, with_entry}
use Rattle.go_rules.specs.Expressions.{is_blank}
use Rattle.go_rules.specs.Names.{Named, items_at, value_at}
use Rattle.go_rules.specs.Scopes.{Scopes, with_defined}
use Rattle.go_syntax.specs.declared.declaration.Func.{Func}
use Rattle.go_syntax.specs.declared.declaration.TypeSpec.{TypeSpec}
use Rattle.go_syntax.specs.declared.types.ParameterDecl.{ParameterDecl}
use Rattle.go_typings.specs.Declarations.{Form, constants, variables, alias, definition, function, method, declarations, declared, Declaration, Declared, names_of}
use Rattle.go_typings.specs.PackageEnvironments.{as_object, Entries, entity_at, entity_by, object_of, objects, signed, underlying}
use Rattle.go_typings.specs.Receivers.{base}
use Rattle.go_typings.specs.Sources.{PackageSource, Setting}
use Rattle.go_package_entries.proofs.EachMethod.{each_kept}
use Rattle.go_package_entries.proofs.GivenObjects.{objects_given}
use Rattle.go_package_entries.proofs.ShownRows.{shown_there, type_shows}
use Rattle.go_package_entries.specs.inner.GivenObjects.{with_objects}
use Rattle.go_package_entries.specs.inner.ShownMethods.{shown_of, shown_rows, with_each}
use Rattle.go_package_entries.specs.inner.TakenEntries.{is_of, with_shown, with_type}

module _ (s : Setting) (u : PackageSource) (a : Entries) (c : Scopes) (n : ℕ) (d : Declaration) (keeps : Keeps s u a c) (fresh : a n ≡ None) (at : slice_get (declarations u) n ≡ Some d) where
  -- ---- objects

  nothing_by : (number place : ℕ) (f : Form) → a number ≡ None → ((spec : TypeSpec) → f ≡ definition spec → ⊥) → entity_by u.path a number place f ≡ None
  nothing_by number place (definition spec) e not = absurd (not spec refl)
  nothing_by number place (constants spec k) e not = ap (λ o. object_of o place) e
  nothing_by number place (variables spec) e not = ap (λ o. object_of o place) e
  nothing_by number place (alias spec) e not = ap (λ o. object_of o place) e
  nothing_by number place (function f) e not = ap (λ o. object_of o place) e
  nothing_by number place (method receiver f) e not = ap (λ o. object_of o place) e

  pub objects_kept : (t : Named NamePlace) → AreDeclared (declarations u) t → ((spec : TypeSpec) → d.form ≡ definition spec → ⊥) → (xs : List Entity)
      → Keeps s u (with_entry a n (objects xs)) (record c { declared = with_objects t n xs 0 (names_of d.form) c.declared })
  objects_kept t are not xs =
      objects_more s u a c n d xs (with_objects t n xs 0 (names_of d.form) c.declared) keeps fresh at not (objects_given (declarations u) t are n d at xs c.declared none)
    where
      none : (name : List ℕ) (w : Declared) → declared (declarations u) name ≡ Some w → w.number ≡ n → value_at c.declared name ≡ None
      none name w e same =
          keeps.objects name ∙ ap (λ o. as_object (entity_at u.path a o)) e
          ∙ ap as_object (nothing_by w.number w.place w.form (ap a same ∙ fresh) (λ spec f. not spec (sym (form_of (declarations u) name w n d e same at) ∙ f)))

  -- ---- types

  first_by : (o : Option Declared) (b : Bool) → is_of (place_of o) n ≡ b → b ≡ true → (w : Declared) × (o ≡ Some w) × (w.number ≡ n)
  first_by None b e f = absurd (true≢false (sym f ∙ sym e))
  first_by (Some w) b e f = (w, refl, same_number w.number n (e ∙ f))

  pub type_kept : (t : Named NamePlace) (ms : Named (List MethodRow)) (tk : Named (Named (List MethodRow))) → AreDeclared (declarations u) t → AreMethods (declarations u) ms → AreNamesakes (declarations u) tk
      → (spec : TypeSpec) → d.form ≡ definition spec → (x : Term)
      → Keeps s u (with_entry a n (underlying x))
      (with_type c (is_of (value_at t spec.name.text) n) spec.name.text x (shown_of (with_entry a n (underlying x)) (declarations u) c.path tk spec.name.text (items_at ms spec.name.text)))
  type_kept t ms tk are rows namesakes spec form x = by (is_of (value_at t spec.name.text) n) refl
    where
      later : Entries
      later = with_entry a n (underlying x)

      defined : List ℕ → Defined
      defined path = record { name = spec.name.text; underlying = x; methods = shown_of later (declarations u) path tk spec.name.text (items_at ms spec.name.text) }

      shows : (path : List ℕ) → path ≡ u.path → Keeps s u later (with_defined c (defined u.path)) → Keeps s u later (with_defined c (defined path))
      shows path e k = subst (λ (p : List ℕ). Keeps s u later (with_defined c (defined p))) (sym e) k

      by : (b : Bool) → is_of (value_at t spec.name.text) n ≡ b → Keeps s u later (if b then with_defined c (defined c.path) else c)
      by true e = shows c.path keeps.path (type_more s u a c n d spec x keeps fresh at form (defined u.path)
          (first_by (declared (declarations u) spec.name.text) true (ap (λ o. is_of o n) (sym (are spec.name.text)) ∙ e) refl)
          (record { underlying = refl; methods = λ k. type_shows later u spec.name.text tk (items_at ms spec.name.text) (rows u refl spec.name.text) (namesakes u refl spec.name.text) k }))
      by false e = type_elsewhere s u a c n d spec x keeps fresh at form (λ k.
          true≢false (sym (ap (λ o. is_of o n) (are spec.name.text ∙ ap place_of k.1) ∙ ap (λ m. nat_eq m n) k.2 ∙ itself n) ∙ e))

  -- ---- methods

  pub method_kept : (ms : Named (List MethodRow)) (tk : Named (Named (List MethodRow))) → AreMethods (declarations u) ms → AreNamesakes (declarations u) tk
      → (receiver : ParameterDecl) (f : Func) → d.form ≡ method receiver f → (g : Signature)
      → Keeps s u (with_entry a n (signed g)) (with_shown (with_entry a n (signed g)) tk (base (declarations u) receiver) f.name.text c)
  method_kept ms tk rows namesakes receiver f form g = by (base (declarations u) receiver) refl
    where
      later : Entries
      later = with_entry a n (signed g)

      elsewhere : ((type : List ℕ) → base (declarations u) receiver ≡ Some type → is_blank f.name.text ≡ false → ⊥) → Keeps s u later c
      elsewhere h = method_elsewhere s u a c n d receiver f g keeps fresh at form h

      by : (o : Option (List ℕ)) → base (declarations u) receiver ≡ o → Keeps s u later (with_shown later tk o f.name.text c)
      by None e = elsewhere (λ type of shows. none type (sym e ∙ of))
        where
          none : (type : List ℕ) → ◌≡◌ {A = Option (List ℕ)} None (Some type) → ⊥
          none type h = cc
      by (Some type) e = blank (is_blank f.name.text) refl
        where
          blank : (b : Bool) → is_blank f.name.text ≡ b → Keeps s u later (if b then c else with_each c type (shown_rows later c.path f.name.text (rows_at tk type f.name.text)))
          blank true h = elsewhere (λ other of shows. true≢false (sym h ∙ shows))
          blank false h =
              subst (λ ns. Keeps s u later (with_each c type ns))
              (sym (ap (λ (p : List ℕ). shown_rows later p f.name.text (rows_at tk type f.name.text)) keeps.path
              ∙ shown_there later u f.name.text h type tk (items_at ms type) (rows u refl type) (namesakes u refl type f.name.text)))
              (each_kept s u later c type _ (method_more s u a c n d receiver f g keeps fresh at form type e h))
