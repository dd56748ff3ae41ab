-- The entry of a declaration of each form, taken into scopes that keep what is had.
use Rattle.std.proofs.Common.{◌≡◌, List, None, Some, refl, sym, ap, ◌∙◌, subst}
use Rattle.std.specs.Prelude.{slice_get}
use Rattle.go_declarations.specs.Listings.{declarations_of}
use Rattle.go_declared.specs.MethodTables.{AreMethods}
use Rattle.go_declared.specs.NameTables.{AreDeclared}
use Rattle.go_declared.specs.NamesakeTables.{AreNamesakes}
use Rattle.go_entries.specs.Entries.{entry_of}
use Rattle.go_entries.specs.HadEntries.{entries_at}
use Rattle.go_model.specs.declared.types.package.Entity.{Entity}
use Rattle.go_package_scopes.specs.KeptScopes.{Keeps, with_entry}
use Rattle.go_rules.specs.Names.{items_at, value_at}
use Rattle.go_rules.specs.Scopes.{Scopes}
use Rattle.go_syntax.specs.declared.declaration.TypeSpec.{TypeSpec}
use Rattle.go_typings.specs.Declarations.{Form, constants, variables, alias, definition, function, method, declarations, Declaration, names_of}
use Rattle.go_typings.specs.PackageEnvironments.{Entries, Entry, objects, signed, underlying}
use Rattle.go_typings.specs.Receivers.{base}
use Rattle.go_typings.specs.Sources.{PackageSource, Setting}
use Rattle.go_package_entries.proofs.KeptEntries.{method_kept, objects_kept, type_kept}
use Rattle.go_package_entries.specs.declared.grown.Grown.{Grown}
use Rattle.go_package_entries.specs.declared.tables.Tables.{Tables}
use Rattle.go_package_entries.specs.inner.GivenObjects.{with_objects}
use Rattle.go_package_entries.specs.inner.ShownMethods.{shown_of}
use Rattle.go_package_entries.specs.inner.TakenEntries.{Fits, entries_of, is_of, with_shown, with_taken, with_type}

module _ (s : Setting) (u : PackageSource) (c : Scopes) (t : Tables) (g : Grown) (d : Declaration)
    (listed : declarations u ≡ declarations_of t.declarations.now) (names : AreDeclared (declarations_of t.declarations.now) t.names.now)
    (methods : AreMethods (declarations u) t.methods.now) (namesakes : AreNamesakes (declarations u) t.namesakes)
    (keeps : Keeps s u (entries_at g.had.now) c) (fresh : entries_at g.had.now g.number ≡ None) (at : slice_get (declarations u) g.number ≡ Some d) where
  declared : AreDeclared (declarations u) t.names.now
  declared = subst (λ ds. AreDeclared ds t.names.now) (sym listed) names

  later : (x : Entry) → entry_of g.entry.now ≡ x → with_entry (entries_at g.had.now) g.number x ≡ entries_of g
  later x e = ap (with_entry (entries_at g.had.now) g.number) (sym e)

  as_objects : (f : Form) → d.form ≡ f → ((spec : TypeSpec) → f ≡ definition spec → ⊥) → (xs : List Entity) → entry_of g.entry.now ≡ objects xs → Keeps s u (entries_of g) (with_taken t g f (objects xs) c)
  as_objects f e not xs is =
      subst (λ (b : Entries). Keeps s u b (with_taken t g f (objects xs) c)) (later (objects xs) is)
      (subst (λ (h : Form). Keeps s u (with_entry (entries_at g.had.now) g.number (objects xs)) (record c { declared = with_objects t.names.now g.number xs 0 (names_of h) c.declared })) e
      (objects_kept s u (entries_at g.had.now) c g.number d keeps fresh at t.names.now declared (λ spec h. not spec (sym e ∙ h)) xs))

  by : (f : Form) (x : Entry) → d.form ≡ f → entry_of g.entry.now ≡ x → Fits f x → Keeps s u (entries_of g) (with_taken t g f x c)
  by (constants spec place) (objects xs) e is h = as_objects (constants spec place) e (λ k o. cc) xs is
  by (variables spec) (objects xs) e is h = as_objects (variables spec) e (λ k o. cc) xs is
  by (alias spec) (objects xs) e is h = as_objects (alias spec) e (λ k o. cc) xs is
  by (function f) (objects xs) e is h = as_objects (function f) e (λ k o. cc) xs is
  by (definition spec) (underlying x) e is h =
      subst (λ (b : Entries). Keeps s u b (with_type c (is_of (value_at t.names.now spec.name.text) g.number) spec.name.text x (shown_of b (declarations_of t.declarations.now) c.path t.namesakes spec.name.text (items_at t.methods.now spec.name.text))))
      (later (underlying x) is)
      (subst (λ ds. Keeps s u (with_entry (entries_at g.had.now) g.number (underlying x))
      (with_type c (is_of (value_at t.names.now spec.name.text) g.number) spec.name.text x (shown_of (with_entry (entries_at g.had.now) g.number (underlying x)) ds c.path t.namesakes spec.name.text (items_at t.methods.now spec.name.text))))
      listed
      (type_kept s u (entries_at g.had.now) c g.number d keeps fresh at t.names.now t.methods.now t.namesakes declared methods namesakes spec e x))
  by (method receiver f) (signed x) e is h =
      subst (λ (b : Entries). Keeps s u b (with_shown b t.namesakes (base (declarations_of t.declarations.now) receiver) f.name.text c)) (later (signed x) is)
      (subst (λ ds. Keeps s u (with_entry (entries_at g.had.now) g.number (signed x)) (with_shown (with_entry (entries_at g.had.now) g.number (signed x)) t.namesakes (base ds receiver) f.name.text c)) listed
      (method_kept s u (entries_at g.had.now) c g.number d keeps fresh at t.methods.now t.namesakes methods namesakes receiver f e x))
  by (constants spec place) (underlying x) e is h = absurd h
  by (constants spec place) (signed x) e is h = absurd h
  by (variables spec) (underlying x) e is h = absurd h
  by (variables spec) (signed x) e is h = absurd h
  by (alias spec) (underlying x) e is h = absurd h
  by (alias spec) (signed x) e is h = absurd h
  by (function f) (underlying x) e is h = absurd h
  by (function f) (signed x) e is h = absurd h
  by (definition spec) (objects xs) e is h = absurd h
  by (definition spec) (signed x) e is h = absurd h
  by (method receiver f) (objects xs) e is h = absurd h
  by (method receiver f) (underlying x) e is h = absurd h

  pub taken_kept : Fits d.form (entry_of g.entry.now) → Keeps s u (entries_of g) (with_taken t g d.form (entry_of g.entry.now) c)
  taken_kept h = by d.form (entry_of g.entry.now) refl refl h
