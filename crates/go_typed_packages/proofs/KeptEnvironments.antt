-- The environments of a package's declarations are kept, where what it is typed over and its entries are; so its entries are, and
-- the package.
use Rattle.std.proofs.Common.{◌≡◌, ℕ, zero, suc, ◌<◌, Bool, false, List, [], ◌∷◌, Option, Some, None, refl, sym, ap, ◌∙◌, subst, inl, inr, arith}
use Rattle.std.specs.Prelude.{codes, slice_get}
use Rattle.std.specs.List.Sorted.{IsStrictlySortedBy}
use Rattle.std.specs.Option.{option_or}
use Rattle.std.specs.Str.{bytes_eq}
use Rattle.std.proofs.lemmas.Slice.Eq.{bytes_eq-Decides}
use Rattle.go_base.proofs.Members.{each_has}
use Rattle.go_base.proofs.Ordered.{each_first}
use Rattle.go_base.specs.Keys.{first_with}
use Rattle.go_base.specs.Lists.{Each, Has}
use Rattle.go_model.specs.declared.constants.value.Basic.TheVariants as basic
use Rattle.go_model.specs.declared.types.names.Sel.{Sel}
use Rattle.go_model.specs.declared.types.names.TypeName.{TypeName}
use Rattle.go_model.specs.declared.types.package.Defined.{Defined}
use Rattle.go_model.specs.declared.types.package.Entity.{Entity}
use Rattle.go_model.specs.declared.types.package.Entity.TheVariants as entity
use Rattle.go_model.specs.declared.types.package.MethodOf.{MethodOf}
use Rattle.go_model.specs.declared.types.package.Object.{Object}
use Rattle.go_model.specs.declared.types.package.Package.{Package}
use Rattle.go_model.specs.declared.types.term.Method.{out-roll-Method}
use Rattle.go_model.specs.declared.types.term.Signature.{roll-Signature}
use Rattle.go_model.specs.declared.types.term.Term.{Term-F, roll-Term}
use Rattle.go_model.specs.types.Members.{AreOrdered}
use Rattle.go_model.specs.types.MethodSets.{method_sel}
use Rattle.go_model.specs.types.Terms.{IsBlank, blank, error_method, error_type, is_error}
use Rattle.go_model.specs.types.Underlying.{entry}
use Rattle.go_model.specs.worlds.Worlds.{defined_in, name_of, object_in, object_name, path_of, table_of}
use Rattle.go_rules.proofs.LocalTypes.{each_made}
use Rattle.go_rules.proofs.OneKind.{no_truth}
use Rattle.go_rules.specs.Scopes.{as_import, entity_of, of_universe}
use Rattle.go_rules.specs.Universe.{predeclared}
use Rattle.go_rules.specs.declared.predeclared.Predeclared.{Predeclared}
use Rattle.go_rules.specs.declared.seen.Seen.{Seen}
use Rattle.go_rules.specs.declared.seen.Seen.TheVariants as seen
use Rattle.go_syntax.specs.declared.declaration.TypeSpec.{TypeSpec}
use Rattle.go_typings.proofs.Cells.{before_has, either, if_false, if_true, none_some, some_once}
use Rattle.go_typings.proofs.GrowEnvironments.{object_back}
use Rattle.go_typings.proofs.OnePackage.{found, in_order}
use Rattle.go_typings.specs.Assignments.{before}
use Rattle.go_typings.specs.Declarations.{Form, constants, variables, alias, definition, function, method, Declaration, Declared, declarations, declared}
use Rattle.go_typings.specs.PackageEnvironments.{Entries, Entry, objects, underlying, signed, as_object, entity_at, entity_by, environment, had, import_of, meaning_at, object_of, own_defined, own_type, path_in, types_of}
use Rattle.go_typings.specs.Receivers.{methods}
use Rattle.go_typings.specs.Sources.{PackageSource, Setting}
use Rattle.go_typings.specs.Typings.{Typing}
use Rattle.go_exposed.specs.OfferedPackages.{IsPackageOf}
use Rattle.go_typed_packages.proofs.KeptDeclarations.{gives_kept}
use Rattle.go_typed_packages.proofs.KeptResults.{basic_kept, signature_kept}
use Rattle.go_typed_packages.proofs.KeptTerms.{close_term}
use Rattle.go_typed_packages.proofs.NamedParts.{all_named}
use Rattle.go_typed_packages.proofs.OwnDeclarations.{asked_at, had_as, had_within, kept_denotes, method_at, own_type_of}
use Rattle.go_typed_packages.proofs.Shapes.{type_of}
use Rattle.go_typed_packages.specs.inner.KeptTypes.{DeclaredKept, DefinedKept, EntityKept, EntriesKept, EntryKept, EnvKept, PackageKept, SeenKept, SignatureKept, SourceKept, TermKept, error_sel}

-- ---- the predeclared `error`

error_named : IsBlank error_sel → ⊥
error_named e = no_truth (sym ((bytes_eq-Decides (codes "Error") blank).1 e))

one_ordered : (s : Sel) → (IsBlank s → ⊥) → AreOrdered (s ∷ [])
unfolding IsStrictlySortedBy
one_ordered s h = record { ordered = (tt, tt); named = (h, tt) }

module _ (N : TypeName → Type 0) (S : Sel → Type 0) where
  error_kept : S error_sel → DefinedKept N S error_type
  error_kept h =
      let e = out-roll-Method (record { sel = error_sel; signature = roll-Signature (record { params = []; variadic = false; results = roll-Term (Term-F.Plain basic.Str) ∷ [] }) }) in
      record {
        beneath = close_term N S (Term-F.Interface (error_method ∷ [])) (
          one_ordered (method_sel error_method) (subst (λ (x : _). IsBlank x.sel → ⊥) (sym e) error_named),
          (
            record {
              sel = subst (λ (x : _). S x.sel) (sym e) h;
              signature = subst (λ (x : _). SignatureKept N S x.signature) (sym e) (signature_kept N S [] (roll-Term (Term-F.Plain basic.Str) ∷ []) false tt (basic_kept N S basic.Str, tt));
            },
            tt,
          ),
        );
        methods = tt;
      }

  -- ---- imports

  object_kept : (p : Package) (c : Option Object) (name : List ℕ) (x : Entity) → PackageKept N S p → c ≡ first_with object_name p.objects name → entity_of c ≡ Some x → EntityKept N S x
  object_kept p None name x h f e = none_some (entity_of None) x refl e
  object_kept p (Some o) name x h f e = subst (EntityKept N S) (some_once o.entity x e) (each_first object_name (λ (z : Object). EntityKept N S z.entity) p.objects name o f h.entities)

  found_object : (c : Option Package) (name : List ℕ) (x : Entity) → ((p : Package) → c ≡ Some p → PackageKept N S p) → entity_of (object_in c name) ≡ Some x → EntityKept N S x
  found_object None name x h e = none_some (entity_of (object_in None name)) x refl e
  found_object (Some p) name x h e = object_kept p (first_with object_name p.objects name) name x (h p refl) refl e

  found_defined : (c : Option Package) (name : List ℕ) (d : Defined) → ((p : Package) → c ≡ Some p → PackageKept N S p) → defined_in c name ≡ Some d → DefinedKept N S d
  found_defined None name d h e = none_some (defined_in None name) d refl e
  found_defined (Some p) name d h e = each_first name_of (DefinedKept N S) p.defined name d (sym e) (h p refl).types

  module _ (s : Setting) (u : PackageSource) (r : SourceKept N S s u) where
    own_type_kept : (name : List ℕ) (w : Declared) (c : TypeSpec) → declared (declarations u) name ≡ Some w → w.form ≡ definition c → TermKept N S (own_type u.path c.name.text)
    own_type_kept name w c e f = close_term N S (Term-F.Named (record { path = u.path; name = c.name.text })) (r.types name w c e f)

    module _ (b : Entries) (h : EntriesKept N S b) where
      object_of_kept : (n place : ℕ) (x : Entity) → object_of (b n) place ≡ Some x → EntityKept N S x
      object_of_kept n place x e = let q = object_back (b n) place x e in at_kept q.0 place q.2 (h n (objects q.0) q.1)
        where
          at_kept : (xs : List Entity) (k : ℕ) → slice_get xs k ≡ Some x → Each (EntityKept N S) xs → EntityKept N S x
          at_kept [] k f i = none_some (slice_get [] k) x refl f
          at_kept (y ∷ ys) zero f i = subst (EntityKept N S) (some_once y x f) i.0
          at_kept (y ∷ ys) (suc k) f i = at_kept ys k f i.1

      entity_by_kept : (n place : ℕ) (f : Form) (x : Entity) → ((c : TypeSpec) → f ≡ definition c → TermKept N S (own_type u.path c.name.text)) → entity_by u.path b n place f ≡ Some x → EntityKept N S x
      entity_by_kept n place (constants c at) x k e = object_of_kept n place x e
      entity_by_kept n place (variables c) x k e = object_of_kept n place x e
      entity_by_kept n place (alias c) x k e = object_of_kept n place x e
      entity_by_kept n place (definition c) x k e = subst (EntityKept N S) (some_once (entity.TypeOf (own_type u.path c.name.text)) x e) (k c refl)
      entity_by_kept n place (function f) x k e = object_of_kept n place x e
      entity_by_kept n place (method m f) x k e = object_of_kept n place x e

      -- what a name of the package denotes
      pub entity_at_kept : (name : List ℕ) (c : Option Declared) (x : Entity) → declared (declarations u) name ≡ c → entity_at u.path b c ≡ Some x → EntityKept N S x
      entity_at_kept name None x f e = none_some (entity_at u.path b None) x refl e
      entity_at_kept name (Some w) x f e = entity_by_kept w.number w.place w.form x (λ c g. own_type_kept name w c f g) e

      object_seen_kept : (c : Option Entity) (m : Seen) → ((x : Entity) → c ≡ Some x → EntityKept N S x) → as_object c ≡ Some m → SeenKept N S m
      object_seen_kept None m k e = none_some (as_object None) m refl e
      object_seen_kept (Some x) m k e = subst (SeenKept N S) (some_once (seen.Object x) m e) (k x refl)

      universe_kept : (c : Option Predeclared) (m : Seen) → of_universe c ≡ Some m → SeenKept N S m
      universe_kept None m e = none_some (of_universe None) m refl e
      universe_kept (Some p) m e = subst (SeenKept N S) (some_once (seen.Universe p) m e) tt

      meaning_at_kept : (name : List ℕ) (c : Option Declared) (m : Seen) → declared (declarations u) name ≡ c → meaning_at u.path b name c ≡ Some m → SeenKept N S m
      meaning_at_kept name None m f e = universe_kept (predeclared name) m e
      meaning_at_kept name (Some w) m f e = object_seen_kept (entity_by u.path b w.number w.place w.form) m (λ x g. entity_at_kept name (Some w) x f g) e

      meaning_kept : (name : List ℕ) (i : Option (List ℕ)) (m : Seen) → option_or (as_import i) (meaning_at u.path b name (declared (declarations u) name)) ≡ Some m → SeenKept N S m
      meaning_kept name None m e = meaning_at_kept name (declared (declarations u) name) m refl e
      meaning_kept name (Some path) m e = subst (SeenKept N S) (some_once (seen.Import path) m e) tt

      -- ---- defined types

      own_method : (name : List ℕ) (m : MethodOf) → Has (had b (methods u name)) m → DeclaredKept N S m
      own_method name m k =
          let q = had_as b (methods u name) m k in
          let at = method_at u name q.declares q.has in
          record { sel = subst S (sym (q.sel ∙ at.sel)) (r.own at.func.name.text); signature = h q.declares.number (signed m.signature) q.entry }

      own_kept : (name : List ℕ) (d : Defined) → own_defined u b name ≡ Some d → DefinedKept N S d
      own_kept name d e =
          let o = own_type_of u b name d e in
          subst (DefinedKept N S) (sym o.made) (record { beneath = h o.at.number (underlying o.beneath) o.entry; methods = each_made (had b (methods u name)) (own_method name) })

      type_kept_at : (n : TypeName) (d : Defined) → entry (types_of s u b) n ≡ Some d → DefinedKept N S d
      type_kept_at n d e = elim (either (is_error n)) [
        | inl q ↦ subst (DefinedKept N S) (some_once error_type d (sym (if_true (is_error n) (Some error_type) (types_of s u b n) q) ∙ e)) (error_kept r.exported)
        | inr q ↦ (let f = sym (if_false (is_error n) (Some error_type) (types_of s u b n) q) ∙ e in elim (either (bytes_eq u.path n.path)) [
          | inl p ↦ own_kept n.name d (sym (if_true (bytes_eq u.path n.path) (own_defined u b n.name) (table_of s.world.packages n) p) ∙ f)
          | inr p ↦ found_defined (first_with path_of s.world.packages n.path) n.name d (r.imports n.path) (sym (if_false (bytes_eq u.path n.path) (own_defined u b n.name) (table_of s.world.packages n) p) ∙ f)
        ])
      ]

      pub environment_kept : (d : Declaration) → EnvKept N S (environment s u b d)
      environment_kept d = record {
        own = r.own;
        error = r.error;
        meaning = λ name m e. meaning_kept name (path_in (import_of u d.file name)) m e;
        object = λ path name x e. found_object (first_with path_of s.world.packages path) name x (r.imports path) e;
        entry = type_kept_at;
      }

    -- ---- entries

    module _ (W : ℕ → Bool) (a : Entries) (t : Typing s u W a) where
      abbrev part : ℕ → Entries
      part n = before t.had.order (t.had.order n) a

      entry_kept_by : (k n : ℕ) → t.had.order n < k → (x : Entry) → a n ≡ Some x → EntryKept N S x
      entry_kept_by zero n l x e = absurd (omega (arith, l))
      entry_kept_by (suc k) n l x e =
          let w = had_within s u W a t n x e in
          let g = t.had.below n w in
          let h : EntriesKept N S (part n) = λ j y f. (let p = before_has t.had.order (t.had.order n) a j y f in let o = p.0 in entry_kept_by k j (omega (arith, o, l)) y p.1) in
          let named = all_named (environment s u a g.0) _ (asked_at s u W a t n g.0 w g.1).meets in
          subst (EntryKept N S) (some_once g.2.0 x (sym g.2.1 ∙ e)) (gives_kept N S (environment s u (part n) g.0) (environment_kept (part n) h g.0) named g.2.2)

      entries_kept : EntriesKept N S a
      entries_kept n x e = entry_kept_by (suc (t.had.order n)) n (omega arith) x e

      -- ---- the package

      module _ (p : Package) (x : IsPackageOf u a p) where
        own_object : (o : Object) → Has p.objects o → EntityKept N S o.entity
        own_object o h = entity_at_kept a entries_kept o.name (declared (declarations u) o.name) o.entity refl
            (kept_denotes u.path a (declared (declarations u) o.name) o.entity (sym (x.objects o.name) ∙ ap entity_of (found object_name p.objects o (in_order object_name p.objects x.objects_ordered) h)))

        own_defined_type : (d : Defined) → Has p.defined d → DefinedKept N S d
        own_defined_type d h =
            let k = type_of u a p x d h in
            let q = own_kept a entries_kept d.name k.had_type k.is in record {
              beneath = subst (TermKept N S) (sym k.same.underlying) q.beneath;
              methods = each_made d.methods (λ m i. each_has (DeclaredKept N S) k.had_type.methods m q.methods ((k.same.same m).0 i));
            }

        pub package_kept : PackageKept N S p
        package_kept = record { entities = each_made p.objects own_object; types = each_made p.defined own_defined_type }
