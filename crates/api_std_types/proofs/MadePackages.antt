-- A package is of made types, where what it is typed over is, and what it declares.
use Rattle.std.proofs.Common.{◌≡◌, ℕ, zero, suc, ◌<◌, Bool, false, List, [], ◌∷◌, Option, Some, None, refl, sym, ap, ◌∙◌, subst, inl, inr, arith}
use Rattle.std.specs.Prelude.{slice_get}
use Rattle.std.specs.Option.{option_or}
use Rattle.std.specs.Str.{bytes_eq}
use Rattle.go_base.specs.Keys.{first_with}
use Rattle.go_base.specs.Lists.{Each, Has}
use Rattle.go_model.specs.declared.constants.value.Basic.TheVariants as basic
use Rattle.go_model.specs.declared.types.names.Sel.{Sel}
use Rattle.go_model.specs.declared.types.names.TypeName.{TypeName}
use Rattle.go_model.specs.declared.types.package.Defined.{Defined}
use Rattle.go_model.specs.declared.types.package.Entity.{Entity}
use Rattle.go_model.specs.declared.types.package.Entity.TheVariants as entity
use Rattle.go_model.specs.declared.types.package.MethodOf.{MethodOf}
use Rattle.go_model.specs.declared.types.package.Object.{Object}
use Rattle.go_model.specs.declared.types.package.Package.{Package}
use Rattle.go_model.specs.declared.types.term.Method.{out-Method}
use Rattle.go_model.specs.declared.types.term.Signature.{Signature}
use Rattle.go_model.specs.declared.types.term.Term.{Term-F}
use Rattle.go_model.specs.types.MethodSets.{method_sel}
use Rattle.go_model.specs.types.Terms.{error_method, error_type, is_error}
use Rattle.go_model.specs.types.Underlying.{entry}
use Rattle.go_model.specs.worlds.Worlds.{defined_in, name_of, object_in, object_name, path_of, table_of}
use Rattle.go_rules.specs.Operands.{basic_term}
use Rattle.go_rules.specs.Regions.{error_name}
use Rattle.go_rules.specs.Scopes.{as_import, entity_of, of_universe}
use Rattle.go_rules.specs.Universe.{predeclared}
use Rattle.go_rules.specs.declared.predeclared.Predeclared.{Predeclared}
use Rattle.go_rules.specs.declared.seen.Seen.{Seen}
use Rattle.go_rules.specs.declared.seen.Seen.TheVariants as seen
use Rattle.go_shared_types.proofs.PartNames.{error_signature}
use Rattle.go_syntax.specs.declared.declaration.TypeSpec.{TypeSpec}
use Rattle.go_type_images.specs.Parts.{function_type}
use Rattle.go_typed_packages.proofs.OwnDeclarations.{had_as, had_within, kept_denotes, method_at, own_type_of}
use Rattle.go_typed_packages.proofs.Shapes.{type_of}
use Rattle.go_typings.proofs.Cells.{before_has, either, if_false, if_true, none_some, some_once}
use Rattle.go_typings.proofs.GrowEnvironments.{object_back}
use Rattle.go_typings.proofs.OnePackage.{found, in_order}
use Rattle.go_typings.proofs.ReachedRegion.{first_has, import_has}
use Rattle.go_typings.specs.Assignments.{before}
use Rattle.go_typings.specs.Declarations.{Form, constants, variables, alias, definition, function, method, Declaration, Declared, declarations, declared}
use Rattle.go_typings.specs.PackageEnvironments.{Entries, Entry, objects, underlying, signed, as_object, entity_at, entity_by, environment, had, had_path, import_of, meaning_at, object_of, own_defined, own_type, path_in, types_of}
use Rattle.go_typings.specs.Receivers.{methods, selector}
use Rattle.go_typings.specs.Sources.{Import, PackageSource, Setting, imports_of}
use Rattle.go_typings.specs.Typings.{Typing}
use Rattle.go_exposed.specs.OfferedPackages.{IsPackageOf}
use Rattle.api_std_types.proofs.MadeTypes.{DefinedMade, Made, basic_made, interface_made, rolled, signature_made}
use Rattle.api_std_types.proofs.MadeOperands.{EntityMade, EnvMade, SeenMade}
use Rattle.api_std_types.proofs.MadeDeclarations.{EntryMade, gives_made}

module _ (N : TypeName → Type 0) (Q : Sel → Type 0) (M : Sel → Signature → Type 0) (I : List ℕ → Type 0) where
  -- the types of a package
  pub record PackageMade (p : Package) : Type 0 where
    pub entities : (o : Object) → Has p.objects o → EntityMade N Q M I o.entity
    pub types : (d : Defined) → Has p.defined d → DefinedMade N Q M d

  -- what a package is typed over, and what it declares
  pub record SourceMade (s : Setting) (u : PackageSource) : Type 0 where
    pub own_field : (name : List ℕ) → Q (selector u.path name)
    pub own_method : (name : List ℕ) (g : Signature) → Made N Q M (function_type g) → M (selector u.path name) g
    pub error : N error_name
    pub error_made : M (method_sel error_method) (out-Method error_method).signature
    pub paths : (file : ℕ) (i : Import) → Has (imports_of u file) i → I (had_path i)
    pub imports : (path : List ℕ) (q : Package) → I path → first_with path_of s.world.packages path ≡ Some q → PackageMade q
    pub others : (n : TypeName) (q : Package) → N n → is_error n ≡ false → bytes_eq u.path n.path ≡ false → first_with path_of s.world.packages n.path ≡ Some q → PackageMade q
    pub types : (name : List ℕ) (w : Declared) (c : TypeSpec) → declared (declarations u) name ≡ Some w → w.form ≡ definition c → N (record { path = u.path; name = c.name.text })

  abbrev Own : Entries → Type 0
  Own b = (n : ℕ) (x : Entry) → b n ≡ Some x → EntryMade N Q M I x

  -- ---- the predeclared `error`

  pub error_kept : M (method_sel error_method) (out-Method error_method).signature → DefinedMade N Q M error_type
  error_kept h = record {
    beneath = interface_made N Q M (error_method ∷ []) (
      record { sel = h; type = subst (λ g. Made N Q M (function_type g)) (sym error_signature) (signature_made N Q M [] (basic_term basic.Str ∷ []) false tt (basic_made N Q M basic.Str, tt)) },
      tt,
    );
    methods = λ m k. absurd k;
  }

  -- ---- imports

  object_kept : (p : Package) (c : Option Object) (name : List ℕ) (x : Entity) → PackageMade p → first_with object_name p.objects name ≡ c → entity_of c ≡ Some x → EntityMade N Q M I x
  object_kept p None name x h f e = none_some (entity_of None) x refl e
  object_kept p (Some o) name x h f e = subst (EntityMade N Q M I) (some_once o.entity x e) (h.entities o (first_has object_name p.objects name o f))

  found_object : (c : Option Package) (name : List ℕ) (x : Entity) → ((p : Package) → c ≡ Some p → PackageMade p) → entity_of (object_in c name) ≡ Some x → EntityMade N Q M I x
  found_object None name x h e = none_some (entity_of (object_in None name)) x refl e
  found_object (Some p) name x h e = object_kept p (first_with object_name p.objects name) name x (h p refl) refl e

  pub found_defined : (c : Option Package) (name : List ℕ) (d : Defined) → ((p : Package) → c ≡ Some p → PackageMade p) → defined_in c name ≡ Some d → DefinedMade N Q M d
  found_defined None name d h e = none_some (defined_in None name) d refl e
  found_defined (Some p) name d h e = (h p refl).types d (first_has name_of p.defined name d e)

  module _ (s : Setting) (u : PackageSource) (r : SourceMade s u) where
    own_type_made : (name : List ℕ) (w : Declared) (c : TypeSpec) → declared (declarations u) name ≡ Some w → w.form ≡ definition c → Made N Q M (own_type u.path c.name.text)
    own_type_made name w c e f = rolled N Q M (Term-F.Named (record { path = u.path; name = c.name.text })) (r.types name w c e f) (λ x k. absurd k)

    module _ (b : Entries) (h : Own b) where
      object_of_made : (n place : ℕ) (x : Entity) → object_of (b n) place ≡ Some x → EntityMade N Q M I x
      object_of_made n place x e = let q = object_back (b n) place x e in at_made q.0 place q.2 (h n (objects q.0) q.1)
        where
          at_made : (xs : List Entity) (k : ℕ) → slice_get xs k ≡ Some x → Each (EntityMade N Q M I) xs → EntityMade N Q M I x
          at_made [] k f i = none_some (slice_get [] k) x refl f
          at_made (y ∷ ys) zero f i = subst (EntityMade N Q M I) (some_once y x f) i.0
          at_made (y ∷ ys) (suc k) f i = at_made ys k f i.1

      entity_by_made : (n place : ℕ) (f : Form) (x : Entity) → ((c : TypeSpec) → f ≡ definition c → Made N Q M (own_type u.path c.name.text)) → entity_by u.path b n place f ≡ Some x → EntityMade N Q M I x
      entity_by_made n place (constants c at) x k e = object_of_made n place x e
      entity_by_made n place (variables c) x k e = object_of_made n place x e
      entity_by_made n place (alias c) x k e = object_of_made n place x e
      entity_by_made n place (definition c) x k e = subst (EntityMade N Q M I) (some_once (entity.TypeOf (own_type u.path c.name.text)) x e) (k c refl)
      entity_by_made n place (function f) x k e = object_of_made n place x e
      entity_by_made n place (method m f) x k e = object_of_made n place x e

      -- what a name of the package denotes
      entity_at_made : (name : List ℕ) (c : Option Declared) (x : Entity) → declared (declarations u) name ≡ c → entity_at u.path b c ≡ Some x → EntityMade N Q M I x
      entity_at_made name None x f e = none_some (entity_at u.path b None) x refl e
      entity_at_made name (Some w) x f e = entity_by_made w.number w.place w.form x (λ c g. own_type_made name w c f g) e

      object_seen_made : (c : Option Entity) (m : Seen) → ((x : Entity) → c ≡ Some x → EntityMade N Q M I x) → as_object c ≡ Some m → SeenMade N Q M I m
      object_seen_made None m k e = none_some (as_object None) m refl e
      object_seen_made (Some x) m k e = subst (SeenMade N Q M I) (some_once (seen.Object x) m e) (k x refl)

      universe_made : (c : Option Predeclared) (m : Seen) → of_universe c ≡ Some m → SeenMade N Q M I m
      universe_made None m e = none_some (of_universe None) m refl e
      universe_made (Some p) m e = subst (SeenMade N Q M I) (some_once (seen.Universe p) m e) tt

      meaning_at_made : (name : List ℕ) (c : Option Declared) (m : Seen) → declared (declarations u) name ≡ c → meaning_at u.path b name c ≡ Some m → SeenMade N Q M I m
      meaning_at_made name None m f e = universe_made (predeclared name) m e
      meaning_at_made name (Some w) m f e = object_seen_made (entity_by u.path b w.number w.place w.form) m (λ x g. entity_at_made name (Some w) x f g) e

      meaning_made : (file : ℕ) (name : List ℕ) (i : Option Import) (m : Seen) → import_of u file name ≡ i → option_or (as_import (path_in i)) (meaning_at u.path b name (declared (declarations u) name)) ≡ Some m → SeenMade N Q M I m
      meaning_made file name None m f e = meaning_at_made name (declared (declarations u) name) m refl e
      meaning_made file name (Some i) m f e = subst (SeenMade N Q M I) (some_once (seen.Import (had_path i)) m e) (r.paths file i (import_has u file name i f))

      -- ---- defined types

      own_method : (name : List ℕ) (m : MethodOf) → Has (had b (methods u name)) m → Made N Q M (function_type m.signature) × M m.sel m.signature
      own_method name m k =
          let q = had_as b (methods u name) m k in
          let at = method_at u name q.declares q.has in
          let g = h q.declares.number (signed m.signature) q.entry in
          (g, subst (λ x. M x m.signature) (sym (q.sel ∙ at.sel)) (r.own_method at.func.name.text m.signature g))

      own_made : (name : List ℕ) (d : Defined) → own_defined u b name ≡ Some d → DefinedMade N Q M d
      own_made name d e =
          let o = own_type_of u b name d e in
          subst (DefinedMade N Q M) (sym o.made) (record { beneath = h o.at.number (underlying o.beneath) o.entry; methods = own_method name })

      types_made : (n : TypeName) (d : Defined) → N n → entry (types_of s u b) n ≡ Some d → DefinedMade N Q M d
      types_made n d z e = elim (either (is_error n)) [
        | inl q ↦ subst (DefinedMade N Q M) (some_once error_type d (sym (if_true (is_error n) (Some error_type) (types_of s u b n) q) ∙ e)) (error_kept r.error_made)
        | inr q ↦ (let f = sym (if_false (is_error n) (Some error_type) (types_of s u b n) q) ∙ e in elim (either (bytes_eq u.path n.path)) [
          | inl p ↦ own_made n.name d (sym (if_true (bytes_eq u.path n.path) (own_defined u b n.name) (table_of s.world.packages n) p) ∙ f)
          | inr p ↦ found_defined (first_with path_of s.world.packages n.path) n.name d (λ x. r.others n x z q p) (sym (if_false (bytes_eq u.path n.path) (own_defined u b n.name) (table_of s.world.packages n) p) ∙ f)
        ])
      ]

      environment_made : (d : Declaration) → EnvMade N Q M I (environment s u b d)
      environment_made d = record {
        own_field = r.own_field;
        own_method = r.own_method;
        error = r.error;
        meaning = λ name m e. meaning_made d.file name (import_of u d.file name) m refl e;
        object = λ path name x i e. found_object (first_with path_of s.world.packages path) name x (λ q. r.imports path q i) e;
        types = types_made;
      }

    -- ---- entries

    module _ (W : ℕ → Bool) (a : Entries) (t : Typing s u W a) where
      abbrev part : ℕ → Entries
      part n = before t.had.order (t.had.order n) a

      entry_made_by : (k n : ℕ) → t.had.order n < k → (x : Entry) → a n ≡ Some x → EntryMade N Q M I x
      entry_made_by zero n l x e = absurd (omega (arith, l))
      entry_made_by (suc k) n l x e =
          let w = had_within s u W a t n x e in
          let g = t.had.below n w in
          let h : Own (part n) = λ j y f. (let p = before_has t.had.order (t.had.order n) a j y f in let o = p.0 in entry_made_by k j (omega (arith, o, l)) y p.1) in
          subst (EntryMade N Q M I) (some_once g.2.0 x (sym g.2.1 ∙ e)) (gives_made N Q M I (environment s u (part n) g.0) (environment_made (part n) h g.0) g.2.2)

      entries_made : Own a
      entries_made n x e = entry_made_by (suc (t.had.order n)) n (omega arith) x e

      -- ---- the package

      module _ (p : Package) (x : IsPackageOf u a p) where
        own_object : (o : Object) → Has p.objects o → EntityMade N Q M I o.entity
        own_object o h = entity_at_made a entries_made o.name (declared (declarations u) o.name) o.entity refl
            (kept_denotes u.path a (declared (declarations u) o.name) o.entity (sym (x.objects o.name) ∙ ap entity_of (found object_name p.objects o (in_order object_name p.objects x.objects_ordered) h)))

        own_defined_type : (d : Defined) → Has p.defined d → DefinedMade N Q M d
        own_defined_type d h =
            let k = type_of u a p x d h in
            let q = own_made a entries_made d.name k.had_type k.is in record {
              beneath = subst (Made N Q M) (sym k.same.underlying) q.beneath;
              methods = λ m i. q.methods m ((k.same.same m).0 i);
            }

        pub package_made : PackageMade p
        package_made = record { entities = own_object; types = own_defined_type }
