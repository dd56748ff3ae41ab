-- The declarations of a closed set are a closed region of the environments of its members, where their entries are of it.
use Rattle.std.proofs.Common.{◌≡◌, ◌≢◌, ℕ, zero, suc, Bool, true, false, List, [], ◌∷◌, ◌++◌, Option, Some, None, refl, sym, ap, ◌∙◌, subst, inl, inr}
use Rattle.std.specs.Prelude.{if◌then◌else◌, slice_get}
use Rattle.std.specs.Option.{option_or}
use Rattle.std.specs.Str.{bytes_eq}
use Rattle.std.proofs.lemmas.Slice.Eq.{bytes_eq-Decides}
use Rattle.go_base.specs.Keys.{first_with}
use Rattle.go_base.specs.Lists.{Each, Has, Passes}
use Rattle.go_typings.specs.go_model.declared.types.names.TypeName.{TypeName}
use Rattle.go_typings.specs.go_model.declared.types.package.Defined.{Defined}
use Rattle.go_typings.specs.go_model.declared.types.package.Entity.{Entity}
use Rattle.go_typings.specs.go_model.declared.types.package.Entity.TheVariants as entity
use Rattle.go_typings.specs.go_model.declared.types.package.MethodOf.{MethodOf}
use Rattle.go_typings.specs.go_model.declared.types.package.Package.{Package}
use Rattle.go_typings.specs.go_model.declared.types.term.Signature.{Signature}
use Rattle.go_typings.specs.go_model.declared.types.term.Term.{Term-F}
use Rattle.go_typings.specs.go_model.types.Terms.{error_type, is_error}
use Rattle.go_typings.specs.go_model.types.Underlying.{entry}
use Rattle.go_typings.specs.go_model.worlds.PackageTypes.{package_names}
use Rattle.go_typings.specs.go_model.worlds.Worlds.{path_of, table_of}
use Rattle.go_typings.specs.go_rules.Regions.{EntityIn, IsClosed, Region, SeenIn, SignatureIn, TermIn, error_name}
use Rattle.go_typings.specs.go_rules.Scopes.{as_import, of_universe}
use Rattle.go_typings.specs.go_rules.Universe.{predeclared}
use Rattle.go_typings.specs.go_rules.declared.predeclared.Predeclared.{Predeclared}
use Rattle.go_typings.specs.go_rules.declared.seen.Seen.{Seen}
use Rattle.go_typings.specs.go_rules.declared.seen.Seen.TheVariants as seen
use Rattle.go_typings.proofs.go_rules_proofs.LocalTerms.{close_in}
use Rattle.go_typings.specs.go_syntax.declared.declaration.TypeSpec.{TypeSpec}
use Rattle.go_typings.specs.Declarations.{Form, constants, variables, alias, definition, function, method, Declaration, Declared, declarations, declared}
use Rattle.go_typings.specs.PackageEnvironments.{Entries, Entry, objects, underlying, signed, as_object, defined_at, defined_by, entity_by, environment, had, had_of, had_path, import_of, meaning_at, object_of, own_defined, own_type, path_in, signature_of, types_of, underlying_of}
use Rattle.go_typings.specs.Receivers.{DeclaredMethod, declared_methods, methods}
use Rattle.go_typings.specs.References.{DependsOn, to_method}
use Rattle.go_typings.specs.Sources.{Import, PackageSource, Setting}
use Rattle.go_typings.specs.Typings.{IsClosed as IsClosedSet}
use Rattle.go_typings.proofs.Cells.{either, if_false, if_true, none_some, some_once}
use Rattle.go_typings.proofs.GrowEnvironments.{object_back, signature_back, underlying_back, with_back}
use Rattle.go_typings.proofs.ReachedRegion.{DefinedIn, EntryIn, error_in, first_has, found_defined, found_object, own_path}
use Rattle.go_soundness.specs.Apart.{IsApart}
use Rattle.go_soundness.proofs.Members.{gathered}
use Rattle.go_soundness.proofs.DeclaredForms.{is_at, method_declared, own_name}

-- what a set has of a name: all that isn't declared, and what a declaration of the set declares
abbrev pub is_kept : (ℕ → Bool) → Option Declared → Bool
is_kept S None = true
is_kept S (Some w) = S w.number

abbrev pub keeps : PackageSource → (ℕ → Bool) → List ℕ → Bool
keeps u S name = is_kept S (declared (declarations u) name)

abbrev pub region : PackageSource → (ℕ → Bool) → Region
region u S = record { names = λ name. keeps u S name; types = λ n. if bytes_eq u.path n.path then keeps u S n.name else true; packages = λ path. true }

passes_all : {A : Type 0} (p : A → Bool) (xs : List A) → ((x : A) → Has xs x → p x ≡ true) → Passes p xs
passes_all p [] h = tt
passes_all p (x ∷ xs) h = (h x (inl refl), passes_all p xs (λ y k. h y (inr k)))

pub other_path : (a b : List ℕ) → b ≢ a → bytes_eq a b ≡ false
other_path a b h = elim (either (bytes_eq a b)) [ inl e ↦ absurd (h (sym ((bytes_eq-Decides a b).0 e))) | inr e ↦ e ]

module _ (s : Setting) (u : PackageSource) (apart : IsApart s u) (S : ℕ → Bool) (closed : IsClosedSet s u S) where
  abbrev R : Region
  R = region u S

  pub own_path_is : (name : List ℕ) → R.types (record { path = u.path; name = name }) ≡ keeps u S name
  own_path_is name = if_true (bytes_eq u.path u.path) (keeps u S name) true (own_path u.path)

  own_type_in : (name : List ℕ) → keeps u S name ≡ true → TermIn R (own_type u.path name)
  own_type_in name i = close_in R (Term-F.Named (record { path = u.path; name = name })) (own_path_is name ∙ i, tt)

  foreign : (n : TypeName) → n.path ≢ u.path → R.types n ≡ true
  foreign n h = if_false (bytes_eq u.path n.path) (keeps u S n.name) true (other_path u.path n.path h)

  package_in : (path : List ℕ) (p : Package) → first_with path_of s.world.packages path ≡ Some p → Passes R.types (package_names p)
  package_in path p e = passes_all R.types (package_names p) (λ n k. foreign n (apart.unnamed n (gathered package_names s.world.packages p n (first_has path_of s.world.packages path p e) k)))

  pub in_set : (name : List ℕ) (w : Declared) → keeps u S name ≡ true → declared (declarations u) name ≡ Some w → S w.number ≡ true
  in_set name w i e = sym (ap (is_kept S) e) ∙ i

  -- the methods of a defined type of the set are of the set
  pub methods_kept : (name : List ℕ) (w : Declared) (c : TypeSpec) → keeps u S name ≡ true → declared (declarations u) name ≡ Some w → w.form ≡ definition c → (m : DeclaredMethod) → Has (methods u name) m → S m.number ≡ true
  methods_kept name w c i e f m k =
      let q = is_at (declarations u) name w e in
      let n = own_name (declarations u) name w c e f in
      closed w.number m.number (in_set name w i e)
      (q.declaration, q.is, subst (λ z. DependsOn u z m.number) (sym (q.form ∙ f)) (to_method (m, subst (λ z. Has (declared_methods u z) m) (sym n) (method_declared u name m k), refl)))

  module _ (b : Entries) (h : (n : ℕ) (x : Entry) → S n ≡ true → b n ≡ Some x → EntryIn R x) where
    object_of_in : (n place : ℕ) (x : Entity) → S n ≡ true → object_of (b n) place ≡ Some x → EntityIn R x
    object_of_in n place x i e = let q = object_back (b n) place x e in at_in q.0 place q.2 (h n (objects q.0) i q.1)
      where
        at_in : (xs : List Entity) (k : ℕ) → slice_get xs k ≡ Some x → Each (EntityIn R) xs → EntityIn R x
        at_in [] k f i = none_some (slice_get [] k) x refl f
        at_in (y ∷ ys) zero f i = subst (EntityIn R) (some_once y x f) i.0
        at_in (y ∷ ys) (suc k) f i = at_in ys k f i.1

    entity_by_in : (n place : ℕ) (f : Form) (x : Entity) → S n ≡ true → ((c : TypeSpec) → f ≡ definition c → keeps u S c.name.text ≡ true) → entity_by u.path b n place f ≡ Some x → EntityIn R x
    entity_by_in n place (constants c at) x i k e = object_of_in n place x i e
    entity_by_in n place (variables c) x i k e = object_of_in n place x i e
    entity_by_in n place (alias c) x i k e = object_of_in n place x i e
    entity_by_in n place (definition c) x i k e = subst (EntityIn R) (some_once (entity.TypeOf (own_type u.path c.name.text)) x e) (own_type_in c.name.text (k c refl))
    entity_by_in n place (function f) x i k e = object_of_in n place x i e
    entity_by_in n place (method m f) x i k e = object_of_in n place x i e

    object_seen_in : (c : Option Entity) (m : Seen) → ((x : Entity) → c ≡ Some x → EntityIn R x) → as_object c ≡ Some m → SeenIn R m
    object_seen_in None m k e = none_some (as_object None) m refl e
    object_seen_in (Some x) m k e = subst (SeenIn R) (some_once (seen.Object x) m e) (k x refl)

    universe_in : (c : Option Predeclared) (m : Seen) → of_universe c ≡ Some m → SeenIn R m
    universe_in None m e = none_some (of_universe None) m refl e
    universe_in (Some p) m e = subst (SeenIn R) (some_once (seen.Universe p) m e) tt

    meaning_at_in : (name : List ℕ) (c : Option Declared) (m : Seen) → declared (declarations u) name ≡ c → keeps u S name ≡ true → meaning_at u.path b name c ≡ Some m → SeenIn R m
    meaning_at_in name None m f i e = universe_in (predeclared name) m e
    meaning_at_in name (Some w) m f i e =
        let k = λ (c : TypeSpec) (p : w.form ≡ definition c). subst (λ z. keeps u S z ≡ true) (sym (own_name (declarations u) name w c f p)) i in
        object_seen_in (entity_by u.path b w.number w.place w.form) m (λ x q. entity_by_in w.number w.place w.form x (in_set name w i f) k q) e

    meaning_in : (name : List ℕ) (c : Option Import) (m : Seen) → keeps u S name ≡ true → option_or (as_import (path_in c)) (meaning_at u.path b name (declared (declarations u) name)) ≡ Some m → SeenIn R m
    meaning_in name None m i e = meaning_at_in name (declared (declarations u) name) m refl i e
    meaning_in name (Some j) m i e = subst (SeenIn R) (some_once (seen.Import (had_path j)) m e) refl

    -- ---- defined types

    had_in : (ms : List DeclaredMethod) (m : MethodOf) → ((d : DeclaredMethod) → Has ms d → S d.number ≡ true) → Has (had b ms) m → SignatureIn R m.signature
    had_in [] m i k = absurd k
    had_in (d ∷ ds) m i k = first_or (signature_of (b d.number)) refl (λ j. had_in ds m (λ z q. i z (inr q)) j) k
      where
        first_or : (c : Option Signature) → signature_of (b d.number) ≡ c → (Has (had b ds) m → SignatureIn R m.signature) → Has (had_of d c ++ had b ds) m → SignatureIn R m.signature
        first_or None e f j = f j
        first_or (Some g) e f (inl p) = subst (λ (z : MethodOf). SignatureIn R z.signature) p (h d.number (signed g) (i d (inl refl)) (signature_back (b d.number) g e))
        first_or (Some g) e f (inr j) = f j

    form_in_region : (name : List ℕ) (n : ℕ) (f : Form) (d : Defined) → S n ≡ true → ((c : TypeSpec) → f ≡ definition c → (m : DeclaredMethod) → Has (methods u name) m → S m.number ≡ true) → defined_by u b name n f ≡ Some d → DefinedIn R d
    form_in_region name n (definition c) d i k e =
        let q = with_back name (had b (methods u name)) (underlying_of (b n)) d e in
        record {
          underlying_in = subst (λ (z : Defined). TermIn R z.underlying) (sym q.2) (h n (underlying q.0) i (underlying_back (b n) q.0 q.1));
          methods_in = λ m j. had_in (methods u name) m (k c refl) (subst (λ (z : Defined). Has z.methods m) q.2 j);
        }
    form_in_region name n (constants c at) d i k e = none_some (defined_by u b name n (constants c at)) d refl e
    form_in_region name n (variables c) d i k e = none_some (defined_by u b name n (variables c)) d refl e
    form_in_region name n (alias c) d i k e = none_some (defined_by u b name n (alias c)) d refl e
    form_in_region name n (function f) d i k e = none_some (defined_by u b name n (function f)) d refl e
    form_in_region name n (method m f) d i k e = none_some (defined_by u b name n (method m f)) d refl e

    own_in : (name : List ℕ) (c : Option Declared) (d : Defined) → declared (declarations u) name ≡ c → keeps u S name ≡ true → defined_at u b name c ≡ Some d → DefinedIn R d
    own_in name None d f i e = none_some (defined_at u b name None) d refl e
    own_in name (Some w) d f i e = form_in_region name w.number w.form d (in_set name w i f) (λ c p. methods_kept name w c i f p) e

    type_in : (n : TypeName) (d : Defined) → R.types n ≡ true → entry (types_of s u b) n ≡ Some d → DefinedIn R d
    type_in n d i e = elim (either (is_error n)) [
      | inl q ↦ subst (DefinedIn R) (some_once error_type d (sym (if_true (is_error n) (Some error_type) (types_of s u b n) q) ∙ e)) (error_in R)
      | inr q ↦ (let f = sym (if_false (is_error n) (Some error_type) (types_of s u b n) q) ∙ e in elim (either (bytes_eq u.path n.path)) [
        | inl p ↦ own_in n.name (declared (declarations u) n.name) d refl (sym (if_true (bytes_eq u.path n.path) (keeps u S n.name) true p) ∙ i) (sym (if_true (bytes_eq u.path n.path) (own_defined u b n.name) (table_of s.world.packages n) p) ∙ f)
        | inr p ↦ found_defined R (first_with path_of s.world.packages n.path) n.name d (package_in n.path) (sym (if_false (bytes_eq u.path n.path) (own_defined u b n.name) (table_of s.world.packages n) p) ∙ f)
      ])
    ]

    pub closed_region : (d : Declaration) → IsClosed (environment s u b d) R
    closed_region d = record {
      meaning = λ name m i e. meaning_in name (import_of u d.file name) m i e;
      object = λ path name x i e. found_object R (first_with path_of s.world.packages path) name x (package_in path) e;
      underlying = λ n d i e. (type_in n d i e).underlying_in;
      methods = λ n d m i e k. (type_in n d i e).methods_in m k;
      error = foreign error_name (λ e. apart.pathed (sym e));
    }
