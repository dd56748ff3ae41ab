-- What a package reaches is a closed region of the environments of its declarations, where its entries are of it.
use Rattle.std.proofs.Common.{◌≡◌, ℕ, zero, suc, Bool, true, false, ◌||◌, List, [], ◌∷◌, ◌++◌, Option, Some, None, refl, sym, ◌∙◌, subst, ◌⊎◌, inl, inr}
use Rattle.std.specs.Prelude.{if◌then◌else◌, slice_get, codes}
use Rattle.std.specs.Option.{option_or}
use Rattle.std.specs.Str.{bytes_eq}
use Rattle.std.proofs.lemmas.Slice.Eq.{bytes_eq-Decides}
use Rattle.go_references.specs.go_base.Gathered.{gather}
use Rattle.go_references.specs.go_base.Keys.{first_with}
use Rattle.go_references.specs.go_base.Lists.{Each, Has, Passes}
use Rattle.go_rules.specs.go_model.declared.types.names.TypeName.{TypeName}
use Rattle.go_rules.specs.go_model.declared.types.package.ConstTerm.TheVariants as constant
use Rattle.go_rules.specs.go_model.declared.types.package.Defined.{Defined}
use Rattle.go_rules.specs.go_model.declared.types.package.Entity.{Entity}
use Rattle.go_rules.specs.go_model.declared.types.package.Entity.TheVariants as entity
use Rattle.go_rules.specs.go_model.declared.types.package.MethodOf.{MethodOf}
use Rattle.go_rules.specs.go_model.declared.types.package.Object.{Object}
use Rattle.go_rules.specs.go_model.declared.types.package.Package.{Package}
use Rattle.go_rules.specs.go_model.declared.constants.value.Basic.TheVariants as basic
use Rattle.go_rules.specs.go_model.declared.types.term.Method.{out-Method, out-roll-Method}
use Rattle.go_rules.specs.go_model.declared.types.term.Signature.{Signature, roll-Signature, out-roll-Signature}
use Rattle.go_rules.specs.go_model.declared.types.term.Term.{Term-F, roll-Term}
use Rattle.go_rules.specs.go_model.types.Terms.{error_method, error_type, is_error}
use Rattle.go_rules.specs.go_model.types.TypeNames.{names, signature_names}
use Rattle.go_rules.specs.go_model.types.Underlying.{entry}
use Rattle.go_rules.specs.go_model.worlds.PackageTypes.{defined_names, object_names, of_entity, package_names}
use Rattle.go_rules.specs.go_model.worlds.Worlds.{defined_in, name_of, object_in, object_name, path_of, table_of}
use Rattle.go_rules.specs.Regions.{EntityIn, IsClosed, Region, SeenIn, SignatureIn, TermIn, error_name}
use Rattle.go_rules.specs.Scopes.{as_import, entity_of, of_universe}
use Rattle.go_rules.specs.Universe.{predeclared}
use Rattle.go_rules.specs.declared.predeclared.Predeclared.{Predeclared}
use Rattle.go_rules.specs.declared.seen.Seen.{Seen}
use Rattle.go_rules.specs.declared.seen.Seen.TheVariants as seen
use Rattle.go_rules.proofs.LocalTerms.{close_in, close_signature, each_passes, passes_left, passes_right}
use Rattle.go_rules.proofs.LocalRelations.{basic_in}
use Rattle.go_typings.specs.Declarations.{Form, constants, variables, alias, definition, function, method, Declaration, Declared, declarations, declared, is_init}
use Rattle.go_typings.specs.PackageEnvironments.{Entries, Entry, objects, underlying, signed, as_object, defined_at, defined_by, entity_by, environment, had, had_of, had_path, import_of, meaning_at, object_of, own_defined, own_type, path_in, signature_of, types_of, underlying_of}
use Rattle.go_typings.specs.ReachedPackages.{AreReached, HoldImports, is_reached}
use Rattle.go_typings.specs.Receivers.{DeclaredMethod, methods}
use Rattle.go_typings.specs.Sources.{Import, PackageSource, Setting, import_name, imports_of}
use Rattle.go_typings.proofs.Cells.{either, if_false, if_true, none_some, some_once}
use Rattle.go_typings.proofs.GrowEnvironments.{object_back, signature_back, underlying_back, with_back}

-- each type in an entry is of the region
abbrev pub EntryIn : Region → Entry → Type 0
EntryIn R (objects xs) = Each (EntityIn R) xs
EntryIn R (underlying t) = TermIn R t
EntryIn R (signed g) = SignatureIn R g

abbrev pub EntriesIn : Region → Entries → Type 0
EntriesIn R a = (n : ℕ) (x : Entry) → a n ≡ Some x → EntryIn R x

-- what is reached
abbrev pub region : PackageSource → (List ℕ → Bool) → Region
region u reached = record { names = λ name. true; types = λ n. bytes_eq u.path n.path || is_reached reached n; packages = reached }

or_left : (a b : Bool) → a ≡ true → (a || b) ≡ true
or_left true b e = refl
or_left false b e = let g : false ≡ true = e in absurd (cc)

or_right : (a b : Bool) → b ≡ true → (a || b) ≡ true
or_right true b e = refl
or_right false b e = e

pub or_second : (a b : Bool) → a ≡ false → (a || b) ≡ true → b ≡ true
or_second true b f e = let g : true ≡ false = f in absurd (cc)
or_second false b f e = e

pub weaker : {A : Type 0} (p q : A → Bool) → ((x : A) → p x ≡ true → q x ≡ true) → (xs : List A) → Passes p xs → Passes q xs
weaker p q h [] k = tt
weaker p q h (x ∷ xs) k = (h x k.0, weaker p q h xs k.1)

-- ---- what is found in a list

pub first_has : {A : Type 0} (key : A → List ℕ) (xs : List A) (k : List ℕ) (x : A) → first_with key xs k ≡ Some x → Has xs x
first_has key [] k x e = none_some (first_with key [] k) x refl e
first_has key (y ∷ ys) k x e = choose (bytes_eq (key y) k) (λ f. first_has key ys k x f) e
  where
    choose : (b : Bool) → (first_with key ys k ≡ Some x → Has ys x) → (if b then Some y else first_with key ys k) ≡ Some x → (y ≡ x) ⊎ Has ys x
    choose true h f = inl (some_once y x f)
    choose false h f = inr (h f)

unless : {A : Type 0} (b : Bool) (c : Option A) (x : A) → (if b then None else c) ≡ Some x → c ≡ Some x
unless true c x e = none_some None x refl e
unless false c x e = e

-- an import that a name means is one of the file
pub import_has : (u : PackageSource) (file : ℕ) (name : List ℕ) (i : Import) → import_of u file name ≡ Some i → Has (imports_of u file) i
import_has u file name i e = first_has import_name (imports_of u file) name i (unless (is_init name) (first_with import_name (imports_of u file) name) i e)

gathered : {A B : Type 0} (p : B → Bool) (f : A → List B) (xs : List A) (x : A) → Has xs x → Passes p (gather f xs) → Passes p (f x)
gathered p f [] x h k = absurd h
gathered p f (y ∷ ys) x (inl e) k = subst (λ z. Passes p (f z)) e (passes_left p (f y) (gather f ys) k)
gathered p f (y ∷ ys) x (inr h) k = gathered p f ys x h (passes_right p (f y) (gather f ys) k)

-- ---- packages that are reached

module _ (R : Region) where
  entity_in : (x : Entity) → Passes R.types (of_entity names signature_names x) → EntityIn R x
  entity_in (entity.Const (constant.OfTerm t) v) k = k
  entity_in (entity.Const (constant.OfKind c) v) k = tt
  entity_in (entity.Var t) k = k
  entity_in (entity.Function g) k = k
  entity_in (entity.TypeOf t) k = k

  object_in_region : (p : Package) (o : Option Object) (x : Entity) → ((y : Object) → o ≡ Some y → Has p.objects y) → Passes R.types (package_names p) → entity_of o ≡ Some x → EntityIn R x
  object_in_region p None x h k e = none_some (entity_of None) x refl e
  object_in_region p (Some o) x h k e = subst (EntityIn R) (some_once o.entity x e) (entity_in o.entity (gathered R.types object_names p.objects o (h o refl) (passes_left R.types (gather object_names p.objects) (gather defined_names p.defined) k)))

  pub found_object : (c : Option Package) (name : List ℕ) (x : Entity) → ((p : Package) → c ≡ Some p → Passes R.types (package_names p)) → entity_of (object_in c name) ≡ Some x → EntityIn R x
  found_object None name x h e = none_some (entity_of (object_in None name)) x refl e
  found_object (Some p) name x h e = object_in_region p (first_with object_name p.objects name) x (λ y f. first_has object_name p.objects name y f) (h p refl) e

  -- the types of a defined type of a package
  pub record DefinedIn (d : Defined) : Type 0 where
    pub underlying_in : TermIn R d.underlying
    pub methods_in : (m : MethodOf) → Has d.methods m → SignatureIn R m.signature

  pub found_defined : (c : Option Package) (name : List ℕ) (d : Defined) → ((p : Package) → c ≡ Some p → Passes R.types (package_names p)) → defined_in c name ≡ Some d → DefinedIn d
  found_defined None name d h e = none_some (defined_in None name) d refl e
  found_defined (Some p) name d h e =
      let k = gathered R.types defined_names p.defined d (first_has name_of p.defined name d e) (passes_right R.types (gather object_names p.objects) (gather defined_names p.defined) (h p refl)) in
      record {
        underlying_in = passes_left R.types (names d.underlying) (gather (λ m. signature_names m.signature) d.methods) k;
        methods_in = λ m i. gathered R.types (λ (z : MethodOf). signature_names z.signature) d.methods m i (passes_right R.types (names d.underlying) (gather (λ m. signature_names m.signature) d.methods) k);
      }

-- ---- the environments

pub own_path : (path : List ℕ) → bytes_eq path path ≡ true
own_path path = (bytes_eq-Decides path path).1 refl

-- the signature of the method of `error`
error_signature : (R : Region) → SignatureIn R (roll-Signature (record { params = []; variadic = false; results = roll-Term (Term-F.Plain basic.Str) ∷ [] }))
error_signature R =
    let p = out-roll-Signature (record { params = []; variadic = false; results = roll-Term (Term-F.Plain basic.Str) ∷ [] }) in
    close_signature R (roll-Signature (record { params = []; variadic = false; results = roll-Term (Term-F.Plain basic.Str) ∷ [] }))
    (subst (λ z. Each (TermIn R) z.params) (sym p) tt) (subst (λ z. Each (TermIn R) z.results) (sym p) (basic_in R basic.Str, tt))

pub error_in : (R : Region) → DefinedIn R error_type
error_in R = record {
  underlying_in = close_in R (Term-F.Interface (error_method ∷ [])) (each_passes R.types (λ m. signature_names (out-Method m).signature) (error_method ∷ [])
      (subst (λ z. SignatureIn R z.signature) (sym (out-roll-Method (record { sel = record { name = codes "Error"; «package» = [] }; signature = roll-Signature (record { params = []; variadic = false; results = roll-Term (Term-F.Plain basic.Str) ∷ [] }) }))) (error_signature R), tt));
  methods_in = λ m h. absurd h;
}

module _ (s : Setting) (u : PackageSource) (reached : List ℕ → Bool) (r : AreReached s.world u reached) (all : HoldImports u reached) where
  abbrev R : Region
  R = region u reached

  package_in : (path : List ℕ) → reached path ≡ true → (p : Package) → first_with path_of s.world.packages path ≡ Some p → Passes R.types (package_names p)
  package_in path i p e = weaker (is_reached reached) R.types (λ n f. or_right (bytes_eq u.path n.path) (is_reached reached n) f) (package_names p) (r.closed path p i e)

  own_type_in : (name : List ℕ) → TermIn R (own_type u.path name)
  own_type_in name = close_in R (Term-F.Named (record { path = u.path; name = name })) (or_left (bytes_eq u.path u.path) (is_reached reached (record { path = u.path; name = name })) (own_path u.path), tt)

  module _ (b : Entries) (h : EntriesIn R b) where
    object_of_in : (n place : ℕ) (x : Entity) → object_of (b n) place ≡ Some x → EntityIn R x
    object_of_in n place x e = let q = object_back (b n) place x e in at_in q.0 place q.2 (h n (objects q.0) q.1)
      where
        at_in : (xs : List Entity) (k : ℕ) → slice_get xs k ≡ Some x → Each (EntityIn R) xs → EntityIn R x
        at_in [] k f i = none_some (slice_get [] k) x refl f
        at_in (y ∷ ys) zero f i = subst (EntityIn R) (some_once y x f) i.0
        at_in (y ∷ ys) (suc k) f i = at_in ys k f i.1

    entity_by_in : (n place : ℕ) (f : Form) (x : Entity) → entity_by u.path b n place f ≡ Some x → EntityIn R x
    entity_by_in n place (constants c at) x e = object_of_in n place x e
    entity_by_in n place (variables c) x e = object_of_in n place x e
    entity_by_in n place (alias c) x e = object_of_in n place x e
    entity_by_in n place (definition c) x e = subst (EntityIn R) (some_once (entity.TypeOf (own_type u.path c.name.text)) x e) (own_type_in c.name.text)
    entity_by_in n place (function f) x e = object_of_in n place x e
    entity_by_in n place (method m f) x e = object_of_in n place x e

    object_seen_in : (c : Option Entity) (m : Seen) → ((x : Entity) → c ≡ Some x → EntityIn R x) → as_object c ≡ Some m → SeenIn R m
    object_seen_in None m k e = none_some (as_object None) m refl e
    object_seen_in (Some x) m k e = subst (SeenIn R) (some_once (seen.Object x) m e) (k x refl)

    universe_in : (c : Option Predeclared) (m : Seen) → of_universe c ≡ Some m → SeenIn R m
    universe_in None m e = none_some (of_universe None) m refl e
    universe_in (Some p) m e = subst (SeenIn R) (some_once (seen.Universe p) m e) tt

    meaning_at_in : (name : List ℕ) (w : Option Declared) (m : Seen) → meaning_at u.path b name w ≡ Some m → SeenIn R m
    meaning_at_in name None m e = universe_in (predeclared name) m e
    meaning_at_in name (Some d) m e = object_seen_in (entity_by u.path b d.number d.place d.form) m (entity_by_in d.number d.place d.form) e

    meaning_in : (name : List ℕ) (c : Option Import) (w : Option Declared) (m : Seen) → ((i : Import) → c ≡ Some i → reached (had_path i) ≡ true) → option_or (as_import (path_in c)) (meaning_at u.path b name w) ≡ Some m → SeenIn R m
    meaning_in name None w m k e = meaning_at_in name w m e
    meaning_in name (Some i) w m k e = subst (SeenIn R) (some_once (seen.Import (had_path i)) m e) (k i refl)

    -- ---- defined types

    had_in : (ms : List DeclaredMethod) (m : MethodOf) → Has (had b ms) m → SignatureIn R m.signature
    had_in [] m k = absurd k
    had_in (d ∷ ds) m k = first_or (signature_of (b d.number)) refl (λ i. had_in ds m i) k
      where
        first_or : (c : Option Signature) → signature_of (b d.number) ≡ c → (Has (had b ds) m → SignatureIn R m.signature) → Has (had_of d c ++ had b ds) m → SignatureIn R m.signature
        first_or None e f i = f i
        first_or (Some g) e f (inl p) = subst (λ (z : MethodOf). SignatureIn R z.signature) p (h d.number (signed g) (signature_back (b d.number) g e))
        first_or (Some g) e f (inr i) = f i

    form_in_region : (name : List ℕ) (n : ℕ) (f : Form) (d : Defined) → defined_by u b name n f ≡ Some d → DefinedIn R d
    form_in_region name n (definition c) d e =
        let q = with_back name (had b (methods u name)) (underlying_of (b n)) d e in
        record {
          underlying_in = subst (λ (z : Defined). TermIn R z.underlying) (sym q.2) (h n (underlying q.0) (underlying_back (b n) q.0 q.1));
          methods_in = λ m i. had_in (methods u name) m (subst (λ (z : Defined). Has z.methods m) q.2 i);
        }
    form_in_region name n (constants c at) d e = none_some (defined_by u b name n (constants c at)) d refl e
    form_in_region name n (variables c) d e = none_some (defined_by u b name n (variables c)) d refl e
    form_in_region name n (alias c) d e = none_some (defined_by u b name n (alias c)) d refl e
    form_in_region name n (function f) d e = none_some (defined_by u b name n (function f)) d refl e
    form_in_region name n (method m f) d e = none_some (defined_by u b name n (method m f)) d refl e

    own_in : (name : List ℕ) (w : Option Declared) (d : Defined) → defined_at u b name w ≡ Some d → DefinedIn R d
    own_in name None d e = none_some (defined_at u b name None) d refl e
    own_in name (Some w) d e = form_in_region name w.number w.form d e

    type_in : (n : TypeName) (d : Defined) → R.types n ≡ true → entry (types_of s u b) n ≡ Some d → DefinedIn R d
    type_in n d i e = elim (either (is_error n)) [
      | inl q ↦ subst (DefinedIn R) (some_once error_type d (sym (if_true (is_error n) (Some error_type) (types_of s u b n) q) ∙ e)) (error_in R)
      | inr q ↦ (let f = sym (if_false (is_error n) (Some error_type) (types_of s u b n) q) ∙ e in elim (either (bytes_eq u.path n.path)) [
        | inl p ↦ own_in n.name (declared (declarations u) n.name) d (sym (if_true (bytes_eq u.path n.path) (own_defined u b n.name) (table_of s.world.packages n) p) ∙ f)
        | inr p ↦ found_defined R (first_with path_of s.world.packages n.path) n.name d (package_in n.path (or_second (is_error n) (reached n.path) q (or_second (bytes_eq u.path n.path) (is_reached reached n) p i)))
            (sym (if_false (bytes_eq u.path n.path) (own_defined u b n.name) (table_of s.world.packages n) p) ∙ f)
      ])
    ]

    pub closed_region : (d : Declaration) → IsClosed (environment s u b d) R
    closed_region d = record {
      meaning = λ name m i e. meaning_in name (import_of u d.file name) (declared (declarations u) name) m (λ j f. all d.file j (import_has u d.file name j f)) e;
      object = λ path name x i e. found_object R (first_with path_of s.world.packages path) name x (package_in path i) e;
      underlying = λ n d i e. (type_in n d i e).underlying_in;
      methods = λ n d m i e k. (type_in n d i e).methods_in m k;
      error = or_right (bytes_eq u.path []) (is_reached reached error_name) refl;
    }
