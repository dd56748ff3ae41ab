-- In the types of a package that is offered no type of its own stands that is left out.
use Rattle.std.proofs.Common.{◌≡◌, ℕ, zero, suc, Bool, true, List, [], ◌∷◌, ◌++◌, Option, Some, None, refl, sym, ap, ◌∙◌, subst, inl, inr}
use Rattle.std.specs.Prelude.{slice_get}
use Rattle.std.specs.Str.{bytes_eq}
use Rattle.std.proofs.lemmas.Slice.Eq.{bytes_eq-Decides}
use Rattle.go_base.specs.Gathered.{gather}
use Rattle.go_base.specs.Lists.{Each, Has, Passes}
use Rattle.go_model.specs.declared.types.names.TypeName.{TypeName}
use Rattle.go_model.specs.declared.types.package.ConstTerm.TheVariants as constant
use Rattle.go_model.specs.declared.types.package.Defined.{Defined}
use Rattle.go_model.specs.declared.types.package.Entity.{Entity}
use Rattle.go_model.specs.declared.types.package.Entity.TheVariants as entity
use Rattle.go_model.specs.declared.types.package.MethodOf.{MethodOf}
use Rattle.go_model.specs.declared.types.package.Object.{Object}
use Rattle.go_model.specs.declared.types.package.Package.{Package}
use Rattle.go_model.specs.declared.types.term.Signature.{Signature}
use Rattle.go_model.specs.declared.types.term.Term.{Term-F}
use Rattle.go_model.specs.types.TypeNames.{names, signature_names}
use Rattle.go_model.specs.worlds.PackageTypes.{defined_names, object_names, of_entity, package_names}
use Rattle.go_model.specs.worlds.Worlds.{name_of, object_name}
use Rattle.go_typings.specs.go_rules.Regions.{EntityIn, Region, SignatureIn, TermIn}
use Rattle.go_typings.specs.go_rules.Scopes.{entity_of}
use Rattle.go_typings.proofs.go_rules_proofs.LocalTerms.{close_in, each_passes, passes_both}
use Rattle.go_typings.proofs.go_rules_proofs.LocalTypes.{each_made}
use Rattle.go_syntax.specs.declared.declaration.TypeSpec.{TypeSpec}
use Rattle.go_typings.specs.Declarations.{Form, constants, variables, alias, definition, function, method, Declared, declarations, declared}
use Rattle.go_typings.specs.PackageEnvironments.{Entries, Entry, objects, underlying, signed, defined_at, defined_by, entity_by, had, had_of, object_of, own_defined, own_type, signature_of, underlying_of}
use Rattle.go_typings.specs.Receivers.{DeclaredMethod, methods}
use Rattle.go_typings.specs.Sources.{PackageSource, Setting}
use Rattle.go_typings.specs.TypedPackages.{AreOrdered}
use Rattle.go_typings.specs.Typings.{given}
use Rattle.go_typings.proofs.Agree.{held}
use Rattle.go_typings.proofs.Cells.{if_true, none_some, some_once}
use Rattle.go_typings.proofs.GrowEnvironments.{object_back, signature_back, underlying_back, with_back}
use Rattle.go_typings.proofs.OnePackage.{found, in_order}
use Rattle.go_typings.proofs.OneTyping.{grows, one}
use Rattle.go_typings.proofs.ReachedRegion.{DefinedIn, EntryIn}
use Rattle.go_soundness.specs.Apart.{IsApart}
use Rattle.go_soundness.proofs.DeclaredForms.{own_name}
use Rattle.go_soundness.proofs.SetEntries.{entries_in}
use Rattle.go_soundness.proofs.SetRegion.{in_set, is_kept, keeps, methods_kept, own_path_is, region}
use Rattle.go_exposed.specs.OfferedPackages.{IsOfferedAs, IsPackageOf, entered, kept_at}

passes_has : {A : Type 0} (f : A → Bool) (xs : List A) (x : A) → Passes f xs → Has xs x → f x ≡ true
passes_has f [] x h k = absurd k
passes_has f (y ∷ ys) x h (inl e) = ap f (sym e) ∙ h.0
passes_has f (y ∷ ys) x h (inr k) = passes_has f ys x h.1 k

module _ (s : Setting) (u : PackageSource) (apart : IsApart s u) (p : Package) (o : IsOfferedAs s u p) where
  abbrev S : ℕ → Bool
  S = o.within

  abbrev a : Entries
  a = o.entries

  abbrev R : Region
  R = region u S

  abbrev x : IsPackageOf u a p
  x = o.«package»

  inside : (n : ℕ) (y : Entry) → S n ≡ true → a n ≡ Some y → EntryIn R y
  inside n y i e = entries_in s u apart S o.kept.closed S a o.kept.typing.had (λ k j. j) n y i e

  has_entry : (n : ℕ) (y : Entry) → a n ≡ Some y → S n ≡ true
  has_entry n y e = held (given s u) (grows s u) (one s u) (declarations u) S a o.kept.typing.had n y e

  -- ---- objects

  object_of_in : (n place : ℕ) (y : Entity) → S n ≡ true → object_of (a n) place ≡ Some y → EntityIn R y
  object_of_in n place y i e = let q = object_back (a n) place y e in at_in q.0 place q.2 (inside n (objects q.0) i q.1)
    where
      at_in : (zs : List Entity) (k : ℕ) → slice_get zs k ≡ Some y → Each (EntityIn R) zs → EntityIn R y
      at_in [] k f i = none_some (slice_get [] k) y refl f
      at_in (z ∷ zs) zero f i = subst (EntityIn R) (some_once z y f) i.0
      at_in (z ∷ zs) (suc k) f i = at_in zs k f i.1

  entity_by_in : (n place : ℕ) (f : Form) (y : Entity) → S n ≡ true → ((c : TypeSpec) → f ≡ definition c → keeps u S c.name.text ≡ true) → entity_by u.path a n place f ≡ Some y → EntityIn R y
  entity_by_in n place (constants c at) y i k e = object_of_in n place y i e
  entity_by_in n place (variables c) y i k e = object_of_in n place y i e
  entity_by_in n place (alias c) y i k e = object_of_in n place y i e
  entity_by_in n place (definition c) y i k e = subst (EntityIn R) (some_once (entity.TypeOf (own_type u.path c.name.text)) y e)
      (close_in R (Term-F.Named (record { path = u.path; name = c.name.text })) (own_path_is s u apart S o.kept.closed c.name.text ∙ k c refl, tt))
  entity_by_in n place (function f) y i k e = object_of_in n place y i e
  entity_by_in n place (method m f) y i k e = object_of_in n place y i e

  kept_at_in : (name : List ℕ) (w : Option Declared) (y : Entity) → declared (declarations u) name ≡ w → kept_at u.path a w ≡ Some y → EntityIn R y
  kept_at_in name None y f e = none_some (kept_at u.path a None) y refl e
  kept_at_in name (Some d) y f e = by (a d.number) refl e
    where
      by : (c : Option Entry) → a d.number ≡ c → entered c (entity_by u.path a d.number d.place d.form) ≡ Some y → EntityIn R y
      by None g k = none_some {A = Entity} None y refl k
      by (Some z) g k =
          let i = has_entry d.number z g in
          entity_by_in d.number d.place d.form y i (λ c q. subst (λ t. keeps u S t ≡ true) (sym (own_name (declarations u) name d c f q)) (ap (is_kept S) f ∙ i)) k

  entity_names : (y : Entity) → EntityIn R y → Passes R.types (of_entity names signature_names y)
  entity_names (entity.Const (constant.OfTerm t) v) h = h
  entity_names (entity.Const (constant.OfKind c) v) h = tt
  entity_names (entity.Var t) h = h
  entity_names (entity.Function g) h = h
  entity_names (entity.TypeOf t) h = h

  object_in : (b : Object) → Has p.objects b → Passes R.types (object_names b)
  object_in b h =
      let f = found object_name p.objects b (in_order object_name p.objects x.objects_ordered) h in
      entity_names b.entity (kept_at_in b.name (declared (declarations u) b.name) b.entity refl (sym (x.objects b.name) ∙ ap entity_of f))

  -- ---- defined types

  had_in : (ms : List DeclaredMethod) (m : MethodOf) → ((d : DeclaredMethod) → Has ms d → S d.number ≡ true) → Has (had a ms) m → SignatureIn R m.signature
  had_in [] m i k = absurd k
  had_in (d ∷ ds) m i k = first_or (signature_of (a d.number)) refl (λ j. had_in ds m (λ z q. i z (inr q)) j) k
    where
      first_or : (c : Option Signature) → signature_of (a d.number) ≡ c → (Has (had a ds) m → SignatureIn R m.signature) → Has (had_of d c ++ had a ds) m → SignatureIn R m.signature
      first_or None e f j = f j
      first_or (Some g) e f (inl q) = subst (λ (z : MethodOf). SignatureIn R z.signature) q (inside d.number (signed g) (i d (inl refl)) (signature_back (a d.number) g e))
      first_or (Some g) e f (inr j) = f j

  form_in : (name : List ℕ) (w : Declared) (f : Form) (d : Defined) → declared (declarations u) name ≡ Some w → w.form ≡ f → defined_by u a name w.number f ≡ Some d → DefinedIn R d
  form_in name w (definition c) d e f k =
      let q = with_back name (had a (methods u name)) (underlying_of (a w.number)) d k in
      let b = underlying_back (a w.number) q.0 q.1 in
      let i = has_entry w.number (underlying q.0) b in
      record {
        underlying_in = subst (λ (z : Defined). TermIn R z.underlying) (sym q.2) (inside w.number (underlying q.0) i b);
        methods_in = λ m j. had_in (methods u name) m (methods_kept s u apart S o.kept.closed name w c (ap (is_kept S) e ∙ i) e f) (subst (λ (z : Defined). Has z.methods m) q.2 j);
      }
  form_in name w (constants c at) d e f k = none_some (defined_by u a name w.number (constants c at)) d refl k
  form_in name w (variables c) d e f k = none_some (defined_by u a name w.number (variables c)) d refl k
  form_in name w (alias c) d e f k = none_some (defined_by u a name w.number (alias c)) d refl k
  form_in name w (function c) d e f k = none_some (defined_by u a name w.number (function c)) d refl k
  form_in name w (method r c) d e f k = none_some (defined_by u a name w.number (method r c)) d refl k

  own_in : (name : List ℕ) (w : Option Declared) (d : Defined) → declared (declarations u) name ≡ w → defined_at u a name w ≡ Some d → DefinedIn R d
  own_in name None d e k = none_some (defined_at u a name None) d refl k
  own_in name (Some w) d e k = form_in name w w.form d e refl k

  ordered_in : (d : Defined) (c : Option Defined) → own_defined u a d.name ≡ c → AreOrdered (Some d) c → Passes R.types (defined_names d)
  ordered_in d None e h = absurd h
  ordered_in d (Some b) e h =
      let k = own_in d.name (declared (declarations u) d.name) b refl e in
      passes_both R.types (names d.underlying) (gather (λ (m : MethodOf). signature_names m.signature) d.methods)
      (subst (λ t. Passes R.types (names t)) (sym h.underlying) k.underlying_in)
      (each_passes R.types (λ (m : MethodOf). signature_names m.signature) d.methods (each_made d.methods (λ m j. k.methods_in m ((h.same m).0 j))))

  defined_in : (d : Defined) → Has p.defined d → Passes R.types (defined_names d)
  defined_in d h =
      let f = found name_of p.defined d (in_order name_of p.defined x.defined_ordered) h in
      ordered_in d (own_defined u a d.name) refl (subst (λ c. AreOrdered c (own_defined u a d.name)) f (x.defined d.name))

  -- ---- names

  all_in : Passes R.types (package_names p)
  all_in = passes_both R.types (gather object_names p.objects) (gather defined_names p.defined)
      (each_passes R.types object_names p.objects (each_made p.objects object_in))
      (each_passes R.types defined_names p.defined (each_made p.defined defined_in))

  pub kept_type : (n : TypeName) (d : Declared) → Has (package_names p) n → n.path ≡ u.path → declared (declarations u) n.name ≡ Some d → S d.number ≡ true
  kept_type n d h e f =
      let i = passes_has R.types (package_names p) n all_in h in
      let b = (bytes_eq-Decides u.path n.path).1 (sym e) in
      in_set s u apart S o.kept.closed n.name d (sym (if_true (bytes_eq u.path n.path) (keeps u S n.name) true b) ∙ i) f
