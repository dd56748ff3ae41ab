-- The objects that a client imports have new ones: those of public packages of the module, and those of the standard library.
use Rattle.std.proofs.Common.{◌≡◌, ◌≢◌, ◌⊎◌, inl, inr, ℕ, Bool, true, false, ◌&&◌, List, [], ◌∷◌, ◌++◌, map, refl, sym, ap, ◌∙◌, subst, Option, Some, None}
use Rattle.std.proofs.lemmas.Str.{IsUtf8-from_is_utf8, chars_from_encodes}
use lib.Utf8.{scalars}
use Rattle.std.specs.Prelude.{if◌then◌else◌}
use Rattle.std.specs.Str.{chars, is_utf8, encode_utf8_all}
use Rattle.go_base.specs.Characters.{BeginsPassing, is_upper}
use Rattle.go_base.specs.Gathered.{gather}
use Rattle.go_base.specs.Lists.{Has}
use Rattle.go_base.proofs.Members.{each_has}
use Rattle.go_base.proofs.Ordered.{each_first, first_key}
use Rattle.go_selectors.proofs.Lists.{has-left}
use Rattle.go_model.specs.declared.constants.value.Value.{Value}
use Rattle.go_model.specs.declared.types.names.Sel.{Sel}
use Rattle.go_model.specs.declared.types.names.TypeName.{TypeName}
use Rattle.go_model.specs.declared.types.package.ConstTerm.TheVariants as constant
use Rattle.go_model.specs.declared.types.package.Entity.{Entity}
use Rattle.go_model.specs.declared.types.package.Entity.TheVariants as entity
use Rattle.go_model.specs.declared.types.package.Object.{Object}
use Rattle.go_model.specs.declared.types.package.Package.{Package}
use Rattle.go_model.specs.declared.types.term.Signature.{Signature}
use Rattle.go_model.specs.declared.types.term.Term.{Term}
use Rattle.go_model.specs.types.Tables.{Table}
use Rattle.go_model.specs.types.TypeNames.{Names, names, signature_names}
use Rattle.go_model.specs.types.TypeSelectors.{Sels, selectors, signature_selectors}
use Rattle.go_model.specs.types.Underlying.{entry}
use Rattle.go_model.specs.worlds.PackageTypes.{defined_names, defined_selectors, object_names, object_selectors, of_entity, package_names, package_selectors}
use Rattle.go_model.specs.worlds.Worlds.{EntityResolves, IsPackage, IsWorld, Packages, object_in, object_name, path_of, table_of}
use Rattle.go_rules.specs.Environments.{begins_upper, is_exported}
use Rattle.go_rules.specs.Scopes.{entity_of}
use Rattle.go_type_images.specs.EntryImages.{entity_to}
use Rattle.go_type_images.specs.Images.{Naming, image, image_of_signature, same_sels}
use Rattle.go_type_images.specs.Parts.{function_type}
use Rattle.go_type_images.specs.declared.pair.TypePair.{TypePair}
use Rattle.go_client_types.specs.Keeping.{EntityReached, IsKeptEntity, stays, varies}
use Rattle.go_client_types.specs.Reached.{reach_given}
use Rattle.go_shared_types.proofs.Alike as A
use Rattle.go_shared_types.proofs.Items.{in_gather, passes, passing}
use Rattle.go_shared_types.proofs.PartNames.{names_of_function, selectors_of_function}
use Rattle.go_shared_types.proofs.SameTypes.{signature_stays}
use Rattle.go_shared_types.proofs.Scopes.{some_some}
use Rattle.api_correspond.specs.Outermost.{pair}
use Rattle.api_correspond.specs.OwnedPairs.{types_of_entities}
use Rattle.api_correspond.specs.Publics.{Exports, IsPublic, of_std, package_at, qualified, types_of}
use Rattle.api_correspond.specs.Rules.{CoversObjects, KeepsConstant, KeepsKind}
use Rattle.api_type_images.proofs.Paired as P
use Rattle.api_kept_members.proofs.Members as M
use Rattle.api_kept_members.proofs.Underneath.{and_both}
use Rattle.api_kept_members.specs.inner.Entries.{had}
use Rattle.api_kept_relations.specs.StdTypes.{is_open_sel, is_std_name, shared_std}
use Rattle.api_kept_relations.proofs.Labels.{first_stands, first_told}
use Rattle.api_kept_relations.proofs.Names.{no_option, some_had}
use Rattle.api_kept_relations.proofs.Pairs as Q
use Rattle.api_kept_relations.proofs.Pairs.{Worlds}
use Rattle.api_kept_relations.proofs.StdShared as X

-- ---- exported names

no_truth : true ≡ false → ⊥
no_truth e = absurd (cc)

begins : (name cs : List ℕ) → chars name ≡ cs → scalars cs ≡ true → encode_utf8_all cs ≡ name → begins_upper (chars name) ≡ true → BeginsPassing is_upper name
begins name [] is s e h = absurd (no_truth (sym h ∙ ap begins_upper is))
begins name (c ∷ cs) is s e h = (c, encode_utf8_all cs, sym (ap begins_upper is) ∙ h, (and_both _ (scalars cs) s).0, sym e)

shown : (name : List ℕ) → is_exported name ≡ true → BeginsPassing is_upper name
shown name e =
    let b = and_both (is_utf8 name) (begins_upper (chars name)) e in
    let text = IsUtf8-from_is_utf8 name b.0 in
    begins name text.0 (sym (chars_from_encodes text.0 name text text.1.1)) text.1.0 text.1.1 b.1

some_entity : (o : Option Object) (x : Entity) → entity_of o ≡ Some x → (a : Object) × (o ≡ Some a) × (a.entity ≡ x)
some_entity None x e = absurd (no_option x e)
some_entity (Some a) x e = (a, refl, some_some e)

object_package : (o : Option Package) (name : List ℕ) (b : Object) → object_in o name ≡ Some b → (p : Package) × (o ≡ Some p)
object_package None name b e = absurd (no_option b e)
object_package (Some p) name b e = (p, refl)

resolved_name : (T : Table) (x : Entity) → EntityResolves T x → (n : TypeName) → Has (of_entity names signature_names x) n → entry T n ≢ None
resolved_name T (entity.Const (constant.OfTerm t) v) h n k = h n k
resolved_name T (entity.Const (constant.OfKind j) v) h n k = absurd k
resolved_name T (entity.Var t) h n k = h n k
resolved_name T (entity.Function g) h n k = h n k
resolved_name T (entity.TypeOf t) h n k = h n k

package_resolves : (w : Packages) → IsWorld w → (path : List ℕ) (p : Package) (o : Object) → package_at w path ≡ Some p → Has p.objects o → EntityResolves (types_of w) o.entity
package_resolves w i path p o e h =
    let k : IsPackage (table_of w.packages) p = each_first path_of (IsPackage (table_of w.packages)) w.packages path p (sym e) i.packaged in
    each_has (λ (y : Object). EntityResolves (table_of w.packages) y.entity) p.objects o k.entities h

module _ (old new before after : Packages) (pairs : List TypePair) (T U : Table) (D : Worlds old new before after pairs T U) where
  abbrev r : Naming
  r = Q.r old new before after pairs T U D

  abbrev to : Term → Term
  to = image r same_sels

  abbrev std : TypeName → Bool
  std = shared_std before after

  abbrev is_open : Sel → Bool
  is_open = is_open_sel before

  abbrev IsAlike : Term → Type 0
  IsAlike = Q.IsAlike old new before after pairs T U D

  abbrev IsKept : Entity → Entity → Type 0
  IsKept x y = IsKeptEntity r x y × EntityReached pairs std is_open x

  to_stays : (t : Term) → IsAlike t → to t ≡ t
  to_stays t a = A.to_stays T U r std is_open (Q.shared old new before after pairs T U D) (Q.fixes old new before after pairs T U D) t a

  -- ---- the standard library

  alike : (t : Term) → ((n : TypeName) → Has (names t) n → std n ≡ true) → ((s : Sel) → Has (selectors t) s → is_open s ≡ true) → IsAlike t
  alike t h k = (passes std (names t) h, passes is_open (selectors t) k)

  std_entity : (x : Entity) → ((n : TypeName) → Has (of_entity names signature_names x) n → std n ≡ true) → ((s : Sel) → Has (of_entity selectors signature_selectors x) s → is_open s ≡ true) → IsKept x x
  std_entity (entity.Const (constant.OfTerm t) v) h k = let a = alike t h k in (subst (IsKeptEntity r (entity.Const (constant.OfTerm t) v)) (ap (λ u. entity.Const (constant.OfTerm u) v) (to_stays t a)) stays, reach_given (inr a))
  std_entity (entity.Const (constant.OfKind j) v) h k = (stays, tt)
  std_entity (entity.Var t) h k = let a = alike t h k in (subst (IsKeptEntity r (entity.Var t)) (ap entity.Var (to_stays t a)) stays, reach_given (inr a))
  std_entity (entity.Function g) h k =
      let a = alike (function_type g) (λ n i. h n (subst (λ (ns : Names). Has ns n) (names_of_function g) i)) (λ s i. k s (subst (λ (ss : Sels). Has ss s) (selectors_of_function g) i)) in
      (subst (IsKeptEntity r (entity.Function g)) (ap entity.Function (signature_stays r g (to_stays (function_type g) a))) stays, reach_given (inr a))
  std_entity (entity.TypeOf t) h k = let a = alike t h k in (subst (IsKeptEntity r (entity.TypeOf t)) (ap entity.TypeOf (to_stays t a)) stays, reach_given (inr a))

  of_std_package : (path name : List ℕ) (x : Entity) → of_std (package_at before path) ≡ true → of_std (package_at after path) ≡ true → entity_of (object_in (package_at before path) name) ≡ Some x → (y : Entity) × (entity_of (object_in (package_at after path) name) ≡ Some y) × IsKept x y
  of_std_package path name x e f h =
      let p = X.std_package (package_at before path) e in
      let q = X.std_package (package_at after path) f in
      let same : p.0 ≡ q.0 = D.share_too.same path p.0 q.0 p.1 q.1 p.2 in
      let too : package_at after path ≡ Some p.0 = q.1 ∙ ap Some (sym same) in
      let a = some_entity (object_in (Some p.0) name) x (sym (ap (λ (o : Option Package). entity_of (object_in o name)) p.1) ∙ h) in
      let i : Has (p.0).objects a.0 = first_stands object_name (p.0).objects name a.0 a.1 in
      let here : (n : TypeName) → Has (object_names a.0) n → had (types_of before) n ≡ true = λ n k. some_had (entry (types_of before) n) (resolved_name (types_of before) (a.0).entity (package_resolves before D.serves.world path p.0 a.0 p.1 i) n k) in
      let there : (n : TypeName) → Has (object_names a.0) n → had (types_of after) n ≡ true = λ n k. some_had (entry (types_of after) n) (resolved_name (types_of after) (a.0).entity (package_resolves after D.serves_too.world path p.0 a.0 too i) n k) in
      let of_std_name : (n : TypeName) → Has (object_names a.0) n → is_std_name before n ≡ true = λ n k. passing (is_std_name before) (package_names p.0) n (D.alone.names path p.0 p.1 p.2) (has-left (gather object_names (p.0).objects) (gather defined_names (p.0).defined) n (in_gather object_names (p.0).objects a.0 n i k)) in
      let opened : (s : Sel) → Has (object_selectors a.0) s → is_open s ≡ true = λ s k. passing is_open (package_selectors p.0) s (D.alone.selectors path p.0 p.1 p.2) (has-left (gather object_selectors (p.0).objects) (gather defined_selectors (p.0).defined) s (in_gather object_selectors (p.0).objects a.0 s i k)) in
      let kept = std_entity (a.0).entity (λ n k. X.shares before after D.serves.world D.serves_too.world D.share_too D.alone n (here n k) (there n k) (of_std_name n k)) opened in
      ((a.0).entity, ap (λ (o : Option Package). entity_of (object_in o name)) too ∙ ap entity_of a.1, (subst (λ y. IsKeptEntity r y (a.0).entity) a.2 kept.0, subst (EntityReached pairs std is_open) a.2 kept.1))

  -- ---- the module

  given_pair : (s t : Term) → Has pairs (pair s t) → t ≡ to s
  given_pair s t h = P.paired old new pairs D.holds D.compatible (pair s t) h

  module_entity : (x y : Entity) → KeepsKind x y → KeepsConstant x y → ((p : TypePair) → types_of_entities x y ≡ Some p → Has pairs p) → IsKept x y
  module_entity (entity.Const (constant.OfTerm s) v) (entity.Const (constant.OfTerm t) w) k c h =
      let e = given_pair s t (h (pair s t) refl) in
      (subst (IsKeptEntity r (entity.Const (constant.OfTerm s) v)) (λ i. entity.Const (constant.OfTerm (sym e i)) (sym c i)) stays, reach_given (inl (pair s t, h (pair s t) refl, refl)))
  module_entity (entity.Const (constant.OfKind j) v) (entity.Const (constant.OfKind l) w) k c h = (subst (IsKeptEntity r (entity.Const (constant.OfKind j) v)) (λ i. entity.Const (constant.OfKind (sym c.0 i)) (sym c.1 i)) stays, tt)
  module_entity (entity.Const (constant.OfTerm s) v) (entity.Const (constant.OfKind l) w) k c h = absurd c
  module_entity (entity.Const (constant.OfKind j) v) (entity.Const (constant.OfTerm t) w) k c h = absurd c
  module_entity (entity.Var s) (entity.Var t) k c h = (subst (IsKeptEntity r (entity.Var s)) (ap entity.Var (sym (given_pair s t (h (pair s t) refl)))) stays, reach_given (inl (pair s t, h (pair s t) refl, refl)))
  module_entity (entity.Function g) (entity.Function f) k c h =
      let i = h (pair (function_type g) (function_type f)) refl in
      (subst (IsKeptEntity r (entity.Function g)) (ap entity.Function (sym (M.signatures old new pairs D.holds D.compatible g f i))) stays, reach_given (inl (pair (function_type g) (function_type f), i, refl)))
  module_entity (entity.Function g) (entity.Var t) k c h =
      let i = h (pair (function_type g) t) refl in
      (subst (λ u. IsKeptEntity r (entity.Function g) (entity.Var u)) (sym (given_pair (function_type g) t i)) varies, reach_given (inl (pair (function_type g) t, i, refl)))
  module_entity (entity.TypeOf s) (entity.TypeOf t) k c h = (subst (IsKeptEntity r (entity.TypeOf s)) (ap entity.TypeOf (sym (given_pair s t (h (pair s t) refl)))) stays, reach_given (inl (pair s t, h (pair s t) refl, refl)))
  module_entity x y k c h = absurd k

  of_module_package : (path name : List ℕ) (x : Entity) → is_exported name ≡ true → IsPublic old path → entity_of (object_in (package_at before path) name) ≡ Some x → (y : Entity) × (entity_of (object_in (package_at after path) name) ≡ Some y) × IsKept x y
  of_module_package path name x e s h =
      let i = D.old_world in
      let p = first_told path_of old.packages path (each_has (Has (map path_of old.packages)) old.publics path i.public_paths s) in
      let wide : package_at before path ≡ Some p.0 = D.serves.holds path p.0 p.1 in
      let a = some_entity (object_in (Some p.0) name) x (sym (ap (λ (o : Option Package). entity_of (object_in o name)) wide) ∙ h) in
      let key : (a.0).name ≡ name = first_key object_name (p.0).objects name a.0 (sym a.1) in
      let exported : Exports old path a.0 = record { shown = s; exported = subst (BeginsPassing is_upper) (sym key) (shown name e); there = ap (λ (o : Option Package). object_in o (a.0).name) p.1 ∙ ap (object_in (Some p.0)) key ∙ a.1 } in
      let k = D.compatible.paths path in
      let b = k.objects a.0 (record { exported = exported; still = k.package_kept s }) in
      let q = object_package (package_at new path) (b.0).name b.0 (b.1).there in
      let both : CoversObjects old new path a.0 b.0 = record { before = exported; after = b.1; same = b.2 } in
      let pairs_of : (t : TypePair) → types_of_entities (a.0).entity (b.0).entity ≡ Some t → Has pairs t = λ t f. D.holds.begun (qualified path (a.0).name) t (record { path = path; before = a.0; after = b.0; exported = exported; kept = b.1; same = b.2; named = refl; types = f }) in
      let kept = module_entity (a.0).entity (b.0).entity (k.kinds a.0 b.0 both) (k.constants a.0 b.0 both) pairs_of in (
        (b.0).entity,
        ap (λ (o : Option Package). entity_of (object_in o name)) (D.serves_too.holds path q.0 q.1 ∙ sym q.1) ∙ ap (λ n. entity_of (object_in (package_at new path) n)) (sym (b.2 ∙ key)) ∙ ap entity_of (b.1).there,
        (subst (λ y. IsKeptEntity r y (b.0).entity) a.2 kept.0, subst (EntityReached pairs std is_open) a.2 kept.1),
      )

  pub object_kept : (path name : List ℕ) (x : Entity) → is_exported name ≡ true → IsPublic old path ⊎ ((of_std (package_at before path) ≡ true) × (of_std (package_at after path) ≡ true)) → entity_of (object_in (package_at before path) name) ≡ Some x → (y : Entity) × (entity_of (object_in (package_at after path) name) ≡ Some y) × IsKept x y
  object_kept path name x e (inl s) h = of_module_package path name x e s h
  object_kept path name x e (inr s) h = of_std_package path name x s.0 s.1 h
