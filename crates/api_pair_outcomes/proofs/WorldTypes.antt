-- The types of a world, and those that stand in them, are those of a list.
use Rattle.std.proofs.Common.{◌≡◌, ◌⊎◌, ℕ, Bool, true, false, List, [], ◌∷◌, ◌++◌, map, Option, Some, None, refl, sym, ap, ◌∙◌, subst, inl, inr}
use Rattle.std.specs.Prelude.{if◌then◌else◌}
use Rattle.std.specs.Str.{bytes_eq}
use Rattle.api_correspond.specs.Outermost.{pair}
use Rattle.go_type_images.specs.Parts.{function_type, parts}
use Rattle.api_correspond.specs.OwnedPairs.{types_of_entities}
use Rattle.api_correspond.specs.Publics.{Exports, package_at}
use Rattle.go_type_images.specs.declared.pair.TypePair.{TypePair}
use Rattle.api_pair_outcomes.proofs.TypesWithin.{has_gathered, itself_in, parts_in, types_in}
use Rattle.go_base.proofs.Members.{gather_of}
use Rattle.go_base.proofs.Ordered.{first_key}
use Rattle.go_base.specs.Gathered.{gather}
use Rattle.go_base.specs.Keys.{first_with}
use Rattle.go_base.specs.Lists.{Has}
use Rattle.go_existence.proofs.FiniteSets.{has_left, has_map, has_right}
use Rattle.go_model.specs.declared.types.names.TypeName.{TypeName}
use Rattle.go_model.specs.declared.types.package.ConstTerm.TheVariants as constant
use Rattle.go_model.specs.declared.types.package.Defined.{Defined}
use Rattle.go_model.specs.declared.types.package.Entity.{Entity}
use Rattle.go_model.specs.declared.types.package.Entity.TheVariants as entity
use Rattle.go_model.specs.declared.types.package.MethodOf.{MethodOf}
use Rattle.go_model.specs.declared.types.package.Object.{Object}
use Rattle.go_model.specs.declared.types.package.Package.{Package}
use Rattle.go_model.specs.declared.types.term.Signature.{Signature}
use Rattle.go_model.specs.declared.types.term.Term.{Term, out-Term}
use Rattle.go_model.specs.types.Terms.{error_type, is_error}
use Rattle.go_model.specs.types.Underlying.{entry}
use Rattle.go_model.specs.worlds.PackageTypes.{of_entity}
use Rattle.go_model.specs.worlds.Worlds.{Packages, defined_in, name_of, object_in, object_name, path_of, table_of}

none_some : {A B : Type 0} (x : A) → ◌≡◌ {A = Option A} None (Some x) → B
none_some x e = absurd (cc)

some_once : {A : Type 0} (x y : A) → ◌≡◌ {A = Option A} (Some x) (Some y) → x ≡ y
some_once x y e = cc

found_in : {A : Type 0} (key : A → List ℕ) (xs : List A) (k : List ℕ) (x : A) → first_with key xs k ≡ Some x → Has xs x
found_in key [] k x e = none_some x e
found_in key (y ∷ xs) k x e = by (bytes_eq (key y) k) e (found_in key xs k x)
  where
    by : (b : Bool) → (if b then Some y else first_with key xs k) ≡ Some x → (first_with key xs k ≡ Some x → Has xs x) → Has (y ∷ xs) x
    by true g f = inl (some_once y x g)
    by false g f = inr (f g)

-- ---- roots

abbrev term_alone : Term → List Term
term_alone t = t ∷ []

abbrev function_alone : Signature → List Term
function_alone g = function_type g ∷ []

abbrev entity_types : Entity → List Term
entity_types x = of_entity term_alone function_alone x

abbrev object_types : Object → List Term
object_types o = entity_types o.entity

abbrev method_type_of : MethodOf → Term
method_type_of m = function_type m.signature

abbrev defined_types : Defined → List Term
defined_types d = d.underlying ∷ map method_type_of d.methods

abbrev package_types : Package → List Term
package_types p = gather object_types p.objects ++ gather defined_types p.defined

abbrev roots : Packages → List Term
roots w = error_type.underlying ∷ gather package_types w.packages

pub all_types : Packages → List Term
all_types w = gather types_in (roots w)

module _ (w : Packages) where
  abbrev pub IsIn : Term → Type 0
  IsIn t = Has (all_types w) t

  pub closed : (t q : Term) → Has (all_types w) t → Has (parts (out-Term t)) q → Has (all_types w) q
  unfolding all_types
  closed t q h k = let r = gather_of types_in (roots w) t h in has_gathered types_in (roots w) r.0 q r.1 (parts_in r.0 t q r.2 k)

  root_in : (r : Term) → Has (roots w) r → IsIn r
  unfolding all_types
  root_in r h = has_gathered types_in (roots w) r r h (itself_in r)

  in_package : (p : Package) (t : Term) → Has w.packages p → Has (package_types p) t → IsIn t
  in_package p t h k = root_in t (inr (has_gathered package_types w.packages p t h k))

  in_defined : (p : Package) (d : Defined) (t : Term) → Has w.packages p → Has p.defined d → Has (defined_types d) t → IsIn t
  in_defined p d t h k l = in_package p t h (has_right (gather object_types p.objects) (gather defined_types p.defined) t (has_gathered defined_types p.defined d t k l))

  in_object : (p : Package) (o : Object) (t : Term) → Has w.packages p → Has p.objects o → Has (object_types o) t → IsIn t
  in_object p o t h k l = in_package p t h (has_left (gather object_types p.objects) (gather defined_types p.defined) t (has_gathered object_types p.objects o t k l))

  -- ---- defined types

  AreIn : Defined → Type 0
  AreIn d = IsIn d.underlying × ((m : MethodOf) → Has d.methods m → IsIn (function_type m.signature))

  defined_by : (o : Option Package) (name : List ℕ) (d : Defined) → ((p : Package) → o ≡ Some p → Has w.packages p) → defined_in o name ≡ Some d → (p : Package) × Has w.packages p × Has p.defined d
  defined_by None name d f e = none_some d e
  defined_by (Some p) name d f e = (p, f p refl, found_in name_of p.defined name d e)

  of_table : (n : TypeName) (d : Defined) → table_of w.packages n ≡ Some d → AreIn d
  unfolding AreIn
  of_table n d e =
      let k = defined_by (first_with path_of w.packages n.path) n.name d (λ p i. found_in path_of w.packages n.path p i) e in
      (in_defined k.0 d d.underlying k.1 k.2 (inl refl), λ m h. in_defined k.0 d (function_type m.signature) k.1 k.2 (inr (has_map method_type_of d.methods m h)))

  of_error : AreIn error_type
  unfolding AreIn
  of_error = (root_in error_type.underlying (inl refl), λ m h. absurd h)

  of_entry : (n : TypeName) (d : Defined) (b : Bool) → (if b then Some error_type else table_of w.packages n) ≡ Some d → AreIn d
  of_entry n d true e = subst AreIn (some_once error_type d e) of_error
  of_entry n d false e = of_table n d e

  pub known : (n : TypeName) (d : Defined) → entry (table_of w.packages) n ≡ Some d → Has (all_types w) d.underlying × ((m : MethodOf) → Has d.methods m → Has (all_types w) (function_type m.signature))
  unfolding AreIn
  known n d e = of_entry n d (is_error n) e

  -- ---- exported objects

  there_by : (o : Option Package) (name : List ℕ) (x : Object) {path : List ℕ} → ((p : Package) → o ≡ Some p → Has w.packages p × (p.path ≡ path)) → object_in o name ≡ Some x
      → (p : Package) × Has w.packages p × Has p.objects x × (p.path ≡ path)
  there_by None name x f e = none_some x e
  there_by (Some p) name x f e = (p, (f p refl).0, found_in object_name p.objects name x e, (f p refl).1)

  object_by : (o : Option Package) (name : List ℕ) (x : Object) → ((p : Package) → o ≡ Some p → Has w.packages p) → object_in o name ≡ Some x → (p : Package) × Has w.packages p × Has p.objects x
  object_by None name x f e = none_some x e
  object_by (Some p) name x f e = (p, f p refl, found_in object_name p.objects name x e)

  pub package_there : (path : List ℕ) (p : Package) → package_at w path ≡ Some p → Has w.packages p
  package_there path p e = found_in path_of w.packages path p e

  pub exported_there : (path : List ℕ) (o : Object) → Exports w path o → (p : Package) × Has w.packages p × Has p.objects o × (p.path ≡ path)
  exported_there path o x = there_by (package_at w path) o.name o (λ p i. (found_in path_of w.packages path p i, first_key path_of w.packages path p (sym i))) x.there

  pub exported_in : (path : List ℕ) (o : Object) (t : Term) → Exports w path o → Has (entity_types o.entity) t → Has (all_types w) t
  exported_in path o t x h =
      let k = object_by (package_at w path) o.name o (λ p i. found_in path_of w.packages path p i) x.there in
      in_object k.0 o t k.1 k.2 h

-- the types of two objects stand among those of each
pub entity_pair : (a b : Entity) (p : TypePair) → types_of_entities a b ≡ Some p → Has (of_entity term_alone function_alone a) p.old × Has (of_entity term_alone function_alone b) p.new
entity_pair (entity.Const (constant.OfTerm s) v) (entity.Const (constant.OfTerm t) x) p e = let k = some_once (pair s t) p e in (inl (ap (λ (q : TypePair). q.old) k), inl (ap (λ (q : TypePair). q.new) k))
entity_pair (entity.Var s) (entity.Var t) p e = let k = some_once (pair s t) p e in (inl (ap (λ (q : TypePair). q.old) k), inl (ap (λ (q : TypePair). q.new) k))
entity_pair (entity.Function g) (entity.Function h) p e = let k = some_once (pair (function_type g) (function_type h)) p e in (inl (ap (λ (q : TypePair). q.old) k), inl (ap (λ (q : TypePair). q.new) k))
entity_pair (entity.Function g) (entity.Var t) p e = let k = some_once (pair (function_type g) t) p e in (inl (ap (λ (q : TypePair). q.old) k), inl (ap (λ (q : TypePair). q.new) k))
entity_pair (entity.TypeOf s) (entity.TypeOf t) p e = let k = some_once (pair s t) p e in (inl (ap (λ (q : TypePair). q.old) k), inl (ap (λ (q : TypePair). q.new) k))
entity_pair a b p e = none_some p e
