-- The selectors in the types of a world, and its methods by unexported selectors of the standard library.
use Rattle.std.proofs.Common.{◌≡◌, ◌≢◌, ◌⊎◌, inl, inr, ℕ, Bool, true, false, List, [], ◌∷◌, ◌++◌, map, refl, sym, ap, ◌∙◌, subst, Option, Some, None}
use Rattle.std.specs.Prelude.{if◌then◌else◌, bytes_eq, codes}
use Rattle.std.specs.Cmp.Lexicographic.{bytes_decides}
use Rattle.go_base.specs.Gathered.{gather}
use Rattle.go_base.specs.Keys.{first_with}
use Rattle.go_base.specs.Lists.{Has, Each}
use Rattle.go_base.proofs.Members.{each_has, gather_of, has_split}
use Rattle.go_selectors.proofs.Lists.{has-left, has-right}
use Rattle.go_model.specs.declared.constants.value.Basic.TheVariants as basic
use Rattle.go_model.specs.declared.types.names.Sel.{Sel}
use Rattle.go_model.specs.declared.types.names.TypeName.{TypeName}
use Rattle.go_model.specs.declared.types.package.Defined.{Defined}
use Rattle.go_model.specs.declared.types.package.MethodOf.{MethodOf}
use Rattle.go_model.specs.declared.types.package.Object.{Object}
use Rattle.go_model.specs.declared.types.package.Package.{Package}
use Rattle.go_model.specs.declared.types.term.Method.{Method, out-Method, out-roll-Method}
use Rattle.go_model.specs.declared.types.term.Signature.{Signature}
use Rattle.go_model.specs.declared.types.term.Term.{Term, Term-F, out-Term, roll-Term, fold-roll-Term}
use Rattle.go_model.specs.types.Members.{field_sel}
use Rattle.go_model.specs.types.MethodSets.{method_sel}
use Rattle.go_model.specs.types.Tables.{Table}
use Rattle.go_model.specs.types.Terms.{client_path, error_method, error_type, is_error}
use Rattle.go_model.specs.types.TypeSelectors.{Sels, field_sels, method_sels, parameter_sels, sel_step, selectors, signature_selectors}
use Rattle.go_model.specs.types.Underlying.{entry, methods_of}
use Rattle.go_model.specs.worlds.PackageTypes.{declared_selectors, defined_selectors, object_selectors, package_selectors}
use Rattle.go_model.specs.worlds.Worlds.{IsOwned, IsWorld, Packages, defined_in, name_of, object_in, object_name, path_of, table_of}
use Rattle.go_model.proofs.Paths.{client_some}
use Rattle.go_type_images.specs.Parts.{function_type, method_type, parts}
use Rattle.go_shared_types.proofs.Items.{either, in_gather}
use Rattle.go_shared_types.proofs.PartNames.{error_selectors, own_field, own_method, part_selectors, selectors_of_function}
use Rattle.go_shared_types.proofs.Regions.{Closed}
use Rattle.api_correspond.specs.Publics.{Exports, package_at, types_of}
use Rattle.api_correspond.specs.Rules.{is_std_sel}
use Rattle.api_kept_members.proofs.ResolvingPairs.{entry_is}
use Rattle.api_kept_relations.specs.StdTypes.{HasStdMethods, IsOfStd, StdMethodsStay, std_methods}
use Rattle.api_kept_relations.proofs.Names as N
use Rattle.go_shared_types.proofs.Scopes.{some_some}
use Rattle.api_kept_relations.proofs.Names.{no_option}

-- ---- items that are looked up

if_found : {A : Type 0} (b : Bool) (x y : A) (o : Option A) → (if b then Some x else o) ≡ Some y → (x ≡ y) ⊎ (o ≡ Some y)
if_found true x y o e = inl (some_some e)
if_found false x y o e = inr e

-- what a look-up gives stands in the list
pub first_stands : {A : Type 0} (key : A → List ℕ) (xs : List A) (k : List ℕ) (x : A) → first_with key xs k ≡ Some x → Has xs x
first_stands key [] k x e = absurd (no_option x e)
first_stands key (y ∷ ys) k x e = either (if_found (bytes_eq (key y) k) y x (first_with key ys k) e) (λ f. inl f) (λ f. inr (first_stands key ys k x f))

-- a key that stands in the list is found
pub first_told : {A : Type 0} (key : A → List ℕ) (xs : List A) (k : List ℕ) → Has (map key xs) k → (x : A) × (first_with key xs k ≡ Some x)
first_told key [] k h = absurd h
first_told key (y ∷ ys) k (inl e) = (y, ap (λ b. if b then Some y else first_with key ys k) ((bytes_decides (key y) k).1 e))
first_told {A} key (y ∷ ys) k (inr h) = by (bytes_eq (key y) k) refl (first_told key ys k h)
  where
    by : (b : Bool) → bytes_eq (key y) k ≡ b → (x : A) × (first_with key ys k ≡ Some x) → (x : A) × (first_with key (y ∷ ys) k ≡ Some x)
    by true e f = (y, ap (λ c. if c then Some y else first_with key ys k) e)
    by false e f = (f.0, ap (λ c. if c then Some y else first_with key ys k) e ∙ f.1)

method_levels : {t : Term} {w : Packages} → HasStdMethods w t → (m : Method) → Has (methods_of (out-Term t)) m → is_std_sel w (method_sel m) ≡ true → IsOfStd w (method_type m)
method_levels (std_methods f g) = f

part_methods : {t : Term} {w : Packages} → HasStdMethods w t → (u : Term) → Has (parts (out-Term t)) u → HasStdMethods w u
part_methods (std_methods f g) = g

module _ (w : Packages) (i : IsWorld w) (Y : StdMethodsStay w) where
  abbrev T : Table
  T = types_of w

  -- exported, or of a package of the world
  abbrev pub IsHome : Sel → Type 0
  IsHome s = (s.«package» ≡ []) ⊎ ((p : Package) × (package_at w s.«package» ≡ Some p))

  abbrev pub IsStdOnly : Sel → Signature → Type 0
  IsStdOnly s g = IsHome s × (is_std_sel w s ≡ true → IsOfStd w (function_type g))

  pub record IsLabelled (t : Term) : Type 0 where
    pub homes : (s : Sel) → Has (selectors t) s → IsHome s
    pub methods : HasStdMethods w t

  pub not_client : (s : Sel) → IsHome s → s.«package» ≢ client_path
  not_client s (inl e) = λ f. client_some (sym f ∙ e)
  not_client s (inr p) = (N.package_told w i s.«package» p.0 p.1).0

  home_of : (s : Sel) → IsOwned (map path_of w.packages) s → IsHome s
  home_of s (inl e) = inl e
  home_of s (inr h) = inr (first_told path_of w.packages s.«package» h)

  of_package : (p : Package) (s : Sel) → Has w.packages p → Has (package_selectors p) s → IsHome s
  of_package p s h k = home_of s (each_has (IsOwned (map path_of w.packages)) (gather package_selectors w.packages) s i.owned (in_gather package_selectors w.packages p s h k))

  entry_in : (n : TypeName) (d : Defined) (o : Option Package) (s : Sel) → package_at w n.path ≡ o → defined_in o n.name ≡ Some d → Has (defined_selectors d) s → IsHome s
  entry_in n d None s e f k = absurd (no_option d f)
  entry_in n d (Some p) s e f k =
      of_package p s (first_stands path_of w.packages n.path p e) (has-right (gather object_selectors p.objects) (gather defined_selectors p.defined) s (in_gather defined_selectors p.defined d s (first_stands name_of p.defined n.name d f) k))

  told_home : (n : TypeName) (d : Defined) (s : Sel) → types_of w n ≡ Some d → Has (defined_selectors d) s → IsHome s
  told_home n d s e k = entry_in n d (package_at w n.path) s refl e k

  beneath_home : (n : TypeName) (d : Defined) → entry T n ≡ Some d → (s : Sel) → Has (selectors d.underlying) s → IsHome s
  beneath_home n d e s k = either (entry_is w i (is_error n) n d refl e)
      (λ x. inl (error_selectors s (subst (λ (y : Defined). Has (selectors y.underlying) s) (sym x) k)))
      (λ x. told_home n d s x (has-left (selectors d.underlying) (gather declared_selectors d.methods) s k))

  declared_home : (n : TypeName) (d : Defined) (m : MethodOf) → entry T n ≡ Some d → Has d.methods m → (s : Sel) → Has (declared_selectors m) s → IsHome s
  declared_home n d m e k s j = either (entry_is w i (is_error n) n d refl e)
      (λ x. absurd (subst (λ (y : Defined). Has y.methods m) (sym x) k))
      (λ x. told_home n d s x (has-right (selectors d.underlying) (gather declared_selectors d.methods) s (in_gather declared_selectors d.methods m s k j)))

  pub object_home : (path : List ℕ) (o : Object) → Exports w path o → (s : Sel) → Has (object_selectors o) s → IsHome s
  object_home path o x s k = by (package_at w path) refl x.there
    where
      by : (q : Option Package) → package_at w path ≡ q → object_in q o.name ≡ Some o → IsHome s
      by None e f = absurd (no_option o f)
      by (Some p) e f = of_package p s (first_stands path_of w.packages path p e) (has-left (gather object_selectors p.objects) (gather defined_selectors p.defined) s (in_gather object_selectors p.objects o s (first_stands object_name p.objects o.name o f) k))

  std_only : (t : Term) (m : Method) → IsLabelled t → Has (methods_of (out-Term t)) m → IsStdOnly (method_sel m) (out-Method m).signature
  std_only t m g k = (g.homes (method_sel m) (own_method t m k), method_levels g.methods m k)

  -- what stands in such a type, and what is beneath it, is such a type
  pub labelled : Closed T IsLabelled IsHome IsStdOnly
  labelled = record {
    inside = λ t u g k. record { homes = λ s h. g.homes s (part_selectors t u s k h); methods = part_methods g.methods u k };
    fields = λ t f g k. g.homes (field_sel f) (own_field t f k);
    methods = std_only;
    beneath = λ t n d g e f. record { homes = beneath_home n d f; methods = Y.beneath n d f };
    declared = λ t n d m g e f k. (record { homes = λ s h. declared_home n d m f k s (inr (subst (λ (ss : Sels). Has ss s) (selectors_of_function m.signature) h)); methods = (Y.declared n d m f k).0 }, (declared_home n d m f k m.sel (inl refl), (Y.declared n d m f k).1));
  }
