-- A world with one more package is a world.
use Rattle.std.proofs.Common.{◌≡◌, ◌≢◌, ℕ, List, [], ◌∷◌, ◌++◌, map, inl, inr, Bool, true, false, Option, Some, None, refl, sym, ap, ◌∙◌, subst, if◌then◌else◌}
use mathlib.Core.Bool.{true≢false}
use Rattle.std.specs.Str.{bytes_eq}
use Rattle.std.proofs.lemmas.Slice.Eq.{bytes_eq-Decides}
use Rattle.std.specs.Ordering.{nat_cmp, is_lt, ordering_reverse}
use Rattle.std.specs.declared.cmp.Ordering.{Ordering}
use Rattle.std.specs.declared.cmp.Ordering.TheVariants.{Less, Equal, Greater}
use Rattle.std.specs.Cmp.Lexicographic.{slice_cmp}
use Rattle.std.specs.FinMap.{slice_cmp-IsAntisymmetric, nat_cmp-IsAntisymmetric}
use Rattle.std.proofs.lemmas.Cmp.{nat_list_cmp_total}
use Rattle.go_base.specs.Lists.{Has, Each, Before, Ascending}
use Rattle.go_base.specs.Gathered.{gather}
use Rattle.go_base.specs.Keys.{first_with, placed}
use Rattle.go_base.proofs.Members.{each_has}
use Rattle.go_model.specs.types.Tables.{Table}
use Rattle.go_model.specs.types.Terms.{is_error, error_type}
use Rattle.go_model.specs.types.Underlying.{entry}
use Rattle.go_model.specs.worlds.PackageTypes.{package_selectors}
use Rattle.go_model.specs.worlds.Worlds.{Packages, IsWorld, IsPackage, IsDefined, IsOwned, SignatureResolves, EntityResolves, path_of, table_of, defined_in, with_package}
use Rattle.go_model.specs.declared.types.names.Sel.{Sel}
use Rattle.go_model.specs.declared.types.names.TypeName.{TypeName}
use Rattle.go_model.specs.declared.types.package.Package.{Package}
use Rattle.go_model.specs.declared.types.package.Object.{Object}
use Rattle.go_model.specs.declared.types.package.Defined.{Defined}
use Rattle.go_model.specs.declared.types.package.MethodOf.{MethodOf}
use Rattle.go_model.specs.declared.types.package.Entity.{Entity}
use Rattle.go_model.specs.declared.types.package.Entity.TheVariants as entity
use Rattle.go_model.specs.declared.types.package.ConstTerm.TheVariants as constant
use Rattle.go_model.proofs.Paths.{defined_path}
use Rattle.go_model.proofs.WorldTypes.{each_front, each_behind}

abbrev order : List ℕ → List ℕ → Ordering
order = slice_cmp nat_cmp

either : {A : Type 0} (P : A → Type 0) (b : Bool) (u v : A) → (b ≡ true → P u) → (b ≡ false → P v) → P (if b then u else v)
either P true u v f g = f refl
either P false u v f g = g refl

each_as : {A : Type 0} (P Q : A → Type 0) (xs : List A) → ((x : A) → P x → Q x) → Each P xs → Each Q xs
each_as P Q [] f h = tt
each_as P Q (x ∷ xs) f h = (f x h.0, each_as P Q xs f h.1)

each_joined : {A : Type 0} (P : A → Type 0) (xs ys : List A) → Each P xs → Each P ys → Each P (xs ++ ys)
each_joined P [] ys h k = k
each_joined P (x ∷ xs) ys h k = (h.0, each_joined P xs ys h.1 k)

less_is : (o : Ordering) → is_lt o ≡ true → o ≡ Less
less_is Less e = refl
less_is Equal e = absurd (true≢false (sym e))
less_is Greater e = absurd (true≢false (sym e))

-- of two texts that differ one comes before the other
other_before : (a b : List ℕ) (o : Ordering) → order a b ≡ o → is_lt o ≡ false → a ≢ b → Before b a
other_before a b Less e h n = absurd (true≢false h)
other_before a b Equal e h n = absurd (n (slice_cmp-IsAntisymmetric nat_cmp-IsAntisymmetric a b e))
other_before a b Greater e h n = ap is_lt (nat_list_cmp_total.antisymm b a ∙ ap ordering_reverse e)

before_both : (a b c : List ℕ) → Before a b → Before b c → Before a c
before_both a b c h k = ap is_lt (nat_list_cmp_total.trans a b c (less_is (order a b) h) (less_is (order b c) k))

module _ {A : Type 0} (key : A → List ℕ) (y : A) where
  pub each_placed : (P : A → Type 0) (xs : List A) → P y → Each P xs → Each P (placed key y xs)
  each_placed P [] own h = (own, tt)
  each_placed P (x ∷ xs) own h = either (Each P) (is_lt (order (key y) (key x))) (y ∷ x ∷ xs) (x ∷ placed key y xs) (λ e. (own, h)) (λ e. (h.0, each_placed P xs own h.1))

  pub keys_kept : (xs : List A) (k : List ℕ) → Has (map key xs) k → Has (map key (placed key y xs)) k
  keys_kept [] k h = absurd h
  keys_kept (x ∷ xs) k h =
      let later : Has (map key xs) k → Has (map key (placed key y xs)) k = keys_kept xs k in
      either (λ w. Has (map key w) k) (is_lt (order (key y) (key x))) (y ∷ x ∷ xs) (x ∷ placed key y xs) (λ e. inr h) (λ e. elim h [ inl s ↦ inl s | inr r ↦ inr (later r) ])

  pub key_placed : (xs : List A) → Has (map key (placed key y xs)) (key y)
  key_placed [] = inl refl
  key_placed (x ∷ xs) = either (λ w. Has (map key w) (key y)) (is_lt (order (key y) (key x))) (y ∷ x ∷ xs) (x ∷ placed key y xs) (λ e. inl refl) (λ e. inr (key_placed xs))

  each_key : (P : List ℕ → Type 0) (xs : List A) → Each P (map key xs) → P (key y) → Each P (map key (placed key y xs))
  each_key P [] h own = (own, tt)
  each_key P (x ∷ xs) h own = either (λ w. Each P (map key w)) (is_lt (order (key y) (key x))) (y ∷ x ∷ xs) (x ∷ placed key y xs) (λ e. (own, h)) (λ e. (h.0, each_key P xs h.1 own))

  -- an item with a new key keeps a list in order
  pub order_kept : (xs : List A) → Ascending (map key xs) → (Has (map key xs) (key y) → ⊥) → Ascending (map key (placed key y xs))
  order_kept [] h new = (tt, tt)
  order_kept (x ∷ xs) h new =
      let later : Ascending (map key (placed key y xs)) = order_kept xs h.1 (λ k. new (inr k)) in
      either (λ w. Ascending (map key w)) (is_lt (order (key y) (key x))) (y ∷ x ∷ xs) (x ∷ placed key y xs)
      (λ e. ((e, each_as (Before (key x)) (Before (key y)) (map key xs) (λ z k. before_both (key y) (key x) z e k) h.0), h))
      (λ e. (each_key (Before (key x)) xs h.0 (other_before (key y) (key x) (order (key y) (key x)) refl e (λ s. new (inl (sym s)))), later))

  -- what another key finds is found as before
  pub first_placed : (xs : List A) (k : List ℕ) → bytes_eq (key y) k ≡ false → first_with key (placed key y xs) k ≡ first_with key xs k
  first_placed [] k other = ap (λ b. if b then Some y else None) other
  first_placed (x ∷ xs) k other =
      let later : first_with key (placed key y xs) k ≡ first_with key xs k = first_placed xs k other in
      either (λ w. first_with key w k ≡ first_with key (x ∷ xs) k) (is_lt (order (key y) (key x))) (y ∷ x ∷ xs) (x ∷ placed key y xs)
      (λ e. ap (λ b. if b then Some y else first_with key (x ∷ xs) k) other)
      (λ e. ap (λ o. if bytes_eq (key x) k then Some x else o) later)

  pub given_placed : {B : Type 0} (P : B → Type 0) (f : A → List B) (xs : List A) → Each P (f y) → Each P (gather f xs) → Each P (gather f (placed key y xs))
  given_placed P f [] own h = each_joined P (f y) [] own tt
  given_placed P f (x ∷ xs) own h =
      let later : Each P (gather f (placed key y xs)) = given_placed P f xs own (each_behind P (f x) (gather f xs) h) in
      either (λ w. Each P (gather f w)) (is_lt (order (key y) (key x))) (y ∷ x ∷ xs) (x ∷ placed key y xs)
      (λ e. each_joined P (f y) (f x ++ gather f xs) own h)
      (λ e. each_joined P (f x) (gather f (placed key y xs)) (each_front P (f x) (gather f xs) h) later)

same_map : (xs : List (List ℕ)) → map (λ t. t) xs ≡ xs
same_map [] = refl
same_map (x ∷ xs) = ap (λ ys. x ∷ ys) (same_map xs)

entry_more : (b : Bool) (e : Defined) (o p : Option Defined) → (o ≢ None → p ≢ None) → (if b then Some e else o) ≢ None → (if b then Some e else p) ≢ None
entry_more true e o p f h = h
entry_more false e o p f h = f h

-- a package of a table is one of a table with more entries
module _ (T U : Table) (more : (n : TypeName) → entry T n ≢ None → entry U n ≢ None) where
  entity_more : (e : Entity) → EntityResolves T e → EntityResolves U e
  entity_more (entity.Const (constant.OfTerm t) v) h = λ n k. more n (h n k)
  entity_more (entity.Const (constant.OfKind k) v) h = tt
  entity_more (entity.Var t) h = λ n k. more n (h n k)
  entity_more (entity.Function g) h = λ n k. more n (h n k)
  entity_more (entity.TypeOf t) h = λ n k. more n (h n k)

  defined_more : (d : Defined) → IsDefined T d → IsDefined U d
  defined_more d h = record {
    resolved = λ n k. more n (h.resolved n k);
    signatures = each_as (λ (m : MethodOf). SignatureResolves T m.signature) (λ (m : MethodOf). SignatureResolves U m.signature) d.methods (λ m s n k. more n (s n k)) h.signatures;
    structured = h.structured;
    methods = h.methods;
    bare = h.bare;
    apart = h.apart;
  }

  pub package_more : (p : Package) → IsPackage T p → IsPackage U p
  package_more p h = record {
    pathed = h.pathed;
    foreign = h.foreign;
    objects = h.objects;
    defined = h.defined;
    entities = each_as (λ (o : Object). EntityResolves T o.entity) (λ (o : Object). EntityResolves U o.entity) p.objects (λ o. entity_more o.entity) h.entities;
    types = each_as (IsDefined T) (IsDefined U) p.defined defined_more h.types;
    declared = h.declared;
    formed = h.formed;
  }

module _ (w : Packages) (p : Package) (i : IsWorld w) (new : Has (map path_of w.packages) p.path → ⊥) where
  abbrev all : List Package
  all = placed path_of p w.packages

  there_more : (n : TypeName) → table_of w.packages n ≢ None → table_of all n ≢ None
  there_more n h e = by (bytes_eq p.path n.path) refl
    where
      by : (b : Bool) → bytes_eq p.path n.path ≡ b → ⊥
      by true s = new (subst (Has (map path_of w.packages)) (sym ((bytes_eq-Decides p.path n.path).0 s)) (defined_path w.packages n h))
      by false s = h (ap (λ o. defined_in o n.name) (sym (first_placed path_of p w.packages n.path s)) ∙ e)

  owned_more : (s : Sel) → IsOwned (map path_of w.packages) s → IsOwned (map path_of all) s
  owned_more s (inl e) = inl e
  owned_more s (inr h) = inr (keys_kept path_of p w.packages s.«package» h)

  own_path : (s : Sel) → IsOwned (p.path ∷ map path_of w.packages) s → IsOwned (map path_of all) s
  own_path s (inl e) = inl e
  own_path s (inr (inl e)) = inr (subst (Has (map path_of all)) e (key_placed path_of p w.packages))
  own_path s (inr (inr h)) = inr (keys_kept path_of p w.packages s.«package» h)

  not_public : Has (map (λ t. t) w.publics) p.path → ⊥
  not_public h = new (each_has (Has (map path_of w.packages)) w.publics p.path i.public_paths (subst (λ (ts : List (List ℕ)). Has ts p.path) (same_map w.publics) h))

  publics_order : (b : Bool) → Ascending (if b then placed (λ t. t) p.path w.publics else w.publics)
  publics_order true = subst Ascending (same_map (placed (λ t. t) p.path w.publics)) (order_kept (λ t. t) p.path w.publics (subst Ascending (sym (same_map w.publics)) i.public_order) not_public)
  publics_order false = i.public_order

  publics_there : (b : Bool) → Each (Has (map path_of all)) (if b then placed (λ t. t) p.path w.publics else w.publics)
  publics_there true = each_placed (λ t. t) p.path (Has (map path_of all)) w.publics (key_placed path_of p w.packages) (each_as (Has (map path_of w.packages)) (Has (map path_of all)) w.publics (keys_kept path_of p w.packages) i.public_paths)
  publics_there false = each_as (Has (map path_of w.packages)) (Has (map path_of all)) w.publics (keys_kept path_of p w.packages) i.public_paths

  pub more_world : (public : Bool) → IsPackage (table_of all) p → Each (IsOwned (p.path ∷ map path_of w.packages)) (package_selectors p) → IsWorld (with_package w p public)
  more_world public kept own = record {
    ordered = order_kept path_of p w.packages i.ordered new;
    packaged =
        each_placed path_of p (IsPackage (table_of all)) w.packages kept
        (each_as (IsPackage (table_of w.packages)) (IsPackage (table_of all)) w.packages
        (package_more (table_of w.packages) (table_of all) (λ n. entry_more (is_error n) error_type (table_of w.packages n) (table_of all n) (there_more n))) i.packaged);
    owned =
        given_placed path_of p (IsOwned (map path_of all)) package_selectors w.packages
        (each_as (IsOwned (p.path ∷ map path_of w.packages)) (IsOwned (map path_of all)) (package_selectors p) own_path own)
        (each_as (IsOwned (map path_of w.packages)) (IsOwned (map path_of all)) (gather package_selectors w.packages) owned_more i.owned);
    public_order = publics_order public;
    public_paths = publics_there public;
  }
