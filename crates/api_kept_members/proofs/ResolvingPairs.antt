-- The types of each owned pair are of their worlds: each name in them has its entry.
use Rattle.std.proofs.Common.{◌≡◌, ◌⊎◌, inl, inr, ℕ, Bool, true, false, List, [], ◌∷◌, ◌++◌, refl, sym, ap, ◌∙◌, subst, Option, Some, None}
use Rattle.std.specs.Prelude.{if◌then◌else◌, codes}
use Rattle.go_base.specs.Lists.{Has}
use Rattle.go_base.proofs.Members.{each_has}
use Rattle.go_base.proofs.Ordered.{each_first}
use Rattle.go_model.specs.declared.constants.value.Basic.{Basic}
use Rattle.go_model.specs.declared.constants.value.Basic.TheVariants as basic
use Rattle.go_model.specs.declared.types.found.FieldFound.{FieldFound}
use Rattle.go_model.specs.declared.types.found.Found.TheVariants.{FieldAt}
use Rattle.go_model.specs.declared.types.names.Sel.{Sel}
use Rattle.go_model.specs.declared.types.names.TypeName.{TypeName}
use Rattle.go_model.specs.declared.types.package.ConstTerm.TheVariants as constant
use Rattle.go_model.specs.declared.types.package.Defined.{Defined}
use Rattle.go_model.specs.declared.types.package.Entity.{Entity}
use Rattle.go_model.specs.declared.types.package.Entity.TheVariants as entity
use Rattle.go_model.specs.declared.types.package.MethodOf.{MethodOf}
use Rattle.go_model.specs.declared.types.package.Object.{Object}
use Rattle.go_model.specs.declared.types.package.Package.{Package}
use Rattle.go_model.specs.declared.types.term.Method.{out-Method, out-roll-Method}
use Rattle.go_model.specs.declared.types.term.Signature.{Signature, out-Signature, roll-Signature, out-roll-Signature}
use Rattle.go_model.specs.declared.types.term.Term.{Term, Term-F, out-Term, roll-Term, out-roll-Term}
use Rattle.go_model.specs.types.MethodSets.{InSet}
use Rattle.go_model.specs.types.Selectors.{Ending, Finds, ends, field, method, start, start_layer, start_named, start_pointer}
use Rattle.go_model.specs.types.Tables.{Table}
use Rattle.go_model.specs.types.Terms.{Layer, error_method, error_type, is_error, pointer_to}
use Rattle.go_model.specs.types.Underlying.{entry, under}
use Rattle.go_model.specs.worlds.Worlds.{EntityResolves, IsPackage, IsWorld, Packages, object_in, object_name, path_of, table_of}
use Rattle.go_model.proofs.WorldTypes.{told}
use Rattle.go_type_images.specs.Parts.{function_type, method_type, parts}
use Rattle.api_correspond.specs.Outermost.{pair, side_by_side}
use Rattle.api_correspond.specs.OwnedPairs.{Leads, to_part, to_part_underneath, to_field, to_promoted_field, to_method, Owned, from_object, led_to, receiver, receiver_layer, types_of_entities}
use Rattle.api_correspond.specs.Publics.{Exports, package_at, types_of}
use Rattle.go_type_images.specs.declared.pair.TypePair.{TypePair}
use Rattle.api_kept_members.specs.inner.Entries.{had}
use Rattle.go_type_images.specs.Leaves.{Leaves, leaves}
use Rattle.api_kept_members.proofs.Resolving.{EntriesResolve, resolved_function, resolved_leaves, under_resolves, field_resolves, level_parts, out_resolves, found_resolves, LayerResolves}
use Rattle.go_type_images.proofs.Leaves.{part_leaves}

no_name : (t : Term) (l : Layer) (T : Table) → out-Term t ≡ l → ((n : TypeName) → l ≡ Term-F.Named n → ⊥) → ((u : Term) → Has (parts l) u → Leaves (had T) u) → Leaves (had T) t
no_name t l T e f h = leaves (λ n k. absurd (f n (sym e ∙ k))) (λ u k. h u (subst (λ x. Has (parts x) u) e k))

pub pointer_resolves : (T : Table) (t : Term) → Leaves (had T) t → Leaves (had T) (pointer_to t)
pointer_resolves T t h = no_name (pointer_to t) (Term-F.Pointer t) T (out-roll-Term _) (λ n e. absurd (cc)) (λ u k. of_one u k)
  where
    of_one : (u : Term) → Has (t ∷ []) u → Leaves (had T) u
    of_one u (inl e) = subst (Leaves (had T)) e h
    of_one u (inr k) = absurd k

-- ---- a world's table

plain_resolves : (T : Table) (t : Term) (b : Basic) → out-Term t ≡ Term-F.Plain b → Leaves (had T) t
plain_resolves T t b e = no_name t (Term-F.Plain b) T e (λ n i. absurd (cc)) (λ u k. absurd k)

function_resolves : (T : Table) (g : Signature) → ((u : Term) → Has ((out-Signature g).params ++ (out-Signature g).results) u → Leaves (had T) u) → Leaves (had T) (function_type g)
function_resolves T g h = no_name (function_type g) (Term-F.Func g) T (out-roll-Term _) (λ n e. absurd (cc)) h

text_type : Term
text_type = roll-Term (Term-F.Plain basic.Str)

gives_text : (T : Table) (u : Term) → Has (text_type ∷ []) u → Leaves (had T) u
unfolding text_type
gives_text T u (inl e) = subst (Leaves (had T)) e (plain_resolves T (roll-Term (Term-F.Plain basic.Str)) basic.Str (out-roll-Term _))
gives_text T u (inr k) = absurd k

error_signature : (out-Method error_method).signature ≡ roll-Signature (record { params = []; variadic = false; results = roll-Term (Term-F.Plain basic.Str) ∷ [] })
error_signature = ap (λ m. m.signature) (out-roll-Method (record { sel = record { name = codes "Error"; «package» = [] }; signature = roll-Signature (record { params = []; variadic = false; results = roll-Term (Term-F.Plain basic.Str) ∷ [] }) }))

error_function : (T : Table) (g : Signature) → g ≡ roll-Signature (record { params = []; variadic = false; results = roll-Term (Term-F.Plain basic.Str) ∷ [] }) → Leaves (had T) (function_type g)
unfolding text_type
error_function T g e = function_resolves T g (λ u k. gives_text T u (subst (λ x. Has (x.params ++ x.results) u) (ap out-Signature e ∙ out-roll-Signature _) k))

error_resolves : (T : Table) → Leaves (had T) error_type.underlying
error_resolves T = no_name error_type.underlying (Term-F.Interface (error_method ∷ [])) T (out-roll-Term _) (λ n e. absurd (cc)) of_method
  where
    of_method : (u : Term) → Has (method_type error_method ∷ []) u → Leaves (had T) u
    of_method u (inl e) = subst (Leaves (had T)) e (error_function T (out-Method error_method).signature error_signature)
    of_method u (inr k) = absurd k

module _ (w : Packages) (i : IsWorld w) where
  abbrev T : Table
  T = types_of w

  abbrev pub EntityIn : Entity → Type 0
  EntityIn (entity.Const (constant.OfTerm t) v) = Leaves (had T) t
  EntityIn (entity.Const (constant.OfKind k) v) = Unit {0}
  EntityIn (entity.Var t) = Leaves (had T) t
  EntityIn (entity.Function g) = Leaves (had T) (function_type g)
  EntityIn (entity.TypeOf t) = Leaves (had T) t

  pub entry_is : (b : Bool) (n : TypeName) (d : Defined) → is_error n ≡ b → entry T n ≡ Some d → (error_type ≡ d) ⊎ (table_of w.packages n ≡ Some d)
  entry_is true n d b e = let x : Some error_type ≡ Some d = sym (ap (λ c. if c then Some error_type else table_of w.packages n) b) ∙ e in inl (cc)
  entry_is false n d b e = inr (sym (ap (λ c. if c then Some error_type else table_of w.packages n) b) ∙ e)

  pub entries_resolve : EntriesResolve T
  entries_resolve = record {
    beneath = λ n d e. beneath n d (entry_is (is_error n) n d refl e);
    methods = λ n d m e k. methods n d m (entry_is (is_error n) n d refl e) k;
  }
    where
      beneath : (n : TypeName) (d : Defined) → (error_type ≡ d) ⊎ (table_of w.packages n ≡ Some d) → Leaves (had T) d.underlying
      beneath n d (inl e) = subst (λ (x : Defined). Leaves (had T) x.underlying) e (error_resolves T)
      beneath n d (inr e) = resolved_leaves T d.underlying (told w i n d e).kept.resolved

      methods : (n : TypeName) (d : Defined) (m : MethodOf) → (error_type ≡ d) ⊎ (table_of w.packages n ≡ Some d) → Has d.methods m → Leaves (had T) (function_type m.signature)
      methods n d m (inl e) k = absurd (subst (λ (x : Defined). Has x.methods m) (sym e) k)
      methods n d m (inr e) k = resolved_function T m.signature (each_has (λ (x : MethodOf). _) d.methods m (told w i n d e).kept.signatures k)

  entity_resolves : (x : Entity) → EntityResolves T x → EntityIn x
  entity_resolves (entity.Const (constant.OfTerm t) v) h = resolved_leaves T t h
  entity_resolves (entity.Const (constant.OfKind k) v) h = tt
  entity_resolves (entity.Var t) h = resolved_leaves T t h
  entity_resolves (entity.Function g) h = resolved_function T g h
  entity_resolves (entity.TypeOf t) h = resolved_leaves T t h

  in_package_at : (path : List ℕ) (o : Option Package) (x : Object) → o ≡ package_at w path → object_in o x.name ≡ Some x → EntityResolves T x.entity
  in_package_at path None x e h = absurd (cc)
  in_package_at path (Some p) x e h =
      let k : IsPackage (table_of w.packages) p = each_first path_of (IsPackage (table_of w.packages)) w.packages path p e i.packaged in
      each_first object_name (λ (y : Object). EntityResolves T y.entity) p.objects x.name x (sym h) k.entities

  pub object_resolves : (path : List ℕ) (x : Object) → Exports w path x → EntityIn x.entity
  object_resolves path x h = entity_resolves x.entity (in_package_at path (package_at w path) x refl h.there)

-- ---- where a search begins

module _ (T : Table) (H : EntriesResolve T) where
  pointer_start : (t base : Term) (l : Layer) → Leaves (had T) t → Leaves (had T) base → Leaves (had T) (start_pointer t base l).term
  pointer_start t base (Term-F.Pointer u) h k = h
  pointer_start t base (Term-F.Interface ms) h k = h
  pointer_start t base l h k = k

  named_start : (t : Term) (l : Layer) → Leaves (had T) t → LayerResolves T l → Leaves (had T) (start_named t l).term
  named_start t (Term-F.Pointer base) h k = level_parts T H (Term-F.Pointer base) k base (inl refl)
  named_start t l h k = h

  layer_start : (t : Term) (l : Layer) → Leaves (had T) t → LayerResolves T l → Leaves (had T) (start_layer T t l).term
  layer_start t (Term-F.Pointer base) h k = pointer_start t base (under T base) h (level_parts T H (Term-F.Pointer base) k base (inl refl))
  layer_start t (Term-F.Named n) h k = named_start t (under T t) h (under_resolves T H t h)
  layer_start t l h k = h

  start_resolves : (t : Term) → Leaves (had T) t → Leaves (had T) (start T t).term
  start_resolves t h = layer_start t (out-Term t) h (out_resolves T H t h)

  first_of : (xs : List Ending) (e : Ending) → xs ≡ e ∷ [] → Has xs e
  first_of xs e h = subst (λ ys. Has ys e) (sym h) (inl refl)

  pub field_found_resolves : (s : Sel) (t : Term) (f : FieldFound) → Leaves (had T) t → Finds T s t (FieldAt f) → Leaves (had T) f.term
  field_found_resolves s t f h k = found_resolves T H s k.0 (start T t) (record { through = f.through_pointer; target = field f.term }) (start_resolves t h) (first_of (ends T s k.0 (start T t)) _ k.1.only)

  pub method_in_resolves : (t : Term) (s : Sel) (g : Signature) → Leaves (had T) t → InSet T t s g → Leaves (had T) (function_type g)
  method_in_resolves t s g h k = found_resolves T H s k.depth (start T t) (record { through = k.through; target = method k.owner k.pointer g }) (start_resolves t h) (first_of (ends T s k.depth (start T t)) _ k.only.only)

  receiver_at : (t : Term) (l : Layer) → Leaves (had T) t → Leaves (had T) (receiver_layer t l)
  receiver_at t (Term-F.Interface ms) h = h
  receiver_at t l h = pointer_resolves T t h

  pub receiver_resolves : (t : Term) → Leaves (had T) t → Leaves (had T) (receiver T t)
  receiver_resolves t h = receiver_at t (under T t) h

-- ---- pairs

at_both : (us ts : List Term) (q : TypePair) → Has (side_by_side us ts) q → Has us q.old × Has ts q.new
at_both [] ts q h = absurd h
at_both (u ∷ us) [] q h = absurd h
at_both (u ∷ us) (t ∷ ts) q (inl e) = (inl (ap (λ (z : TypePair). z.old) e), inl (ap (λ (z : TypePair). z.new) e))
at_both (u ∷ us) (t ∷ ts) q (inr h) = let k = at_both us ts q h in (inr k.0, inr k.1)

module _ (old new : Packages) (i : IsWorld old) (j : IsWorld new) where
  abbrev S : Table
  S = types_of old

  abbrev U : Table
  U = types_of new

  abbrev pub AreIn : TypePair → Type 0
  AreIn p = Leaves (had S) p.old × Leaves (had U) p.new

  of_entities : (a b : Entity) (p : TypePair) → EntityIn old i a → EntityIn new j b → types_of_entities a b ≡ Some p → AreIn p
  of_entities (entity.Const (constant.OfTerm s) v) (entity.Const (constant.OfTerm t) w) p h k e = let x : pair s t ≡ p = cc in subst AreIn x (h, k)
  of_entities (entity.Var s) (entity.Var t) p h k e = let x : pair s t ≡ p = cc in subst AreIn x (h, k)
  of_entities (entity.Function g) (entity.Function m) p h k e = let x : pair (function_type g) (function_type m) ≡ p = cc in subst AreIn x (h, k)
  of_entities (entity.Function g) (entity.Var t) p h k e = let x : pair (function_type g) t ≡ p = cc in subst AreIn x (h, k)
  of_entities (entity.TypeOf s) (entity.TypeOf t) p h k e = let x : pair s t ≡ p = cc in subst AreIn x (h, k)
  of_entities a b p h k e = absurd (cc)

  led_resolves : (p q : TypePair) → AreIn p → Leads old new p q → AreIn q
  led_resolves p q h (to_part m k) = let b = at_both (parts (out-Term p.old)) (parts (out-Term p.new)) q k in (part_leaves h.0 q.old b.0, part_leaves h.1 q.new b.1)
  led_resolves p q h (to_part_underneath o m n k) =
      let b = at_both (parts (under S p.old)) (parts (under U p.new)) q k in
      (level_parts S (entries_resolve old i) (under S p.old) (under_resolves S (entries_resolve old i) p.old h.0) q.old b.0, level_parts U (entries_resolve new j) (under U p.new) (under_resolves U (entries_resolve new j) p.new h.1) q.new b.1)
  led_resolves p q h (to_field f g o k l x e) = (field_resolves S (entries_resolve old i) (under S p.old) f (under_resolves S (entries_resolve old i) p.old h.0) k, field_resolves U (entries_resolve new j) (under U p.new) g (under_resolves U (entries_resolve new j) p.new h.1) l)
  led_resolves p q h (to_promoted_field s f g o x k d l) = (field_found_resolves S (entries_resolve old i) s p.old f h.0 k, field_found_resolves U (entries_resolve new j) s p.new g h.1 l)
  led_resolves p q h (to_method s g m o x k l) = (method_in_resolves S (entries_resolve old i) (receiver S p.old) s g (receiver_resolves S (entries_resolve old i) p.old h.0) k, method_in_resolves U (entries_resolve new j) (receiver U p.new) s m (receiver_resolves U (entries_resolve new j) p.new h.1) l)

  -- each name in the types of an owned pair has its entry
  pub pair_resolves : {owner : List ℕ} {p : TypePair} → Owned old new owner p → AreIn p
  pair_resolves (from_object {p = p} f o) = of_entities (f.before).entity (f.after).entity p (object_resolves old i f.path f.before f.exported) (object_resolves new j f.path f.after f.kept) f.types
  pair_resolves (led_to {p = p} {q = q} w l o) = led_resolves p q (pair_resolves w) l
