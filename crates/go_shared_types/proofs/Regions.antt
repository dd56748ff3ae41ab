-- What is found from the types of a set that is closed under what stands in them and what a table has underneath.
use Rattle.std.proofs.Common.{◌≡◌, ◌⊎◌, inl, inr, ℕ, zero, suc, Bool, true, false, List, [], ◌∷◌, ◌++◌, map, refl, sym, ap, ◌∙◌, subst, Option, Some, None}
use Rattle.std.specs.Prelude.{if◌then◌else◌}
use Rattle.go_base.specs.Gathered.{gather}
use Rattle.go_base.specs.Lists.{Has}
use Rattle.go_base.proofs.Members.{gather_of, has_split}
use Rattle.go_model.specs.declared.types.names.Sel.{Sel}
use Rattle.go_model.specs.declared.types.names.TypeName.{TypeName}
use Rattle.go_model.specs.declared.types.package.Defined.{Defined}
use Rattle.go_model.specs.declared.types.package.MethodOf.{MethodOf}
use Rattle.go_model.specs.declared.types.term.Field.{Field, out-Field}
use Rattle.go_model.specs.declared.types.term.Method.{Method, out-Method}
use Rattle.go_model.specs.declared.types.term.Signature.{Signature}
use Rattle.go_model.specs.declared.types.term.Term.{Term, Term-F, out-Term}
use Rattle.go_model.specs.types.Members.{field_sel}
use Rattle.go_model.specs.types.MethodSets.{method_sel}
use Rattle.go_model.specs.types.Selectors.{Ending, IsOnly, Spot, Target, base_layer, base_of, declared_ending, ends, field, field_ending, method, method_ending, name_of, start, start_layer, start_named, start_pointer, step, steps}
use Rattle.go_model.specs.types.Tables.{Table}
use Rattle.go_model.specs.types.Terms.{Layer, same_sel}
use Rattle.go_model.specs.types.Underlying.{declared_methods, entry, fields_of, methods_of, methods_of_entry, under, under_entry, under_layer}
use Rattle.go_rules.specs.Usability.{LeadsTo, leads_array, leads_here, leads_struct}
use Rattle.go_selectors.specs.Ways.{OnWay, here, further}
use Rattle.go_selectors.proofs.Noting.{sel_is}
use Rattle.go_type_images.specs.Parts.{field_type, function_type, method_type, parts}
use Rattle.go_shared_types.proofs.Items.{either, in_map, only_if}

abbrev end_of : Bool → Target → Ending
end_of through target = record { through = through; target = target }

name_is : (l : Layer) (n : TypeName) → name_of l ≡ Some n → l ≡ Term-F.Named n
name_is (Term-F.Named m) n e = cc
name_is (Term-F.Plain b) n e = absurd (cc)
name_is (Term-F.Pointer u) n e = absurd (cc)
name_is (Term-F.Slice u) n e = absurd (cc)
name_is (Term-F.Array m u) n e = absurd (cc)
name_is (Term-F.Map m u) n e = absurd (cc)
name_is (Term-F.Chan d u) n e = absurd (cc)
name_is (Term-F.Func g) n e = absurd (cc)
name_is (Term-F.Struct fs) n e = absurd (cc)
name_is (Term-F.Interface ms) n e = absurd (cc)

field_part : (l : Layer) (f : Field) → Has (fields_of l) f → Has (parts l) (field_type f)
field_part (Term-F.Struct fs) f h = in_map field_type fs f h
field_part l f h = absurd h

method_part : (l : Layer) (m : Method) → Has (methods_of l) m → Has (parts l) (method_type m)
method_part (Term-F.Interface ms) m h = in_map method_type ms m h
method_part l m h = absurd h

no_owner : (n : TypeName) → ◌≡◌ {A = Option TypeName} None (Some n) → ⊥
no_owner n e = absurd (cc)

nothing : {A : Type 0} (xs : List A) → ((x : A) → Has xs x → ⊥) → xs ≡ []
nothing [] h = refl
nothing (x ∷ xs) h = absurd (h x (inl refl))

pub first_of : {A : Type 0} (xs : List A) (x : A) → xs ≡ x ∷ [] → Has xs x
first_of xs x h = subst (λ ys. Has ys x) (sym h) (inl refl)

-- a set of types, one of selectors of fields, and one of methods: what stands in a type of the set, and what the table has of its name, is in them too
pub record Closed (T : Table) (G : Term → Type 0) (Q : Sel → Type 0) (M : Sel → Signature → Type 0) : Type 0 where
  pub inside : (t u : Term) → G t → Has (parts (out-Term t)) u → G u
  pub fields : (t : Term) (f : Field) → G t → Has (fields_of (out-Term t)) f → Q (field_sel f)
  pub methods : (t : Term) (m : Method) → G t → Has (methods_of (out-Term t)) m → M (method_sel m) (out-Method m).signature
  pub beneath : (t : Term) (n : TypeName) (d : Defined) → G t → out-Term t ≡ Term-F.Named n → entry T n ≡ Some d → G d.underlying
  pub declared : (t : Term) (n : TypeName) (d : Defined) (m : MethodOf) → G t → out-Term t ≡ Term-F.Named n → entry T n ≡ Some d → Has d.methods m → G (function_type m.signature) × M m.sel m.signature

abbrev pub TargetIn : (Term → Type 0) → Target → Type 0
TargetIn G (field t) = G t
TargetIn G (method o p g) = G (function_type g)

abbrev pub SelectedIn : (Sel → Type 0) → (Sel → Signature → Type 0) → Sel → Target → Type 0
SelectedIn Q M s (field t) = Q s
SelectedIn Q M s (method o p g) = M s g

-- the type that a found method is declared for
abbrev pub OwnerIn : (Term → Type 0) → Target → Type 0
OwnerIn G (field t) = Unit {0}
OwnerIn G (method o p g) = (n : TypeName) → o ≡ Some n → (t : Term) × G t × (out-Term t ≡ Term-F.Named n)

-- what a selector finds
pub record EndIn (G : Term → Type 0) (Q : Sel → Type 0) (M : Sel → Signature → Type 0) (s : Sel) (e : Ending) : Type 0 where
  pub target : TargetIn G e.target
  pub selected : SelectedIn Q M s e.target
  pub owner : OwnerIn G e.target

module _ (T : Table) (G : Term → Type 0) (Q : Sel → Type 0) (M : Sel → Signature → Type 0) (C : Closed T G Q M) where
  entry_of : (t : Term) (n : TypeName) (o : Option Defined) → G t → out-Term t ≡ Term-F.Named n → entry T n ≡ o → (v : Term) × G v × (under_entry n o ≡ out-Term v)
  entry_of t n None g e f = (t, g, sym e)
  entry_of t n (Some d) g e f = (d.underlying, C.beneath t n d g e f, refl)

  layer_of : (t : Term) (l : Layer) → G t → out-Term t ≡ l → (v : Term) × G v × (under_layer T l ≡ out-Term v)
  layer_of t (Term-F.Named n) g e = entry_of t n (entry T n) g e refl
  layer_of t l g e = (t, g, sym e)

  -- what is underneath is the level of a type of the set
  pub under_of : (t : Term) → G t → (v : Term) × G v × (under T t ≡ out-Term v)
  under_of t g = layer_of t (out-Term t) g refl

  pub field_in : (t : Term) (f : Field) → G t → Has (fields_of (under T t)) f → G (field_type f) × Q (field_sel f)
  field_in t f g k =
      let v = under_of t g in
      let h : Has (fields_of (out-Term v.0)) f = subst (λ l. Has (fields_of l) f) v.2 k in
      (C.inside v.0 (field_type f) v.1 (field_part (out-Term v.0) f h), C.fields v.0 f v.1 h)

  pub method_in : (t : Term) (m : Method) → G t → Has (methods_of (under T t)) m → G (method_type m) × M (method_sel m) (out-Method m).signature
  method_in t m g k =
      let v = under_of t g in
      let h : Has (methods_of (out-Term v.0)) m = subst (λ l. Has (methods_of l) m) v.2 k in
      (C.inside v.0 (method_type m) v.1 (method_part (out-Term v.0) m h), C.methods v.0 m v.1 h)

  had_method : (t : Term) (n : TypeName) (o : Option Defined) (m : MethodOf) → G t → out-Term t ≡ Term-F.Named n → entry T n ≡ o → Has (methods_of_entry o) m → G (function_type m.signature) × M m.sel m.signature
  had_method t n None m g e f k = absurd k
  had_method t n (Some d) m g e f k = C.declared t n d m g e f k

  layer_method : (t : Term) (l : Layer) (m : MethodOf) → G t → out-Term t ≡ l → Has (declared_methods T l) m → G (function_type m.signature) × M m.sel m.signature
  layer_method t (Term-F.Named n) m g e k = had_method t n (entry T n) m g e refl k
  layer_method t l m g e k = absurd k

  pub declared_in : (t : Term) (m : MethodOf) → G t → Has (declared_methods T (out-Term t)) m → G (function_type m.signature) × M m.sel m.signature
  declared_in t m g k = layer_method t (out-Term t) m g refl k

  layer_base : (t : Term) (l : Layer) → G t → out-Term t ≡ l → G (base_layer t l)
  layer_base t (Term-F.Pointer b) g e = C.inside t b g (subst (λ x. Has (parts x) b) (sym e) (inl refl))
  layer_base t l g e = g

  pub base_in : (t : Term) → G t → G (base_of t)
  base_in t g = layer_base t (out-Term t) g refl

  step_in : (at x : Spot) → G at.term → Has (steps T at) x → G x.term
  step_in at x g k =
      let f = gather_of (step at.through) (fields_of (under T at.term)) x k in
      subst (λ (y : Spot). G y.term) (only_if (out-Field f.0).embedded _ x f.2).1 (base_in (out-Field f.0).term (field_in at.term f.0 g f.1).0)

  -- the types on a way are in the set
  pub way_in : {at x : Spot} → OnWay T at x → G at.term → G x.term
  way_in here g = g
  way_in {at = at} (further {next = next} i o) g = way_in o (step_in at next g i)

  of_field : (s : Sel) (at : Spot) (e : Ending) → G at.term → Has (gather (field_ending s at.through) (fields_of (under T at.term))) e → EndIn G Q M s e
  of_field s at e g k =
      let f = gather_of (field_ending s at.through) (fields_of (under T at.term)) e k in
      let o = only_if (same_sel (out-Field f.0).sel s) (end_of at.through (field (out-Field f.0).term)) e f.2 in
      let h = field_in at.term f.0 g f.1 in
      subst (EndIn G Q M s) o.1 (record { target = h.0; selected = subst Q (sel_is (out-Field f.0).sel s o.0) h.1; owner = tt })

  of_declared : (s : Sel) (at : Spot) (e : Ending) → G at.term → Has (gather (declared_ending (name_of (out-Term at.term)) s at.through) (declared_methods T (out-Term at.term))) e → EndIn G Q M s e
  of_declared s at e g k =
      let m = gather_of (declared_ending (name_of (out-Term at.term)) s at.through) (declared_methods T (out-Term at.term)) e k in
      let o = only_if (same_sel (m.0).sel s) (end_of at.through (method (name_of (out-Term at.term)) (m.0).pointer (m.0).signature)) e m.2 in
      let h = declared_in at.term m.0 g m.1 in
      subst (EndIn G Q M s) o.1 (record { target = h.0; selected = subst (λ x. M x (m.0).signature) (sel_is (m.0).sel s o.0) h.1; owner = λ n q. (at.term, g, name_is (out-Term at.term) n q) })

  of_method : (s : Sel) (at : Spot) (e : Ending) → G at.term → Has (gather (method_ending s at.through) (methods_of (under T at.term))) e → EndIn G Q M s e
  of_method s at e g k =
      let m = gather_of (method_ending s at.through) (methods_of (under T at.term)) e k in
      let o = only_if (same_sel (out-Method m.0).sel s) (end_of at.through (method None false (out-Method m.0).signature)) e m.2 in
      let h = method_in at.term m.0 g m.1 in
      subst (EndIn G Q M s) o.1 (record { target = h.0; selected = subst (λ x. M x (out-Method m.0).signature) (sel_is (out-Method m.0).sel s o.0) h.1; owner = λ n q. absurd (no_owner n q) })

  top_in : (s : Sel) (at : Spot) (e : Ending) → G at.term → Has (ends T s 0 at) e → EndIn G Q M s e
  unfolding ends
  top_in s at e g k =
      let fs = gather (field_ending s at.through) (fields_of (under T at.term)) in
      let ds = gather (declared_ending (name_of (out-Term at.term)) s at.through) (declared_methods T (out-Term at.term)) in
      let ms = gather (method_ending s at.through) (methods_of (under T at.term)) in
      either (has_split (fs ++ ds) ms e k) (λ h. either (has_split fs ds e h) (λ i. of_field s at e g i) (λ i. of_declared s at e g i)) (λ h. of_method s at e g h)

  pub end_in : (s : Sel) (k : ℕ) (at : Spot) (e : Ending) → G at.term → Has (ends T s k at) e → EndIn G Q M s e
  unfolding ends
  end_in s zero at e g i = top_in s at e g i
  end_in s (suc k) at e g i = let h = gather_of (ends T s k) (steps T at) e i in end_in s k h.0 e (step_in at h.0 g h.1) h.2

  -- what is found from a type of the set is of it
  pub found_in : (s : Sel) (d : ℕ) (at : Spot) (e : Ending) → G at.term → IsOnly T s at d e → EndIn G Q M s e
  found_in s d at e g o = end_in s d at e g (first_of (ends T s d at) e o.only)

  by_target : (s : Sel) (x : Target) → (Q s → ⊥) → ((g : Signature) → M s g → ⊥) → SelectedIn Q M s x → ⊥
  by_target s (field t) q m h = q h
  by_target s (method o p g) q m h = m g h

  -- another selector finds nothing
  pub none_in : (s : Sel) (k : ℕ) (at : Spot) → G at.term → (Q s → ⊥) → ((g : Signature) → M s g → ⊥) → ends T s k at ≡ []
  none_in s k at g q m = nothing (ends T s k at) (λ e h. by_target s e.target q m (end_in s k at e g h).selected)

  -- types to which a path through fields and elements leads are in the set
  pub leads_in : {t u : Term} → LeadsTo T t u → G t → G u
  leads_in leads_here g = g
  leads_in {t = t} (leads_array {e = e} q l) g =
      let v = under_of t g in
      leads_in l (C.inside v.0 e v.1 (subst (λ x. Has (parts x) e) (sym q ∙ v.2) (inl refl)))
  leads_in {t = t} (leads_struct {fs = fs} f q k l) g = leads_in l (field_in t f g (subst (λ x. Has (fields_of x) f) (sym q) k)).0

  inside_of : (t u : Term) (l : Layer) → G t → out-Term t ≡ l → Has (parts l) u → G u
  inside_of t u l g e k = C.inside t u g (subst (λ x. Has (parts x) u) (sym e) k)

  pointer_start : (t base : Term) (l : Layer) → G t → G base → G (start_pointer t base l).term
  pointer_start t base (Term-F.Pointer u) h k = h
  pointer_start t base (Term-F.Interface ms) h k = h
  pointer_start t base l h k = k

  named_start : (t v : Term) (l : Layer) → G t → G v → l ≡ out-Term v → G (start_named t l).term
  named_start t v (Term-F.Pointer base) h g e = inside_of v base (Term-F.Pointer base) g (sym e) (inl refl)
  named_start t v l h g e = h

  layer_start : (t : Term) (l : Layer) → G t → out-Term t ≡ l → G (start_layer T t l).term
  layer_start t (Term-F.Pointer base) h e = pointer_start t base (under T base) h (inside_of t base (Term-F.Pointer base) h e (inl refl))
  layer_start t (Term-F.Named n) h e = let v = under_of t h in named_start t v.0 (under T t) h v.1 v.2
  layer_start t l h e = h

  -- a search begins at a type of the set
  pub start_in : (t : Term) → G t → G (start T t).term
  start_in t h = layer_start t (out-Term t) h refl
