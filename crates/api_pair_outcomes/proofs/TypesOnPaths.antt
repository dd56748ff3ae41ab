-- What a selector finds is of a type that stands in those that are held.
use Rattle.std.proofs.Common.{◌≡◌, ◌⊎◌, ℕ, zero, suc, Bool, true, false, List, [], ◌∷◌, ◌++◌, map, Option, Some, None, refl, sym, ap, ◌∙◌, subst, inl, inr}
use Rattle.std.specs.Prelude.{if◌then◌else◌}
use Rattle.go_type_images.specs.Parts.{field_type, function_type, method_type, parts}
use Rattle.go_base.proofs.Members.{gather_of, has_split}
use Rattle.go_base.specs.Gathered.{gather}
use Rattle.go_base.specs.Lists.{Has}
use Rattle.go_existence.proofs.FiniteSets.{has_map}
use Rattle.go_model.specs.declared.types.found.FieldFound.{FieldFound}
use Rattle.go_model.specs.declared.types.found.Found.TheVariants.{FieldAt}
use Rattle.go_model.specs.declared.types.names.Sel.{Sel}
use Rattle.go_model.specs.declared.types.names.TypeName.{TypeName}
use Rattle.go_model.specs.declared.types.package.Defined.{Defined}
use Rattle.go_model.specs.declared.types.package.MethodOf.{MethodOf}
use Rattle.go_model.specs.declared.types.term.Field.{Field, out-Field}
use Rattle.go_model.specs.declared.types.term.Method.{Method, out-Method}
use Rattle.go_model.specs.declared.types.term.Signature.{Signature}
use Rattle.go_model.specs.declared.types.term.Term.{Term, Term-F, out-Term, out-roll-Term, roll-Term}
use Rattle.go_model.specs.types.MethodSets.{InSet}
use Rattle.go_model.specs.types.Selectors.{Ending, Finds, Spot, Target, base_layer, base_of, declared_ending, ends, endings, field, field_ending, method, method_ending, name_of, start, start_layer, start_named, start_pointer, step, steps}
use Rattle.go_model.specs.types.Tables.{Table}
use Rattle.go_model.specs.types.Terms.{Layer, pointer_to, same_sel}
use Rattle.go_model.specs.types.Underlying.{declared_methods, entry, fields_of, methods_of, methods_of_entry, under, under_entry, under_layer}

one_of : {A : Type 0} (x e : A) (b : Bool) → Has (if b then x ∷ [] else []) e → x ≡ e
one_of x e true (inl s) = s
one_of x e true (inr h) = absurd h
one_of x e false h = absurd h

module _ (T : Table) (K : Term → Type 0) (closed : (t q : Term) → K t → Has (parts (out-Term t)) q → K q)
    (known : (n : TypeName) (d : Defined) → entry T n ≡ Some d → K d.underlying × ((m : MethodOf) → Has d.methods m → K (function_type m.signature))) where
  -- the parts of what is underneath are held
  abbrev pub LayerHeld : Layer → Type 0
  LayerHeld l = (q : Term) → Has (parts l) q → K q

  abbrev pub IsHeld : Term → Type 0
  IsHeld t = LayerHeld (under T t)

  entry_held : (n : TypeName) (o : Option Defined) → entry T n ≡ o → LayerHeld (under_entry n o)
  entry_held n None e q h = absurd h
  entry_held n (Some d) e q h = closed d.underlying q (known n d e).0 h

  layer_held : (l : Layer) → LayerHeld l → LayerHeld (under_layer T l)
  layer_held (Term-F.Named n) h = entry_held n (entry T n) refl
  layer_held (Term-F.Plain b) h = h
  layer_held (Term-F.Pointer e) h = h
  layer_held (Term-F.Slice e) h = h
  layer_held (Term-F.Array n e) h = h
  layer_held (Term-F.Map k e) h = h
  layer_held (Term-F.Chan d e) h = h
  layer_held (Term-F.Func g) h = h
  layer_held (Term-F.Struct fs) h = h
  layer_held (Term-F.Interface ms) h = h

  pub under_held : (t : Term) → K t → IsHeld t
  under_held t k = layer_held (out-Term t) (λ q h. closed t q k h)

  pub field_held : (l : Layer) → LayerHeld l → (f : Field) → Has (fields_of l) f → K (field_type f)
  field_held (Term-F.Struct fs) h f i = h (field_type f) (has_map field_type fs f i)
  field_held (Term-F.Plain b) h f i = absurd i
  field_held (Term-F.Named n) h f i = absurd i
  field_held (Term-F.Pointer e) h f i = absurd i
  field_held (Term-F.Slice e) h f i = absurd i
  field_held (Term-F.Array n e) h f i = absurd i
  field_held (Term-F.Map k e) h f i = absurd i
  field_held (Term-F.Chan d e) h f i = absurd i
  field_held (Term-F.Func g) h f i = absurd i
  field_held (Term-F.Interface ms) h f i = absurd i

  method_held : (l : Layer) → LayerHeld l → (m : Method) → Has (methods_of l) m → K (method_type m)
  method_held (Term-F.Interface ms) h m i = h (method_type m) (has_map method_type ms m i)
  method_held (Term-F.Plain b) h m i = absurd i
  method_held (Term-F.Named n) h m i = absurd i
  method_held (Term-F.Pointer e) h m i = absurd i
  method_held (Term-F.Slice e) h m i = absurd i
  method_held (Term-F.Array n e) h m i = absurd i
  method_held (Term-F.Map k e) h m i = absurd i
  method_held (Term-F.Chan d e) h m i = absurd i
  method_held (Term-F.Func g) h m i = absurd i
  method_held (Term-F.Struct fs) h m i = absurd i

  declared_by : (n : TypeName) (o : Option Defined) → entry T n ≡ o → (m : MethodOf) → Has (methods_of_entry o) m → K (function_type m.signature)
  declared_by n None e m i = absurd i
  declared_by n (Some d) e m i = (known n d e).1 m i

  declared_held : (l : Layer) (m : MethodOf) → Has (declared_methods T l) m → K (function_type m.signature)
  declared_held (Term-F.Named n) m i = declared_by n (entry T n) refl m i
  declared_held (Term-F.Plain b) m i = absurd i
  declared_held (Term-F.Pointer e) m i = absurd i
  declared_held (Term-F.Slice e) m i = absurd i
  declared_held (Term-F.Array n e) m i = absurd i
  declared_held (Term-F.Map k e) m i = absurd i
  declared_held (Term-F.Chan d e) m i = absurd i
  declared_held (Term-F.Func g) m i = absurd i
  declared_held (Term-F.Struct fs) m i = absurd i
  declared_held (Term-F.Interface ms) m i = absurd i

  base_by : (t : Term) (l : Layer) → K t → LayerHeld l → K (base_layer t l)
  base_by t (Term-F.Pointer e) k h = h e (inl refl)
  base_by t (Term-F.Plain b) k h = k
  base_by t (Term-F.Named n) k h = k
  base_by t (Term-F.Slice e) k h = k
  base_by t (Term-F.Array n e) k h = k
  base_by t (Term-F.Map m e) k h = k
  base_by t (Term-F.Chan d e) k h = k
  base_by t (Term-F.Func g) k h = k
  base_by t (Term-F.Struct fs) k h = k
  base_by t (Term-F.Interface ms) k h = k

  base_held : (t : Term) → K t → K (base_of t)
  base_held t k = base_by t (out-Term t) k (λ q h. closed t q k h)

  -- ---- paths

  abbrev pub TargetHeld : Target → Type 0
  TargetHeld (field t) = K t
  TargetHeld (method owner pointer g) = K (function_type g)

  ended : (s : Sel) (at : Spot) (e : Ending) → IsHeld at.term → Has (endings T s at) e → TargetHeld e.target
  ended s at e k h =
      let fs = gather (field_ending s at.through) (fields_of (under T at.term)) in
      let ds = gather (declared_ending (name_of (out-Term at.term)) s at.through) (declared_methods T (out-Term at.term)) in
      let ms = gather (method_ending s at.through) (methods_of (under T at.term)) in
      elim (has_split (fs ++ ds) ms e h) [
        | inl j ↦ elim (has_split fs ds e j) [
          | inl i ↦ (let f = gather_of (field_ending s at.through) (fields_of (under T at.term)) e i in
              subst (λ (x : Ending). TargetHeld x.target) (one_of _ e (same_sel (out-Field f.0).sel s) f.2) (field_held (under T at.term) k f.0 f.1))
          | inr i ↦ (let m = gather_of (declared_ending (name_of (out-Term at.term)) s at.through) (declared_methods T (out-Term at.term)) e i in
              subst (λ (x : Ending). TargetHeld x.target) (one_of _ e (same_sel m.0.sel s) m.2) (declared_held (out-Term at.term) m.0 m.1))
        ]
        | inr i ↦ (let m = gather_of (method_ending s at.through) (methods_of (under T at.term)) e i in
            subst (λ (x : Ending). TargetHeld x.target) (one_of _ e (same_sel (out-Method m.0).sel s) m.2) (method_held (under T at.term) k m.0 m.1))
      ]

  stepped : (at next : Spot) → IsHeld at.term → Has (steps T at) next → K next.term
  stepped at next k h =
      let f = gather_of (step at.through) (fields_of (under T at.term)) next h in
      subst (λ (x : Spot). K x.term) (one_of _ next (out-Field f.0).embedded f.2) (base_held (out-Field f.0).term (field_held (under T at.term) k f.0 f.1))

  path_held : (s : Sel) (depth : ℕ) (at : Spot) (e : Ending) → IsHeld at.term → Has (ends T s depth at) e → TargetHeld e.target
  unfolding ends
  path_held s zero at e k h = ended s at e k h
  path_held s (suc depth) at e k h = let n = gather_of (ends T s depth) (steps T at) e h in path_held s depth n.0 e (under_held n.0.term (stepped at n.0 k n.1)) n.2

  -- ---- where paths begin

  pointer_start : (t base : Term) (l : Layer) → IsHeld t → IsHeld base → IsHeld (start_pointer t base l).term
  pointer_start t base (Term-F.Pointer u) h k = h
  pointer_start t base (Term-F.Interface ms) h k = h
  pointer_start t base (Term-F.Plain b) h k = k
  pointer_start t base (Term-F.Named n) h k = k
  pointer_start t base (Term-F.Slice e) h k = k
  pointer_start t base (Term-F.Array n e) h k = k
  pointer_start t base (Term-F.Map m e) h k = k
  pointer_start t base (Term-F.Chan d e) h k = k
  pointer_start t base (Term-F.Func g) h k = k
  pointer_start t base (Term-F.Struct fs) h k = k

  named_start : (t : Term) (l : Layer) → IsHeld t → LayerHeld l → IsHeld (start_named t l).term
  named_start t (Term-F.Pointer base) h k = under_held base (k base (inl refl))
  named_start t (Term-F.Interface ms) h k = h
  named_start t (Term-F.Plain b) h k = h
  named_start t (Term-F.Named n) h k = h
  named_start t (Term-F.Slice e) h k = h
  named_start t (Term-F.Array n e) h k = h
  named_start t (Term-F.Map m e) h k = h
  named_start t (Term-F.Chan d e) h k = h
  named_start t (Term-F.Func g) h k = h
  named_start t (Term-F.Struct fs) h k = h

  layer_start : (t : Term) (l : Layer) → IsHeld t → LayerHeld l → IsHeld (start_layer T t l).term
  layer_start t (Term-F.Pointer base) h k = pointer_start t base (under T base) h (under_held base (k base (inl refl)))
  layer_start t (Term-F.Named n) h k = named_start t (under T t) h h
  layer_start t (Term-F.Interface ms) h k = h
  layer_start t (Term-F.Plain b) h k = h
  layer_start t (Term-F.Slice e) h k = h
  layer_start t (Term-F.Array n e) h k = h
  layer_start t (Term-F.Map m e) h k = h
  layer_start t (Term-F.Chan d e) h k = h
  layer_start t (Term-F.Func g) h k = h
  layer_start t (Term-F.Struct fs) h k = h

  -- a type whose parts are held, and those underneath
  pub record IsBegun (t : Term) : Type 0 where
    pub out : LayerHeld (out-Term t)
    pub below : IsHeld t

  pub begun : (t : Term) → K t → IsBegun t
  begun t k = record { out = λ q h. closed t q k h; below = under_held t k }

  pointer_out : (t : Term) → K t → LayerHeld (out-Term (pointer_to t))
  pointer_out t k = subst LayerHeld (sym (out-roll-Term (Term-F.Pointer t))) (λ q h. elim h [ inl e ↦ subst K e k | inr n ↦ absurd n ])

  pub pointer_begun : (t : Term) → K t → IsBegun (pointer_to t)
  pointer_begun t k = record { out = pointer_out t k; below = layer_held (out-Term (pointer_to t)) (pointer_out t k) }

  start_held : (t : Term) → IsBegun t → IsHeld (start T t).term
  start_held t b = layer_start t (out-Term t) b.below b.out

  pub field_found : (s : Sel) (t : Term) (f : FieldFound) → IsBegun t → Finds T s t (FieldAt f) → K f.term
  field_found s t f b h =
      let e : Ending = record { through = f.through_pointer; target = field f.term } in
      path_held s h.0 (start T t) e (start_held t b) (subst (λ (es : List Ending). Has es e) (sym h.1.only) (inl refl))

  pub method_found : (s : Sel) (t : Term) (g : Signature) → IsBegun t → InSet T t s g → K (function_type g)
  method_found s t g b i =
      let e : Ending = record { through = i.through; target = method i.owner i.pointer g } in
      path_held s i.depth (start T t) e (start_held t b) (subst (λ (es : List Ending). Has es e) (sym i.only.only) (inl refl))
