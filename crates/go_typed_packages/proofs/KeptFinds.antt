-- What is underneath a type that is kept, and what a selector finds in it, is kept.
use Rattle.std.proofs.Common.{◌≡◌, ℕ, zero, suc, Bool, true, false, [], ◌∷◌, ◌++◌, Option, Some, None, refl, sym, subst, inl, inr}
use Rattle.std.specs.Prelude.{if◌then◌else◌}
use Rattle.go_base.proofs.Members.{each_has, gather_of, has_split}
use Rattle.go_base.specs.Gathered.{gather}
use Rattle.go_base.specs.Lists.{Each, Has}
use Rattle.go_model.specs.declared.types.names.Sel.{Sel}
use Rattle.go_model.specs.declared.types.names.TypeName.{TypeName}
use Rattle.go_model.specs.declared.types.package.Defined.{Defined}
use Rattle.go_model.specs.declared.types.term.Field.{out-Field}
use Rattle.go_model.specs.declared.types.term.Method.{out-Method}
use Rattle.go_model.specs.declared.types.term.Signature.{Signature}
use Rattle.go_model.specs.declared.types.term.Term.{Term, Term-F, out-Term}
use Rattle.go_model.specs.types.Selectors.{Spot, Target, field, method, Ending, base_layer, base_of, declared_ending, endings, ends, field_ending, method_ending, name_of, start, start_layer, start_named, start_pointer, step, steps}
use Rattle.go_model.specs.types.Terms.{Layer, same_sel}
use Rattle.go_model.specs.types.Underlying.{declared_methods, entry, fields_of, methods_of, methods_of_entry, under, under_entry, under_layer}
use Rattle.go_rules.specs.Environments.{Env, Found, HasMethod}
use Rattle.go_typed_packages.proofs.KeptTerms.{open_term}
use Rattle.go_typed_packages.specs.inner.KeptTypes.{DeclaredKept, EnvKept, FieldKept, LayerKept, MethodKept, SignatureKept, TermKept}

only_if : {A : Type 0} (b : Bool) (x y : A) → Has (if b then x ∷ [] else []) y → x ≡ y
only_if true x y (inl e) = e
only_if true x y (inr k) = absurd k
only_if false x y k = absurd k

module _ (N : TypeName → Type 0) (S : Sel → Type 0) where
  abbrev TargetKept : Target → Type 0
  TargetKept (field t) = TermKept N S t
  TargetKept (method owner pointer g) = SignatureKept N S g

  abbrev EndingKept : Ending → Type 0
  EndingKept e = TargetKept e.target

  base_layer_kept : (t : Term) (l : Layer) → TermKept N S t → LayerKept N S l → TermKept N S (base_layer t l)
  base_layer_kept t (Term-F.Pointer base) h k = k
  base_layer_kept t l h k = h

  base_kept : (t : Term) → TermKept N S t → TermKept N S (base_of t)
  base_kept t h = base_layer_kept t (out-Term t) h (open_term N S t h)

  fields_kept : (l : Layer) → LayerKept N S l → Each (FieldKept N S) (fields_of l)
  fields_kept (Term-F.Struct fs) h = h.1
  fields_kept l h = tt

  methods_kept : (l : Layer) → LayerKept N S l → Each (MethodKept N S) (methods_of l)
  methods_kept (Term-F.Interface ms) h = h.1
  methods_kept l h = tt

  start_pointer_kept : (t base : Term) (l : Layer) → TermKept N S t → TermKept N S base → TermKept N S (start_pointer t base l).term
  start_pointer_kept t base (Term-F.Pointer u) h k = h
  start_pointer_kept t base (Term-F.Interface ms) h k = h
  start_pointer_kept t base l h k = k

  start_named_kept : (t : Term) (l : Layer) → TermKept N S t → LayerKept N S l → TermKept N S (start_named t l).term
  start_named_kept t (Term-F.Pointer base) h k = k
  start_named_kept t l h k = h

  module _ (E : Env) (w : EnvKept N S E) where
    -- ---- what is underneath

    entry_kept : (n : TypeName) (c : Option Defined) → N n → entry E.table n ≡ c → LayerKept N S (under_entry n c)
    entry_kept n None h e = h
    entry_kept n (Some d) h e = open_term N S d.underlying (w.entry n d e).beneath

    under_layer_kept : (l : Layer) → LayerKept N S l → LayerKept N S (under_layer E.table l)
    under_layer_kept (Term-F.Named n) h = entry_kept n (entry E.table n) h refl
    under_layer_kept l h = h

    pub under_kept : (t : Term) → TermKept N S t → LayerKept N S (under E.table t)
    under_kept t h = under_layer_kept (out-Term t) (open_term N S t h)

    pub level_kept : (t : Term) (l : Layer) → TermKept N S t → under E.table t ≡ l → LayerKept N S l
    level_kept t l h e = subst (LayerKept N S) e (under_kept t h)

    -- ---- what paths end in

    entry_methods : (n : TypeName) (c : Option Defined) → entry E.table n ≡ c → Each (DeclaredKept N S) (methods_of_entry c)
    entry_methods n None e = tt
    entry_methods n (Some d) e = (w.entry n d e).methods

    declared_kept : (l : Layer) → Each (DeclaredKept N S) (declared_methods E.table l)
    declared_kept (Term-F.Named n) = entry_methods n (entry E.table n) refl
    declared_kept l = tt

    steps_kept : (at x : Spot) → TermKept N S at.term → Has (steps E.table at) x → TermKept N S x.term
    steps_kept at x h k =
        let g = gather_of (step at.through) (fields_of (under E.table at.term)) x k in
        let f = each_has (FieldKept N S) (fields_of (under E.table at.term)) g.0 (fields_kept (under E.table at.term) (under_kept at.term h)) g.1 in
        subst (λ (y : Spot). TermKept N S y.term) (only_if (out-Field g.0).embedded _ x g.2) (base_kept (out-Field g.0).term f.term)

    field_ending_kept : (s : Sel) (at : Spot) (e : Ending) → TermKept N S at.term → Has (gather (field_ending s at.through) (fields_of (under E.table at.term))) e → EndingKept e
    field_ending_kept s at e h k =
        let g = gather_of (field_ending s at.through) (fields_of (under E.table at.term)) e k in
        subst EndingKept (only_if (same_sel (out-Field g.0).sel s) _ e g.2) (each_has (FieldKept N S) (fields_of (under E.table at.term)) g.0 (fields_kept (under E.table at.term) (under_kept at.term h)) g.1).term

    declared_ending_kept : (s : Sel) (at : Spot) (e : Ending) → Has (gather (declared_ending (name_of (out-Term at.term)) s at.through) (declared_methods E.table (out-Term at.term))) e → EndingKept e
    declared_ending_kept s at e k =
        let g = gather_of (declared_ending (name_of (out-Term at.term)) s at.through) (declared_methods E.table (out-Term at.term)) e k in
        subst EndingKept (only_if (same_sel g.0.sel s) _ e g.2) (each_has (DeclaredKept N S) (declared_methods E.table (out-Term at.term)) g.0 (declared_kept (out-Term at.term)) g.1).signature

    method_ending_kept : (s : Sel) (at : Spot) (e : Ending) → TermKept N S at.term → Has (gather (method_ending s at.through) (methods_of (under E.table at.term))) e → EndingKept e
    method_ending_kept s at e h k =
        let g = gather_of (method_ending s at.through) (methods_of (under E.table at.term)) e k in
        subst EndingKept (only_if (same_sel (out-Method g.0).sel s) _ e g.2) (each_has (MethodKept N S) (methods_of (under E.table at.term)) g.0 (methods_kept (under E.table at.term) (under_kept at.term h)) g.1).signature

    endings_kept : (s : Sel) (at : Spot) (e : Ending) → TermKept N S at.term → Has (endings E.table s at) e → EndingKept e
    endings_kept s at e h k =
        let fs = gather (field_ending s at.through) (fields_of (under E.table at.term)) in
        let ds = gather (declared_ending (name_of (out-Term at.term)) s at.through) (declared_methods E.table (out-Term at.term)) in
        let ms = gather (method_ending s at.through) (methods_of (under E.table at.term)) in
        elim (has_split (fs ++ ds) ms e k) [
          | inl j ↦ elim (has_split fs ds e j) [ inl i ↦ field_ending_kept s at e h i | inr i ↦ declared_ending_kept s at e i ]
          | inr j ↦ method_ending_kept s at e h j
        ]

    ends_kept : (s : Sel) (k : ℕ) (at : Spot) (e : Ending) → TermKept N S at.term → Has (ends E.table s k at) e → EndingKept e
    unfolding ends
    ends_kept s zero at e h i = endings_kept s at e h i
    ends_kept s (suc k) at e h i = let g = gather_of (ends E.table s k) (steps E.table at) e i in ends_kept s k g.0 e (steps_kept at g.0 h g.1) g.2

    start_layer_kept : (t : Term) (l : Layer) → TermKept N S t → LayerKept N S l → TermKept N S (start_layer E.table t l).term
    start_layer_kept t (Term-F.Pointer base) h k = start_pointer_kept t base (under E.table base) h k
    start_layer_kept t (Term-F.Named n) h k = start_named_kept t (under E.table t) h (under_kept t h)
    start_layer_kept t l h k = h

    pub found_kept : {s : Sel} {t : Term} {e : Ending} → TermKept N S t → Found E s t e → EndingKept e
    found_kept {s = s} {t = t} {e = e} h f = ends_kept s f.depth (start E.table t) e (start_layer_kept t (out-Term t) h (open_term N S t h)) (subst (λ xs. Has xs e) (sym f.only.only) (inl refl))

    pub method_kept : {a : Bool} {t : Term} {s : Sel} {g : Signature} → TermKept N S t → HasMethod E a t s g → SignatureKept N S g
    method_kept h m = found_kept h m.found
