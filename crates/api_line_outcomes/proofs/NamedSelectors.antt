-- Each selector of a method set stands in the types of the packages.
use Rattle.std.proofs.Common.{◌≡◌, ◌≢◌, ◌⊎◌, ℕ, zero, suc, Bool, true, false, List, [], ◌∷◌, ◌++◌, map, Option, Some, None, refl, sym, ap, ◌∙◌, subst, inl, inr}
use mathlib.Core.Bool.{true≢false}
use Rattle.std.specs.Prelude.{◌&&◌, ◌||◌, if◌then◌else◌}
use Rattle.std.specs.Str.{bytes_eq}
use Rattle.std.proofs.lemmas.Slice.Eq.{bytes_eq-Decides}
use Rattle.go_base.specs.Gathered.{gather}
use Rattle.go_base.specs.Lists.{Each, Has}
use Rattle.go_base.specs.Keys.{first_with}
use Rattle.go_base.proofs.Members.{gather_of, has_split}
use Rattle.go_existence.proofs.FiniteSets.{has_left, has_right}
use Rattle.go_model.proofs.WorldTypes.{each_behind, each_front}
use Rattle.go_model.specs.declared.types.found.FieldFound.{FieldFound}
use Rattle.go_model.specs.declared.types.found.Found.TheVariants.{FieldAt}
use Rattle.go_model.specs.declared.types.names.Sel.{Sel}
use Rattle.go_model.specs.declared.types.names.TypeName.{TypeName}
use Rattle.go_model.specs.declared.types.package.Defined.{Defined}
use Rattle.go_model.specs.declared.types.package.MethodOf.{MethodOf}
use Rattle.go_model.specs.declared.types.term.Field.{Field, fold-Field, fold_out-Field, out-Field}
use Rattle.go_model.specs.declared.types.term.Method.{Method, fold-Method, fold_out-Method, out-Method}
use Rattle.go_model.specs.declared.types.term.Signature.{Signature}
use Rattle.go_model.specs.declared.types.term.Term.{Term, Term-F, fold_out-Term, map-Term, out-Term, roll-Term}
use Rattle.go_model.specs.types.MethodSets.{InSet}
use Rattle.go_model.specs.types.Selectors.{Ending, Finds, Spot, base_layer, base_of, declared_ending, ends, endings, field, field_ending, method_ending, name_of, start, start_layer, method, start_named, start_pointer, step, steps}
use Rattle.go_model.specs.types.Tables.{Table}
use Rattle.go_model.specs.types.Terms.{Layer, error_type, is_error, same_sel}
use Rattle.go_model.specs.declared.types.package.Package.{Package}
use Rattle.go_model.specs.worlds.PackageTypes.{declared_selectors, defined_selectors, object_selectors, package_selectors}
use Rattle.go_model.specs.worlds.Worlds.{defined_in, name_of as type_name, path_of, table_of}
use Rattle.go_model.specs.types.TypeSelectors.{Sels, field_sels, method_sels, parameter_sels, sel_step, selectors, sels_of, signature_selectors}
use Rattle.go_model.specs.types.Underlying.{declared_methods, entry, fields_of, methods_of, methods_of_entry, under, under_entry, under_layer}

abbrev sels_of_field : Field → Sels
sels_of_field = fold-Field Sels Sels Sels Sels sel_step field_sels method_sels parameter_sels

abbrev sels_of_method : Method → Sels
sels_of_method = fold-Method Sels Sels Sels Sels sel_step field_sels method_sels parameter_sels

abbrev sels_in : Layer → Sels
sels_in l = sel_step (map-Term Term Field Method Signature Sels Sels Sels Sels selectors sels_of_field sels_of_method signature_selectors l)

same_is : (a b : Sel) → same_sel a b ≡ true → a ≡ b
same_is a b e =
    let both = split (bytes_eq a.name b.name) (bytes_eq a.«package» b.«package») e in
    let f : a.name ≡ b.name = (bytes_eq-Decides a.name b.name).0 both.0 in
    let g : a.«package» ≡ b.«package» = (bytes_eq-Decides a.«package» b.«package»).0 both.1 in
    λ i. record { name = f i; «package» = g i }
  where
    split : (c d : Bool) → (c && d) ≡ true → (c ≡ true) × (d ≡ true)
    split true d e = (refl, e)
    split false d e = absurd (true≢false (sym e))

one_if : {A : Type 0} (x e : A) (b : Bool) → Has (if b then x ∷ [] else []) e → b ≡ true
one_if x e true h = refl
one_if x e false h = absurd h

has_gathered : {A B : Type 0} (f : A → List B) (xs : List A) (x : A) (y : B) → Has xs x → Has (f x) y → Has (gather f xs) y
has_gathered f [] x y h k = absurd h
has_gathered f (z ∷ xs) x y (inl e) k = has_left (f z) (gather f xs) y (subst (λ w. Has (f w) y) (sym e) k)
has_gathered f (z ∷ xs) x y (inr h) k = has_right (f z) (gather f xs) y (has_gathered f xs x y h k)

some_once : {A : Type 0} (x y : A) → ◌≡◌ {A = Option A} (Some x) (Some y) → x ≡ y
some_once x y e = cc

none_some : {A B : Type 0} (c : Option A) (x : A) → c ≡ None → c ≡ Some x → B
none_some {A = A} c x e f = let g : ◌≡◌ {A = Option A} None (Some x) = sym e ∙ f in absurd (cc)

module _ (S : Sel → Type 0) where
  -- the selectors on a level of a type
  abbrev pub IsKept : Term → Type 0
  IsKept t = Each S (selectors t)

  abbrev FieldKept : Field → Type 0
  FieldKept f = S (out-Field f).sel × IsKept (out-Field f).term

  abbrev MethodKept : Method → Type 0
  MethodKept m = S (out-Method m).sel

  abbrev pub LayerKept : Layer → Type 0
  LayerKept (Term-F.Pointer e) = IsKept e
  LayerKept (Term-F.Struct fs) = (f : Field) → Has fs f → FieldKept f
  LayerKept (Term-F.Interface ms) = (m : Method) → Has ms m → MethodKept m
  LayerKept l = Unit {0}

  open_field : (f : Field) → Each S (sels_of_field f) → FieldKept f
  open_field f h = let k = subst (Each S) (fold_out-Field Sels Sels Sels Sels sel_step field_sels method_sels parameter_sels f) h in (k.0, k.1)

  open_fields : (fs : List Field) → Each S (sels_of (map sels_of_field fs)) → (f : Field) → Has fs f → FieldKept f
  open_fields [] h f i = absurd i
  open_fields (g ∷ fs) h f (inl e) = subst FieldKept e (open_field g (each_front S (sels_of_field g) (sels_of (map sels_of_field fs)) h))
  open_fields (g ∷ fs) h f (inr i) = open_fields fs (each_behind S (sels_of_field g) (sels_of (map sels_of_field fs)) h) f i

  open_method : (m : Method) → Each S (sels_of_method m) → MethodKept m
  open_method m h = (subst (Each S) (fold_out-Method Sels Sels Sels Sels sel_step field_sels method_sels parameter_sels m) h).0

  open_methods : (ms : List Method) → Each S (sels_of (map sels_of_method ms)) → (m : Method) → Has ms m → MethodKept m
  open_methods [] h m i = absurd i
  open_methods (n ∷ ms) h m (inl e) = subst MethodKept e (open_method n (each_front S (sels_of_method n) (sels_of (map sels_of_method ms)) h))
  open_methods (n ∷ ms) h m (inr i) = open_methods ms (each_behind S (sels_of_method n) (sels_of (map sels_of_method ms)) h) m i

  open_layer : (l : Layer) → Each S (sels_in l) → LayerKept l
  open_layer (Term-F.Plain b) h = tt
  open_layer (Term-F.Named n) h = tt
  open_layer (Term-F.Pointer e) h = h
  open_layer (Term-F.Slice e) h = tt
  open_layer (Term-F.Array n e) h = tt
  open_layer (Term-F.Map k e) h = tt
  open_layer (Term-F.Chan d e) h = tt
  open_layer (Term-F.Func g) h = tt
  open_layer (Term-F.Struct fs) h = open_fields fs h
  open_layer (Term-F.Interface ms) h = open_methods ms h

  pub open_term : (t : Term) → IsKept t → LayerKept (out-Term t)
  open_term t h = open_layer (out-Term t) (subst (Each S) (fold_out-Term Sels Sels Sels Sels sel_step field_sels method_sels parameter_sels t) h)

  fields_kept : (l : Layer) → LayerKept l → (f : Field) → Has (fields_of l) f → FieldKept f
  fields_kept (Term-F.Struct fs) h f i = h f i
  fields_kept (Term-F.Plain b) h f i = absurd i
  fields_kept (Term-F.Named n) h f i = absurd i
  fields_kept (Term-F.Pointer e) h f i = absurd i
  fields_kept (Term-F.Slice e) h f i = absurd i
  fields_kept (Term-F.Array n e) h f i = absurd i
  fields_kept (Term-F.Map k e) h f i = absurd i
  fields_kept (Term-F.Chan d e) h f i = absurd i
  fields_kept (Term-F.Func g) h f i = absurd i
  fields_kept (Term-F.Interface ms) h f i = absurd i

  methods_kept : (l : Layer) → LayerKept l → (m : Method) → Has (methods_of l) m → MethodKept m
  methods_kept (Term-F.Interface ms) h m i = h m i
  methods_kept (Term-F.Plain b) h m i = absurd i
  methods_kept (Term-F.Named n) h m i = absurd i
  methods_kept (Term-F.Pointer e) h m i = absurd i
  methods_kept (Term-F.Slice e) h m i = absurd i
  methods_kept (Term-F.Array n e) h m i = absurd i
  methods_kept (Term-F.Map k e) h m i = absurd i
  methods_kept (Term-F.Chan d e) h m i = absurd i
  methods_kept (Term-F.Func g) h m i = absurd i
  methods_kept (Term-F.Struct fs) h m i = absurd i

  base_kept_by : (t : Term) (l : Layer) → IsKept t → LayerKept l → IsKept (base_layer t l)
  base_kept_by t (Term-F.Pointer e) h k = k
  base_kept_by t (Term-F.Plain b) h k = h
  base_kept_by t (Term-F.Named n) h k = h
  base_kept_by t (Term-F.Slice e) h k = h
  base_kept_by t (Term-F.Array n e) h k = h
  base_kept_by t (Term-F.Map m e) h k = h
  base_kept_by t (Term-F.Chan d e) h k = h
  base_kept_by t (Term-F.Func g) h k = h
  base_kept_by t (Term-F.Struct fs) h k = h
  base_kept_by t (Term-F.Interface ms) h k = h

  base_kept : (t : Term) → IsKept t → IsKept (base_of t)
  base_kept t h = base_kept_by t (out-Term t) h (open_term t h)

  -- ---- over a table

  module _ (T : Table) (known : (n : TypeName) (d : Defined) → entry T n ≡ Some d → IsKept d.underlying × ((m : MethodOf) → Has d.methods m → S m.sel)) where
    entry_kept : (n : TypeName) (o : Option Defined) → entry T n ≡ o → LayerKept (under_entry n o)
    entry_kept n None e = tt
    entry_kept n (Some d) e = open_term d.underlying (known n d e).0

    layer_kept : (l : Layer) → LayerKept l → LayerKept (under_layer T l)
    layer_kept (Term-F.Named n) h = entry_kept n (entry T n) refl
    layer_kept (Term-F.Plain b) h = h
    layer_kept (Term-F.Pointer e) h = h
    layer_kept (Term-F.Slice e) h = h
    layer_kept (Term-F.Array n e) h = h
    layer_kept (Term-F.Map k e) h = h
    layer_kept (Term-F.Chan d e) h = h
    layer_kept (Term-F.Func g) h = h
    layer_kept (Term-F.Struct fs) h = h
    layer_kept (Term-F.Interface ms) h = h

    pub under_kept : (t : Term) → IsKept t → LayerKept (under T t)
    under_kept t h = layer_kept (out-Term t) (open_term t h)

    declared_by : (n : TypeName) (o : Option Defined) → entry T n ≡ o → (m : MethodOf) → Has (methods_of_entry o) m → S m.sel
    declared_by n None e m i = absurd i
    declared_by n (Some d) e m i = (known n d e).1 m i

    declared_kept : (l : Layer) (m : MethodOf) → Has (declared_methods T l) m → S m.sel
    declared_kept (Term-F.Named n) m i = declared_by n (entry T n) refl m i
    declared_kept (Term-F.Plain b) m i = absurd i
    declared_kept (Term-F.Pointer e) m i = absurd i
    declared_kept (Term-F.Slice e) m i = absurd i
    declared_kept (Term-F.Array n e) m i = absurd i
    declared_kept (Term-F.Map k e) m i = absurd i
    declared_kept (Term-F.Chan d e) m i = absurd i
    declared_kept (Term-F.Func g) m i = absurd i
    declared_kept (Term-F.Struct fs) m i = absurd i
    declared_kept (Term-F.Interface ms) m i = absurd i

    -- ---- paths

    ended : (s : Sel) (at : Spot) (e : Ending) → IsKept at.term → Has (endings T s at) e → S s
    ended s at e k h =
        let fs = gather (field_ending s at.through) (fields_of (under T at.term)) in
        let ds = gather (declared_ending (name_of (out-Term at.term)) s at.through) (declared_methods T (out-Term at.term)) in
        let ms = gather (method_ending s at.through) (methods_of (under T at.term)) in
        elim (has_split (fs ++ ds) ms e h) [
          | inl j ↦ elim (has_split fs ds e j) [
            | inl i ↦ (let f = gather_of (field_ending s at.through) (fields_of (under T at.term)) e i in
                subst S (same_is (out-Field f.0).sel s (one_if _ e (same_sel (out-Field f.0).sel s) f.2)) (fields_kept (under T at.term) (under_kept at.term k) f.0 f.1).0)
            | inr i ↦ (let m = gather_of (declared_ending (name_of (out-Term at.term)) s at.through) (declared_methods T (out-Term at.term)) e i in
                subst S (same_is m.0.sel s (one_if _ e (same_sel m.0.sel s) m.2)) (declared_kept (out-Term at.term) m.0 m.1))
          ]
          | inr i ↦ (let m = gather_of (method_ending s at.through) (methods_of (under T at.term)) e i in
              subst S (same_is (out-Method m.0).sel s (one_if _ e (same_sel (out-Method m.0).sel s) m.2)) (methods_kept (under T at.term) (under_kept at.term k) m.0 m.1))
        ]

    spot_of : (through : Bool) (t : Term) (next : Spot) (b : Bool) → Has (if b then record { through = through; term = t } ∷ [] else []) next → IsKept t → IsKept next.term
    spot_of through t next true (inl e) k = subst (λ (at : Spot). IsKept at.term) e k
    spot_of through t next true (inr h) k = absurd h
    spot_of through t next false h k = absurd h

    stepped : (at next : Spot) → IsKept at.term → Has (steps T at) next → IsKept next.term
    stepped at next k h =
        let f = gather_of (step at.through) (fields_of (under T at.term)) next h in
        let kept = (fields_kept (under T at.term) (under_kept at.term k) f.0 f.1).1 in
        spot_of _ _ next (out-Field f.0).embedded f.2 (base_kept (out-Field f.0).term kept)

    pub path_kept : (s : Sel) (depth : ℕ) (at : Spot) (e : Ending) → IsKept at.term → Has (ends T s depth at) e → S s
    unfolding ends
    path_kept s zero at e k h = ended s at e k h
    path_kept s (suc depth) at e k h = let n = gather_of (ends T s depth) (steps T at) e h in path_kept s depth n.0 e (stepped at n.0 k n.1) n.2

    pointer_start : (t base : Term) (l : Layer) → IsKept t → IsKept base → IsKept (start_pointer t base l).term
    pointer_start t base (Term-F.Pointer u) h k = h
    pointer_start t base (Term-F.Interface ms) h k = h
    pointer_start t base (Term-F.Plain b) h k = k
    pointer_start t base (Term-F.Named n) h k = k
    pointer_start t base (Term-F.Slice e) h k = k
    pointer_start t base (Term-F.Array n e) h k = k
    pointer_start t base (Term-F.Map m e) h k = k
    pointer_start t base (Term-F.Chan d e) h k = k
    pointer_start t base (Term-F.Func g) h k = k
    pointer_start t base (Term-F.Struct fs) h k = k

    named_start : (t : Term) (l : Layer) → IsKept t → LayerKept l → IsKept (start_named t l).term
    named_start t (Term-F.Pointer base) h k = k
    named_start t (Term-F.Interface ms) h k = h
    named_start t (Term-F.Plain b) h k = h
    named_start t (Term-F.Named n) h k = h
    named_start t (Term-F.Slice e) h k = h
    named_start t (Term-F.Array n e) h k = h
    named_start t (Term-F.Map m e) h k = h
    named_start t (Term-F.Chan d e) h k = h
    named_start t (Term-F.Func g) h k = h
    named_start t (Term-F.Struct fs) h k = h

    layer_start : (t : Term) (l : Layer) → IsKept t → LayerKept l → LayerKept (under T t) → IsKept (start_layer T t l).term
    layer_start t (Term-F.Pointer base) h k u = pointer_start t base (under T base) h k
    layer_start t (Term-F.Named n) h k u = named_start t (under T t) h u
    layer_start t (Term-F.Interface ms) h k u = h
    layer_start t (Term-F.Plain b) h k u = h
    layer_start t (Term-F.Slice e) h k u = h
    layer_start t (Term-F.Array n e) h k u = h
    layer_start t (Term-F.Map m e) h k u = h
    layer_start t (Term-F.Chan d e) h k u = h
    layer_start t (Term-F.Func g) h k u = h
    layer_start t (Term-F.Struct fs) h k u = h

    pub in_set_kept : (t : Term) (s : Sel) (g : Signature) → IsKept t → InSet T t s g → S s
    in_set_kept t s g k i =
        let kept = layer_start t (out-Term t) k (open_term t k) (under_kept t k) in
        path_kept s i.depth (start T t) (record { through = i.through; target = method i.owner i.pointer g }) kept
        (subst (λ (es : List Ending). Has es (record { through = i.through; target = method i.owner i.pointer g })) (sym i.only.only) (inl refl))

    pub find_kept : (t : Term) (s : Sel) (f : FieldFound) → IsKept t → Finds T s t (FieldAt f) → S s
    find_kept t s f k h =
        let e : Ending = record { through = f.through_pointer; target = field f.term } in
        path_kept s h.0 (start T t) e (layer_start t (out-Term t) k (open_term t k) (under_kept t k)) (subst (λ (es : List Ending). Has es e) (sym h.1.only) (inl refl))

-- ---- over packages

-- the selectors in the types of packages, and that of the one method of `error`
abbrev pub all_selectors : List Package → Sels
all_selectors ps = selectors error_type.underlying ++ gather package_selectors ps

found_in : {A : Type 0} (key : A → List ℕ) (xs : List A) (k : List ℕ) (x : A) → first_with key xs k ≡ Some x → Has xs x
found_in key [] k x e = none_some (first_with key [] k) x refl e
found_in key (y ∷ xs) k x e = by (bytes_eq (key y) k) e (found_in key xs k x)
  where
    by : (b : Bool) → (if b then Some y else first_with key xs k) ≡ Some x → (first_with key xs k ≡ Some x → Has xs x) → Has (y ∷ xs) x
    by true g f = inl (cc)
    by false g f = inr (f g)

each_itself : (xs ys : Sels) → ((s : Sel) → Has xs s → Has ys s) → Each (Has ys) xs
each_itself [] ys f = tt
each_itself (x ∷ xs) ys f = (f x (inl refl), each_itself xs ys (λ s h. f s (inr h)))

module _ (ps : List Package) where
  abbrev pub IsNamed : Sel → Type 0
  IsNamed s = Has (all_selectors ps) s

  in_package : (p : Package) (s : Sel) → Has ps p → Has (package_selectors p) s → IsNamed s
  in_package p s h k = has_right (selectors error_type.underlying) (gather package_selectors ps) s (has_gathered package_selectors ps p s h k)

  in_defined : (p : Package) (d : Defined) (s : Sel) → Has ps p → Has p.defined d → Has (defined_selectors d) s → IsNamed s
  in_defined p d s h k l = in_package p s h (has_right (gather object_selectors p.objects) (gather defined_selectors p.defined) s (has_gathered defined_selectors p.defined d s k l))

  of_package : (o : Option Package) (name : List ℕ) (d : Defined) → ((p : Package) → o ≡ Some p → Has ps p) → defined_in o name ≡ Some d → (p : Package) × Has ps p × Has p.defined d
  of_package None name d f e = none_some (defined_in None name) d refl e
  of_package (Some p) name d f e = (p, f p refl, found_in type_name p.defined name d e)

  AreKnown : Defined → Type 0
  AreKnown d = Each IsNamed (selectors d.underlying) × ((m : MethodOf) → Has d.methods m → IsNamed m.sel)

  of_error : AreKnown error_type
  unfolding AreKnown
  of_error = (each_itself (selectors error_type.underlying) (all_selectors ps) (λ s h. has_left (selectors error_type.underlying) (gather package_selectors ps) s h), λ m h. absurd h)

  of_table : (n : TypeName) (d : Defined) → table_of ps n ≡ Some d → AreKnown d
  unfolding AreKnown
  of_table n d e =
      let k = of_package (first_with path_of ps n.path) n.name d (λ p i. found_in path_of ps n.path p i) e in (
        each_itself (selectors d.underlying) (all_selectors ps) (λ s h. in_defined k.0 d s k.1 k.2 (has_left (selectors d.underlying) (gather declared_selectors d.methods) s h)),
        λ m h. in_defined k.0 d m.sel k.1 k.2 (has_right (selectors d.underlying) (gather declared_selectors d.methods) m.sel (has_gathered declared_selectors d.methods m m.sel h (inl refl))),
      )

  of_entry : (n : TypeName) (d : Defined) (b : Bool) → (if b then Some error_type else table_of ps n) ≡ Some d → AreKnown d
  of_entry n d true e = subst AreKnown (some_once error_type d e) of_error
  of_entry n d false e = of_table n d e

  pub known : (n : TypeName) (d : Defined) → entry (table_of ps) n ≡ Some d → Each IsNamed (selectors d.underlying) × ((m : MethodOf) → Has d.methods m → IsNamed m.sel)
  unfolding AreKnown
  known n d e = of_entry n d (is_error n) e

  -- what a selector has in the method set of a type that is defined, or of a pointer to it
  pub named_sel : (t : Term) (s : Sel) (g : Signature) → Each IsNamed (selectors t) → InSet (table_of ps) t s g → IsNamed s
  named_sel t s g h i = in_set_kept IsNamed (table_of ps) known t s g h i
