-- Which types that a client reaches are assignable and convertible to which, and which values may be used and stand together, on both sides.
use Rattle.std.proofs.Common.{◌≡◌, inl, ℕ, zero, suc, Bool, true, false, ◌&&◌, List, [], refl, sym, ap, ◌∙◌, subst}
use Rattle.std.specs.Prelude.{not}
use Rattle.std.specs.Str.{bytes_eq}
use Rattle.std.proofs.lemmas.Slice.Eq.{bytes_eq-Decides}
use Rattle.go_base.specs.Gathered.{gather}
use Rattle.go_base.specs.Lists.{Has as HasItem}
use Rattle.go_model.specs.declared.constants.value.Untyped.{Untyped}
use Rattle.go_model.specs.declared.constants.value.Untyped.TheVariants as untyped
use Rattle.go_model.specs.declared.constants.value.Value.{Value}
use Rattle.go_model.specs.declared.types.names.Sel.{Sel}
use Rattle.go_model.specs.declared.types.names.TypeName.{TypeName}
use Rattle.go_model.specs.declared.types.package.ConstTerm.{ConstTerm}
use Rattle.go_model.specs.declared.types.package.ConstTerm.TheVariants as constant
use Rattle.go_model.specs.declared.types.term.Method.{Method}
use Rattle.go_model.specs.declared.types.term.Term.{Term, Term-F, out-Term}
use Rattle.go_model.specs.types.Assignability.{UnderlyingAssigns}
use Rattle.go_model.specs.types.Imports.{imported_interface, is_imported, is_imported_interface, is_imported_open, is_imported_struct, is_named, is_named_layer}
use Rattle.go_model.specs.types.Selectors.{start, step}
use Rattle.go_model.specs.types.Tables.{Table}
use Rattle.go_model.specs.types.Terms.{Layer, client_path}
use Rattle.go_model.specs.types.Underlying.{declared_methods, fields_of, under, under_layer}
use Rattle.go_rules.specs.Environments.{BeginsLayer, Entered, EnteredLayer, Env, Told, ToldLayer, ToldTo, is_among}
use Rattle.go_rules.specs.Operands.{IsTyped, constant_of, loose, nil}
use Rattle.go_rules.specs.Usability.{Assignable, Convertible, Implements, Match, UsableAs, assign_channel, assign_identical, assign_interface, assign_underlying, convert_assignable, convert_basic, convert_pointer, convert_underlying, BasesEntered, match_kinds, match_left, match_right, match_types, use_constant, use_constant_as_any, use_nil, use_truth, use_truth_as_any, use_value}
use Rattle.go_rules.specs.declared.operand.Operand.{Operand}
use Rattle.go_types.proofs.Interfaces as I
use Rattle.go_type_images.specs.EntryImages.{const_to}
use Rattle.go_type_images.specs.Images.{Naming, image, image_of_layer, same_sels}
use Rattle.go_type_images.specs.Parts.{parts}
use Rattle.go_type_images.specs.SpotImages.{at_spot}
use Rattle.go_type_images.specs.declared.pair.TypePair.{TypePair}
use Rattle.go_type_images.proofs.ImageLevels.{out_image}
use Rattle.go_client_types.specs.Following.{After}
use Rattle.go_client_types.specs.Keeping.{Keeps}
use Rattle.go_client_types.specs.Reached.{ConstReached, IsGiven, IsMade, IsReached, reach_given, reach_made, reach_own}
use Rattle.go_client_types.proofs.Conversions as C
use Rattle.go_client_types.proofs.Conversions.{all_of, neither, none_of, permitted, permitted_too, true_false}
use Rattle.go_client_types.proofs.FoundTypes.{start_term}
use Rattle.go_client_types.proofs.Implementing as P
use Rattle.go_client_types.proofs.Operands.{typed_after, untyped_after}
use Rattle.go_client_types.proofs.Relations as L

imported_form : (l u : Layer) → imported_interface l u ≡ true → (n : TypeName) × (ms : List Method) × (l ≡ Term-F.Named n) × (is_imported n ≡ true) × (u ≡ Term-F.Interface ms)
imported_form (Term-F.Plain b) u e = absurd (cc)
imported_form (Term-F.Named n) (Term-F.Plain b) e = absurd (cc)
imported_form (Term-F.Named n) (Term-F.Named m) e = absurd (cc)
imported_form (Term-F.Named n) (Term-F.Pointer v) e = absurd (cc)
imported_form (Term-F.Named n) (Term-F.Slice v) e = absurd (cc)
imported_form (Term-F.Named n) (Term-F.Array m v) e = absurd (cc)
imported_form (Term-F.Named n) (Term-F.Map j v) e = absurd (cc)
imported_form (Term-F.Named n) (Term-F.Chan d v) e = absurd (cc)
imported_form (Term-F.Named n) (Term-F.Func g) e = absurd (cc)
imported_form (Term-F.Named n) (Term-F.Struct fs) e = absurd (cc)
imported_form (Term-F.Named n) (Term-F.Interface ms) e = (n, ms, refl, e, refl)
imported_form (Term-F.Pointer v) u e = absurd (cc)
imported_form (Term-F.Slice v) u e = absurd (cc)
imported_form (Term-F.Array n v) u e = absurd (cc)
imported_form (Term-F.Map j v) u e = absurd (cc)
imported_form (Term-F.Chan d v) u e = absurd (cc)
imported_form (Term-F.Func g) u e = absurd (cc)
imported_form (Term-F.Struct fs) u e = absurd (cc)
imported_form (Term-F.Interface ms) u e = absurd (cc)

unnamed_form : (T : Table) (l : Layer) (ns : List Method) → is_named_layer l ≡ false → under_layer T l ≡ Term-F.Interface ns → l ≡ Term-F.Interface ns
unnamed_form T (Term-F.Plain b) ns e f = absurd (cc)
unnamed_form T (Term-F.Named n) ns e f = absurd (cc)
unnamed_form T (Term-F.Pointer v) ns e f = absurd (cc)
unnamed_form T (Term-F.Slice v) ns e f = absurd (cc)
unnamed_form T (Term-F.Array n v) ns e f = absurd (cc)
unnamed_form T (Term-F.Map j v) ns e f = absurd (cc)
unnamed_form T (Term-F.Chan d v) ns e f = absurd (cc)
unnamed_form T (Term-F.Func g) ns e f = absurd (cc)
unnamed_form T (Term-F.Struct fs) ns e f = absurd (cc)
unnamed_form T (Term-F.Interface ms) ns e f = f

left_unnamed : (a b : Bool) → b ≡ true → (a && b) ≡ false → a ≡ false
left_unnamed true b e f = absurd (true_false e f)
left_unnamed false b e f = refl

no_pointer : (u : Term) (ms : List Method) → ◌≡◌ {A = Layer} (Term-F.Pointer u) (Term-F.Interface ms) → ⊥
no_pointer u ms e = absurd (cc)

same_name : (m n : TypeName) → ◌≡◌ {A = Layer} (Term-F.Named m) (Term-F.Named n) → m ≡ n
same_name m n e = cc

foreign : (n : TypeName) → is_imported n ≡ true → n.path ≡ client_path → ⊥
foreign n i e = by (bytes_eq n.path client_path) ((bytes_eq-Decides n.path client_path).1 e) (all_of (not (bytes_eq n.path [])) (not (bytes_eq n.path client_path)) i).1
  where
    by : (b : Bool) → b ≡ true → not b ≡ true → ⊥
    by true f g = absurd (cc)
    by false f g = absurd (cc)

module _ (E F : Env) (r : Naming) (pairs : List TypePair) (std : TypeName → Bool) (is_open : Sel → Bool) (K : Keeps E F r pairs std is_open) where
  abbrev to : Term → Term
  to = image r same_sels

  abbrev layer : Layer → Layer
  layer = image_of_layer r same_sels

  abbrev R : Term → Type 0
  R = IsReached pairs std is_open

  abbrev Given : Term → Type 0
  Given = IsGiven pairs std is_open

  entered : (t : Term) → R t → Entered E t → Entered F (to t)
  entered t h x = L.entered E F r pairs std is_open K t h x

  -- ---- the same underneath

  images_assigned : (t u : Term) → R t → R u → Entered E t → Entered E u → is_imported_open E.table t ≡ false → is_imported_open E.table u ≡ false → UnderlyingAssigns E.table E.profile t u → Assignable F (to t) (to u)
  images_assigned t u h k x y o q a = assign_underlying (entered t h x) (entered u k y) (record {
    same = C.image_beneath E F r pairs std is_open K t h o ∙ ap layer a.same ∙ sym (C.image_beneath E F r pairs std is_open K u k q);
    unnamed = (λ i. C.named_too E F r pairs std is_open K t i && C.named_too E F r pairs std is_open K u i) ∙ a.unnamed;
    permitted = permitted_too F.profile (is_imported_struct F.table (to t)) (is_imported_struct F.table (to u)) (neither _ _ (C.not_open E F r pairs std is_open K t h o)).0 (neither _ _ (C.not_open E F r pairs std is_open K u k q)).0;
  })

  given_named : (t : Term) (n : TypeName) → out-Term t ≡ Term-F.Named n → is_imported n ≡ true → R t → Given t
  given_named t n e i (reach_given g) = g
  given_named t n e i (reach_own {n = m} f h) = absurd (true_false i (subst (λ x. is_imported x ≡ false) (same_name m n (sym f ∙ e)) h))
  given_named t n e i (reach_made m h) = absurd (subst IsMade e m)

  spot_told : (t : Term) (ms : List Method) → under E.table t ≡ Term-F.Interface ms → (s : Sel) → Told E s t → (k : ℕ) (b : Bool) → ToldTo E s k (at_spot b t)
  spot_told t ms e s w zero b = w
  spot_told t ms e s w (suc k) b = (w, λ next j. absurd (subst (λ l. HasItem (gather (step b) (fields_of l)) next) e j))

  interface_told : (t : Term) (ms : List Method) → under E.table t ≡ Term-F.Interface ms → ((s : Sel) → Told E s t) → (s : Sel) (k : ℕ) → ToldTo E s k (start E.table t)
  interface_told t ms e w s k = start_term (λ x. (n : ℕ) (b : Bool) → ToldTo E s n (at_spot b x)) E.table t (out-Term t) (λ n b. spot_told t ms e s (w s) n b)
      (λ u f. absurd (no_pointer u ms (sym (ap (under_layer E.table) f) ∙ e))) (λ u f. absurd (no_pointer u ms (sym f ∙ e))) k (start E.table t).through

  -- an interface of another package that has a name implements one with the same methods
  from_named : (t u : Term) → R t → Entered E t → is_imported_interface E.table t ≡ true → under E.table t ≡ under E.table u → Implements E t u
  from_named t u h x i s =
      let f = imported_form (out-Term t) (under E.table t) i in
      let y = K.types.interfaces t f.0 f.1 (given_named t f.0 f.2 f.3 h) f.2 f.4 in
      let d = subst (EnteredLayer E) f.2 x in
      P.from_table E F r pairs std is_open K E t u (subst (BeginsLayer E t) (sym f.2) x)
      (interface_told t f.1 f.4 (λ n. subst (ToldLayer E n) (sym f.2) (d.0, d.1, ap (is_among n) (K.none_missing f.0 (foreign f.0 f.3)).0)))
      (I.same_implement E.table t u f.1 f.4 (sym s ∙ f.4) y.0 y.1)

  -- and an interface without a name implements such a one
  to_named : (t u : Term) → R u → is_named t ≡ false → is_imported_interface E.table u ≡ true → under E.table t ≡ under E.table u → Implements E t u
  to_named t u h n i s =
      let f = imported_form (out-Term u) (under E.table u) i in
      let y = K.types.interfaces u f.0 f.1 (given_named u f.0 f.2 f.3 h) f.2 f.4 in
      let l = unnamed_form E.table (out-Term t) f.1 n (s ∙ f.4) in
      P.from_table E F r pairs std is_open K E t u (subst (BeginsLayer E t) (sym l) (subst (EnteredLayer E) (sym l) tt))
      (interface_told t f.1 (s ∙ f.4) (λ x. subst (ToldLayer E x) (sym l) tt))
      (I.same_implement E.table t u f.1 (s ∙ f.4) f.4 y.0 (ap (declared_methods E.table) l))

  by_interfaces : (b c : Bool) (t u : Term) → is_imported_interface E.table t ≡ b → is_imported_interface E.table u ≡ c → R t → R u → Entered E t → Entered E u → UnderlyingAssigns E.table E.profile t u → Assignable F (to t) (to u)
  by_interfaces false false t u e f h k x y a =
      let p = permitted E.profile (is_imported_struct E.table t) (is_imported_struct E.table u) K.barred a.permitted in
      images_assigned t u h k x y (none_of _ _ p.0 e) (none_of _ _ p.1 f) a
  by_interfaces true c t u e f h k x y a = assign_interface (P.implements_kept E F r pairs std is_open K t u h k (from_named t u h x e a.same))
  by_interfaces false true t u e f h k x y a =
      let n = left_unnamed (is_named t) (is_named u) (ap is_named_layer (imported_form (out-Term u) (under E.table u) f).2) a.unnamed in
      assign_interface (P.implements_kept E F r pairs std is_open K t u h k (to_named t u k n f a.same))

  -- ---- all ways

  pub assignable_kept : (t u : Term) → R t → R u → Assignable E t u → Assignable F (to t) (to u)
  assignable_kept t u h k (assign_identical e) = assign_identical (ap to e)
  assignable_kept t u h k (assign_underlying x y a) = by_interfaces (is_imported_interface E.table t) (is_imported_interface E.table u) t u refl refl h k x y a
  assignable_kept t u h k (assign_interface m) = assign_interface (P.implements_kept E F r pairs std is_open K t u h k m)
  assignable_kept t u h k (assign_channel c) = assign_channel (C.channels_kept E F r pairs std is_open K t u h k c)

  bases_kept : (t u base other : Term) → out-Term t ≡ Term-F.Pointer base → out-Term u ≡ Term-F.Pointer other → R base → R other → BasesEntered E (out-Term t) (out-Term u) → BasesEntered F (out-Term (to t)) (out-Term (to u))
  bases_kept t u base other e f h k x =
      let y = subst (λ l. BasesEntered E l (Term-F.Pointer other)) e (subst (BasesEntered E (out-Term t)) f x) in
      subst (λ l. BasesEntered F l (out-Term (to u))) (sym (out_image r same_sels t ∙ ap layer e))
      (subst (BasesEntered F (Term-F.Pointer (to base))) (sym (out_image r same_sels u ∙ ap layer f)) (entered base h y.0, entered other k y.1))

  base_reached : (t base : Term) → out-Term t ≡ Term-F.Pointer base → R t → R base
  base_reached t base e h = C.part_reached E F r pairs std is_open K t base h (subst (λ l. HasItem (parts l) base) (sym e) (inl refl))

  pub convertible_kept : (t u : Term) → R t → R u → Convertible E t u → Convertible F (to t) (to u)
  convertible_kept t u h k (convert_assignable a) = convert_assignable (assignable_kept t u h k a)
  convertible_kept t u h k (convert_underlying x y c) = convert_underlying (entered t h x) (entered u k y) (C.underlying_kept E F r pairs std is_open K t u h k c)
  convertible_kept t u h k (convert_pointer x c) =
      convert_pointer (bases_kept t u c.base c.other c.from_is c.to_is (base_reached t c.base c.from_is h) (base_reached u c.other c.to_is k) x) (C.pointers_kept E F r pairs std is_open K t u h k c)
  convertible_kept t u h k (convert_basic e) = convert_basic (C.basics_kept E F r pairs std is_open K t u h k e)

  -- ---- use of values

  no_kind : {k : Untyped} {v : Value} {u : Term} → IsTyped (constant_of (constant.OfKind k) v) u → ⊥
  no_kind i = elim i [ ]

  no_truth : {u : Term} → IsTyped (loose untyped.BoolKind) u → ⊥
  no_truth i = elim i [ ]

  no_nil : {u : Term} → IsTyped nil u → ⊥
  no_nil i = elim i [ ]

  pub usable_kept : {o p : Operand} {t : Term} → After r pairs std is_open o p → R t → UsableAs E o t → UsableAs F p (to t)
  usable_kept {t = t} a k (use_value {u = u} i x) = let j = typed_after r pairs std is_open a i in use_value j.0 (assignable_kept u t j.1 k x)
  usable_kept a k (use_constant e d) = L.usable E F r pairs std is_open K a k (λ u i. no_kind i) (use_constant e d)
  usable_kept a k (use_constant_as_any e d) = L.usable E F r pairs std is_open K a k (λ u i. no_kind i) (use_constant_as_any e d)
  usable_kept a k (use_truth e) = L.usable E F r pairs std is_open K a k (λ u i. no_truth i) (use_truth e)
  usable_kept a k (use_truth_as_any e) = L.usable E F r pairs std is_open K a k (λ u i. no_truth i) (use_truth_as_any e)
  usable_kept a k (use_nil e) = L.usable E F r pairs std is_open K a k (λ u i. no_nil i) (use_nil e)

  pub match_kept : {o p x y : Operand} {c : ConstTerm} → After r pairs std is_open o p → After r pairs std is_open x y → Match E o x c → Match F p y (const_to r c) × ConstReached pairs std is_open c
  match_kept a b (match_types i j) = let f = typed_after r pairs std is_open a i in (match_types f.0 (typed_after r pairs std is_open b j).0, f.1)
  match_kept a b (match_right i j u) = let f = typed_after r pairs std is_open b j in (match_right (untyped_after r pairs std is_open a i) f.0 (usable_kept a f.1 u), f.1)
  match_kept a b (match_left i j u) = let f = typed_after r pairs std is_open a i in (match_left f.0 (untyped_after r pairs std is_open b j) (usable_kept b f.1 u), f.1)
  match_kept a b (match_kinds i j l) = (match_kinds (untyped_after r pairs std is_open a i) (untyped_after r pairs std is_open b j) l, tt)
