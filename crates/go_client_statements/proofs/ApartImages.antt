-- Different types that a client reaches have different images.
use Rattle.std.proofs.Common.{◌≡◌, ◌⊎◌, inl, inr, ℕ, Bool, true, false, List, [], ◌∷◌, ◌++◌, map, refl, sym, ap, ◌∙◌, subst, Option, Some, None}
use Rattle.go_base.specs.Lists.{Each, Has as HasItem, Once}
use Rattle.go_model.specs.declared.types.names.Sel.{Sel}
use Rattle.go_model.specs.declared.types.names.TypeName.{TypeName}
use Rattle.go_model.specs.declared.types.term.Field.{Field, out-Field, roll-Field, roll-out-Field}
use Rattle.go_model.specs.declared.types.term.Method.{Method, out-Method, roll-Method, roll-out-Method}
use Rattle.go_model.specs.declared.types.term.Signature.{Signature, out-Signature, roll-Signature, roll-out-Signature}
use Rattle.go_model.specs.declared.types.term.Term.{Term, Term-F, out-Term, out-roll-Term}
use Rattle.go_model.specs.types.Imports.{is_imported}
use Rattle.go_model.specs.types.Terms.{Layer}
use Rattle.go_rules.specs.Environments.{Env}
use Rattle.go_rules.proofs.OneName.{none_some, one_some}
use Rattle.go_selectors.proofs.Lists.{has-left, has-right}
use Rattle.go_type_images.specs.Images.{Naming, image, image_of_field, image_of_layer, image_of_method, image_of_signature, same_sels}
use Rattle.go_type_images.specs.Parts.{field_type, function_type, method_type, parts}
use Rattle.go_type_images.specs.declared.pair.TypePair.{TypePair}
use Rattle.go_type_images.proofs.ByParts.{by_parts}
use Rattle.go_type_images.proofs.ImageLevels.{is_name, is_name_of, name_image, one_type, out_image, out_image_field, out_image_method, out_image_signature, image_roll}
use Rattle.go_type_images.proofs.ImageParts.{both_items}
use Rattle.go_client_types.specs.Keeping.{Keeps}
use Rattle.go_client_types.specs.Reached.{IsGiven, IsMade, IsReached, reach_given, reach_made, reach_own}
use Rattle.go_client_types.proofs.Conversions as C
use Rattle.go_client_types.proofs.Conversions.{true_false}

one_level_name : (m n : TypeName) → ◌≡◌ {A = Layer} (Term-F.Named m) (Term-F.Named n) → m ≡ n
one_level_name m n e = cc

one_signature : (g h : Signature) → ◌≡◌ {A = Layer} (Term-F.Func g) (Term-F.Func h) → g ≡ h
one_signature g h e = cc

one_fields : (fs gs : List Field) → ◌≡◌ {A = Layer} (Term-F.Struct fs) (Term-F.Struct gs) → fs ≡ gs
one_fields fs gs e = cc

one_methods : (ms ns : List Method) → ◌≡◌ {A = Layer} (Term-F.Interface ms) (Term-F.Interface ns) → ms ≡ ns
one_methods ms ns e = cc

abbrev signature_from : List Term → Bool → List Term → Signature
signature_from ts v us = roll-Signature (record { params = ts; variadic = v; results = us })

abbrev field_from : Sel → Bool → Term → List ℕ → Field
field_from s e t tag = roll-Field (record { sel = s; embedded = e; term = t; tag = tag })

abbrev method_from : Sel → Signature → Method
method_from s g = roll-Method (record { sel = s; signature = g })

module _ (r : Naming) where
  abbrev to : Term → Term
  to = image r same_sels

  abbrev layer : Layer → Layer
  layer = image_of_layer r same_sels

  -- of the types in two lists those with one image are the same
  abbrev Apart : List Term → List Term → Type 0
  Apart us ts = (u t : Term) → HasItem us u → HasItem ts t → to u ≡ to t → u ≡ t

  lists : (us ts : List Term) → Apart us ts → map to us ≡ map to ts → us ≡ ts
  lists [] [] h e = refl
  lists [] (t ∷ ts) h e = absurd (cc)
  lists (u ∷ us) [] h e = absurd (cc)
  lists (u ∷ us) (t ∷ ts) h e =
      let first : to u ≡ to t = cc in
      let rest : map to us ≡ map to ts = cc in
      both_items u t us ts (h u t (inl refl) (inl refl) first) (lists us ts (λ v w k l. h v w (inr k) (inr l)) rest)

  signatures : (g h : Signature) → Apart ((out-Signature g).params ++ (out-Signature g).results) ((out-Signature h).params ++ (out-Signature h).results) → image_of_signature r same_sels g ≡ image_of_signature r same_sels h → g ≡ h
  signatures g h a e =
      let f = sym (out_image_signature r same_sels g) ∙ ap out-Signature e ∙ out_image_signature r same_sels h in
      let ps : (out-Signature g).params ≡ (out-Signature h).params = lists (out-Signature g).params (out-Signature h).params
      (λ u t k l. a u t (has-left (out-Signature g).params (out-Signature g).results u k) (has-left (out-Signature h).params (out-Signature h).results t l)) (ap (λ x. x.params) f) in
      let rs : (out-Signature g).results ≡ (out-Signature h).results = lists (out-Signature g).results (out-Signature h).results
      (λ u t k l. a u t (has-right (out-Signature g).params (out-Signature g).results u k) (has-right (out-Signature h).params (out-Signature h).results t l)) (ap (λ x. x.results) f) in
      let v : (out-Signature g).variadic ≡ (out-Signature h).variadic = ap (λ x. x.variadic) f in
      sym (roll-out-Signature g) ∙ (λ i. signature_from (ps i) (v i) (rs i)) ∙ roll-out-Signature h

  one_field : (f g : Field) → (to (field_type f) ≡ to (field_type g) → field_type f ≡ field_type g) → image_of_field r same_sels f ≡ image_of_field r same_sels g → f ≡ g
  one_field f g a e =
      let k = sym (out_image_field r same_sels f) ∙ ap out-Field e ∙ out_image_field r same_sels g in
      let s : (out-Field f).sel ≡ (out-Field g).sel = ap (λ x. x.sel) k in
      let b : (out-Field f).embedded ≡ (out-Field g).embedded = ap (λ x. x.embedded) k in
      let t : (out-Field f).term ≡ (out-Field g).term = a (ap (λ x. x.term) k) in
      let w : (out-Field f).tag ≡ (out-Field g).tag = ap (λ x. x.tag) k in
      sym (roll-out-Field f) ∙ (λ i. field_from (s i) (b i) (t i) (w i)) ∙ roll-out-Field g

  fields : (fs gs : List Field) → Apart (map field_type fs) (map field_type gs) → map (image_of_field r same_sels) fs ≡ map (image_of_field r same_sels) gs → fs ≡ gs
  fields [] [] h e = refl
  fields [] (g ∷ gs) h e = absurd (cc)
  fields (f ∷ fs) [] h e = absurd (cc)
  fields (f ∷ fs) (g ∷ gs) h e =
      let first : image_of_field r same_sels f ≡ image_of_field r same_sels g = cc in
      let rest : map (image_of_field r same_sels) fs ≡ map (image_of_field r same_sels) gs = cc in
      both_items f g fs gs (one_field f g (h (field_type f) (field_type g) (inl refl) (inl refl)) first) (fields fs gs (λ v w k l. h v w (inr k) (inr l)) rest)

  method_signature : (m n : Method) → method_type m ≡ method_type n → (out-Method m).signature ≡ (out-Method n).signature
  method_signature m n e = one_signature (out-Method m).signature (out-Method n).signature (sym (out-roll-Term _) ∙ ap out-Term e ∙ out-roll-Term _)

  one_method : (m n : Method) → (to (method_type m) ≡ to (method_type n) → method_type m ≡ method_type n) → image_of_method r same_sels m ≡ image_of_method r same_sels n → m ≡ n
  one_method m n a e =
      let k = sym (out_image_method r same_sels m) ∙ ap out-Method e ∙ out_image_method r same_sels n in
      let s : (out-Method m).sel ≡ (out-Method n).sel = ap (λ x. x.sel) k in
      let g : (out-Method m).signature ≡ (out-Method n).signature = method_signature m n (a (image_roll r same_sels (Term-F.Func (out-Method m).signature) ∙ ap (λ x. function_type x.signature) k ∙ sym (image_roll r same_sels (Term-F.Func (out-Method n).signature)))) in
      sym (roll-out-Method m) ∙ (λ i. method_from (s i) (g i)) ∙ roll-out-Method n

  methods : (ms ns : List Method) → Apart (map method_type ms) (map method_type ns) → map (image_of_method r same_sels) ms ≡ map (image_of_method r same_sels) ns → ms ≡ ns
  methods [] [] h e = refl
  methods [] (n ∷ ns) h e = absurd (cc)
  methods (m ∷ ms) [] h e = absurd (cc)
  methods (m ∷ ms) (n ∷ ns) h e =
      let first : image_of_method r same_sels m ≡ image_of_method r same_sels n = cc in
      let rest : map (image_of_method r same_sels) ms ≡ map (image_of_method r same_sels) ns = cc in
      both_items m n ms ns (one_method m n (h (method_type m) (method_type n) (inl refl) (inl refl)) first) (methods ms ns (λ v w k l. h v w (inr k) (inr l)) rest)

  -- two levels but for names with one image are the same, where their parts are
  levels : (k l : Layer) → is_name k ≡ false → Apart (parts k) (parts l) → layer k ≡ layer l → k ≡ l
  levels (Term-F.Named m) l n h e = absurd (cc)
  levels (Term-F.Plain a) (Term-F.Plain b) n h e = e
  levels (Term-F.Plain a) l n h e = absurd (cc)
  levels (Term-F.Pointer u) (Term-F.Pointer t) n h e = let f : to u ≡ to t = cc in ap Term-F.Pointer (h u t (inl refl) (inl refl) f)
  levels (Term-F.Pointer u) l n h e = absurd (cc)
  levels (Term-F.Slice u) (Term-F.Slice t) n h e = let f : to u ≡ to t = cc in ap Term-F.Slice (h u t (inl refl) (inl refl) f)
  levels (Term-F.Slice u) l n h e = absurd (cc)
  levels (Term-F.Array a u) (Term-F.Array b t) n h e =
      let f : to u ≡ to t = cc in let g : a ≡ b = cc in
      λ i. Term-F.Array (g i) (h u t (inl refl) (inl refl) f i)
  levels (Term-F.Array a u) l n h e = absurd (cc)
  levels (Term-F.Map k u) (Term-F.Map j t) n h e =
      let f : to u ≡ to t = cc in let g : to k ≡ to j = cc in
      λ i. Term-F.Map (h k j (inl refl) (inl refl) g i) (h u t (inr (inl refl)) (inr (inl refl)) f i)
  levels (Term-F.Map k u) l n h e = absurd (cc)
  levels (Term-F.Chan c u) (Term-F.Chan d t) n h e =
      let f : to u ≡ to t = cc in let g : c ≡ d = cc in
      λ i. Term-F.Chan (g i) (h u t (inl refl) (inl refl) f i)
  levels (Term-F.Chan c u) l n h e = absurd (cc)
  levels (Term-F.Func g) (Term-F.Func f) n h e = ap Term-F.Func (signatures g f h (one_signature (image_of_signature r same_sels g) (image_of_signature r same_sels f) e))
  levels (Term-F.Func g) l n h e = absurd (cc)
  levels (Term-F.Struct fs) (Term-F.Struct gs) n h e = ap Term-F.Struct (fields fs gs h (one_fields (map (image_of_field r same_sels) fs) (map (image_of_field r same_sels) gs) e))
  levels (Term-F.Struct fs) l n h e = absurd (cc)
  levels (Term-F.Interface ms) (Term-F.Interface ns) n h e = ap Term-F.Interface (methods ms ns h (one_methods (map (image_of_method r same_sels) ms) (map (image_of_method r same_sels) ns) e))
  levels (Term-F.Interface ms) l n h e = absurd (cc)

module _ (E F : Env) (r : Naming) (pairs : List TypePair) (std : TypeName → Bool) (is_open : Sel → Bool) (K : Keeps E F r pairs std is_open) where
  abbrev R : Term → Type 0
  R = IsReached pairs std is_open

  abbrev Given : Term → Type 0
  Given = IsGiven pairs std is_open

  named_by : (t : Term) (n : TypeName) → R t → out-Term t ≡ Term-F.Named n → Given t ⊎ (is_imported n ≡ false)
  named_by t n (reach_given g) e = inl g
  named_by t n (reach_own {n = m} f h) e = inr (subst (λ x. is_imported x ≡ false) (one_level_name m n (sym f ∙ e)) h)
  named_by t n (reach_made m h) e = absurd (subst IsMade e m)

  -- the name of a type that is given isn't the new one of the client's own, but where it is that
  given_own : (t : Term) (m n : TypeName) (b : Bool) → is_imported m ≡ b → Given t → out-Term t ≡ Term-F.Named m → is_imported n ≡ false → r m ≡ n → m ≡ n
  given_own t m n true i g e h f = absurd (true_false (K.types.imported t m g e i) (subst (λ x. is_imported x ≡ false) (sym f) h))
  given_own t m n false i g e h f = sym (K.types.own m i) ∙ f

  by_names : (s t : Term) (m n : TypeName) → out-Term s ≡ Term-F.Named m → out-Term t ≡ Term-F.Named n → r m ≡ r n → Given s ⊎ (is_imported m ≡ false) → Given t ⊎ (is_imported n ≡ false) → m ≡ n
  by_names s t m n e f q (inl g) (inl h) = K.types.apart s t m n g h e f q
  by_names s t m n e f q (inl g) (inr i) = given_own s m n (is_imported m) refl g e i (q ∙ K.types.own n i)
  by_names s t m n e f q (inr i) (inl h) = sym (given_own t n m (is_imported n) refl h f i (sym q ∙ K.types.own m i))
  by_names s t m n e f q (inr i) (inr j) = sym (K.types.own m i) ∙ q ∙ K.types.own n j

  one_name : (s t : Term) (m n : TypeName) → R s → R t → out-Term s ≡ Term-F.Named m → out-Term t ≡ Term-F.Named n → layer r (out-Term s) ≡ layer r (out-Term t) → s ≡ t
  one_name s t m n x y e f l =
      let q : r m ≡ r n = one_level_name (r m) (r n) (ap (layer r) (sym e) ∙ l ∙ ap (layer r) f) in
      one_type s t (Term-F.Named m) e (f ∙ ap Term-F.Named (sym (by_names s t m n e f q (named_by s m x e) (named_by t n y f))))

  abbrev IsTold : Term → Type 0
  IsTold s = (t : Term) → R s → R t → to r s ≡ to r t → s ≡ t

  step : (s : Term) → ((u : Term) → HasItem (parts (out-Term s)) u → IsTold u) → (t : Term) → R s → R t → to r s ≡ to r t → (b : Bool) → is_name (out-Term s) ≡ b → s ≡ t
  step s h t x y e true n =
      let l = sym (out_image r same_sels s) ∙ ap out-Term e ∙ out_image r same_sels t in
      let m = is_name_of (out-Term s) n in
      let k = is_name_of (out-Term t) (sym (name_image r same_sels (out-Term t)) ∙ ap is_name (sym l) ∙ name_image r same_sels (out-Term s) ∙ n) in
      one_name s t m.0 k.0 x y m.1 k.1 l
  step s h t x y e false n =
      let l = sym (out_image r same_sels s) ∙ ap out-Term e ∙ out_image r same_sels t in
      one_type s t (out-Term t) (levels r (out-Term s) (out-Term t) n (λ u v k j f. h u k v (C.part_reached E F r pairs std is_open K s u x k) (C.part_reached E F r pairs std is_open K t v y j) f) l) refl

  pub apart : (s t : Term) → R s → R t → to r s ≡ to r t → s ≡ t
  apart s t x y e = by_parts IsTold (λ u h v a b f. step u h v a b f (is_name (out-Term u)) refl) s t x y e

-- ---- what the clauses of a type switch list

abbrev pub option_to : Naming → Option Term → Option Term
option_to r None = None
option_to r (Some t) = Some (image r same_sels t)

abbrev pub OptionReached : List TypePair → (TypeName → Bool) → (Sel → Bool) → Option Term → Type 0
OptionReached pairs std is_open None = Unit {0}
OptionReached pairs std is_open (Some t) = IsReached pairs std is_open t

module _ (E F : Env) (r : Naming) (pairs : List TypePair) (std : TypeName → Bool) (is_open : Sel → Bool) (K : Keeps E F r pairs std is_open) where
  abbrev Reached : Option Term → Type 0
  Reached = OptionReached pairs std is_open

  one_option : (x y : Option Term) → Reached x → Reached y → option_to r x ≡ option_to r y → x ≡ y
  one_option None None h k e = refl
  one_option None (Some t) h k e = absurd (none_some e)
  one_option (Some t) None h k e = absurd (none_some (sym e))
  one_option (Some t) (Some u) h k e = ap Some (apart E F r pairs std is_open K t u h k (one_some e))

  listed_before : (x : Option Term) (xs : List (Option Term)) → Reached x → Each Reached xs → HasItem (map (option_to r) xs) (option_to r x) → HasItem xs x
  listed_before x [] h k i = absurd i
  listed_before x (y ∷ ys) h k (inl e) = inl (one_option y x k.0 h e)
  listed_before x (y ∷ ys) h k (inr i) = inr (listed_before x ys h k.1 i)

  pub once_kept : (xs : List (Option Term)) → Each Reached xs → Once xs → Once (map (option_to r) xs)
  once_kept [] h o = tt
  once_kept (x ∷ xs) h o = (λ i. o.0 (listed_before x xs h.0 h.1 i), once_kept xs h.1 o.1)
