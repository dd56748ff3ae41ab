-- What is kept of types that two tables share: all of them stays as it is.
use Rattle.std.proofs.Common.{◌≡◌, ◌≢◌, ◌⊎◌, inl, inr, ℕ, Bool, true, false, List, [], ◌∷◌, map, refl, sym, ap, ◌∙◌, subst, Option, Some}
use Rattle.go_base.specs.Lists.{Has, Once, Passes}
use Rattle.go_model.specs.declared.types.names.Sel.{Sel}
use Rattle.go_model.specs.declared.types.names.TypeName.{TypeName}
use Rattle.go_model.specs.declared.types.package.Defined.{Defined}
use Rattle.go_model.specs.declared.types.package.MethodOf.{MethodOf}
use Rattle.go_model.specs.declared.types.term.Field.{Field}
use Rattle.go_model.specs.declared.types.term.Method.{Method}
use Rattle.go_model.specs.declared.types.term.Signature.{Signature}
use Rattle.go_model.specs.declared.types.term.Term.{Term, Term-F, out-Term}
use Rattle.go_model.specs.types.Comparison.{Comparable}
use Rattle.go_model.specs.types.Members.{field_sel}
use Rattle.go_model.specs.types.MethodSets.{Reaches, method_sel}
use Rattle.go_model.specs.types.Selectors.{IsOnly, Spot, ends, field, method}
use Rattle.go_model.specs.types.Tables.{Table}
use Rattle.go_model.specs.types.Terms.{Layer, client_path}
use Rattle.go_model.specs.types.TypeNames.{names}
use Rattle.go_model.specs.types.TypeSelectors.{selectors}
use Rattle.go_model.specs.types.Underlying.{declared_methods, entry, fields_of, methods_of, methods_of_entry, under, under_entry, under_layer}
use Rattle.go_model.specs.worlds.PackageTypes.{declared_selectors, defined_selectors}
use Rattle.go_rules.specs.Usability.{LeadsTo}
use Rattle.go_selectors.specs.Ways.{OnWay}
use Rattle.go_selectors.proofs.Lists.{has-left, has-right}
use Rattle.go_types.specs.Regions.{Within}
use Rattle.go_types.proofs.Agree.{comparable_over, ends_over}
use Rattle.go_type_images.specs.Images.{Naming, image, image_of_layer, image_of_method, image_of_signature, same_sels}
use Rattle.go_type_images.specs.Levels.{interface_layer, struct_layer}
use Rattle.go_type_images.specs.Parts.{field_type, function_type, method_type, parts}
use Rattle.go_type_images.specs.SpotImages.{at_spot}
use Rattle.go_type_images.proofs.ImageLevels.{out_image}
use Rattle.go_client_types.specs.Endings.{end_at}
use Rattle.go_client_types.specs.Preserving.{HasEntry, IsForeign, IsKeptLayer}
use Rattle.go_shared_types.specs.Sharing.{IsShared}
use Rattle.go_shared_types.proofs.Items.{in_gather, passes, passes_within, passing}
use Rattle.go_shared_types.proofs.PartNames.{names_of_function, own_field, own_method, own_name, part_names, part_selectors, selectors_of_function}
use Rattle.go_shared_types.proofs.Regions as R
use Rattle.go_shared_types.proofs.Regions.{Closed}
use Rattle.go_shared_types.proofs.SameTypes.{method_stays, signature_stays, stays}

both : (b : Bool) → b ≡ true → b ≡ false → ⊥
both true e f = absurd (cc)
both false e f = absurd (cc)

some_some : {a b : Defined} → Some a ≡ Some b → a ≡ b
some_some e = cc

one_interface : {ms ns : List Method} → ◌≡◌ {A = Layer} (Term-F.Interface ms) (Term-F.Interface ns) → ms ≡ ns
one_interface e = cc

module _ (r : Naming) (given : Term → Type 0) where
  kept_layer : (k l : Layer) → l ≡ k → image_of_layer r same_sels k ≡ k → ((u : Term) → Has (parts k) u → given u) → IsKeptLayer r given k l
  kept_layer (Term-F.Struct fs) l e i h = ap struct_layer e
  kept_layer (Term-F.Interface ms) l e i h = ap interface_layer e
  kept_layer (Term-F.Plain b) l e i h = (e ∙ sym i, h)
  kept_layer (Term-F.Named n) l e i h = (e ∙ sym i, h)
  kept_layer (Term-F.Pointer t) l e i h = (e ∙ sym i, h)
  kept_layer (Term-F.Slice t) l e i h = (e ∙ sym i, h)
  kept_layer (Term-F.Array n t) l e i h = (e ∙ sym i, h)
  kept_layer (Term-F.Map k t) l e i h = (e ∙ sym i, h)
  kept_layer (Term-F.Chan d t) l e i h = (e ∙ sym i, h)
  kept_layer (Term-F.Func g) l e i h = (e ∙ sym i, h)

module _ (T U : Table) (r : Naming) (std : TypeName → Bool) (is_open : Sel → Bool) (S : IsShared T U std is_open) (fixes : (n : TypeName) → std n ≡ true → r n ≡ n) where
  abbrev pub IsAlike : Term → Type 0
  IsAlike t = Passes std (names t) × Passes is_open (selectors t)

  abbrev pub IsOpened : Sel → Type 0
  IsOpened s = is_open s ≡ true

  abbrev pub HasOpened : Sel → Signature → Type 0
  HasOpened s g = is_open s ≡ true

  abbrev to : Term → Term
  to = image r same_sels

  pub name_in : (t : Term) (n : TypeName) → IsAlike t → out-Term t ≡ Term-F.Named n → std n ≡ true
  name_in t n g e = passing std (names t) n g.0 (own_name t n e)

  pub inside : (t u : Term) → IsAlike t → Has (parts (out-Term t)) u → IsAlike u
  inside t u g k = (passes_within std (names t) (names u) g.0 (λ n h. part_names t u n k h), passes_within is_open (selectors t) (selectors u) g.1 (λ s h. part_selectors t u s k h))

  within : (t : Term) → IsAlike t → Within std t
  within t g = λ n h. passing std (names t) n g.0 h

  pub to_stays : (t : Term) → IsAlike t → to t ≡ t
  to_stays = stays r IsAlike inside (λ t n g e. fixes n (name_in t n g e))

  -- ---- the region, over each of the tables

  module _ (V : Table) (same : (n : TypeName) → std n ≡ true → entry V n ≡ entry T n) where
    region_beneath : (t : Term) (n : TypeName) (d : Defined) → IsAlike t → out-Term t ≡ Term-F.Named n → entry V n ≡ Some d → IsAlike d.underlying
    region_beneath t n d g e f =
        let p = name_in t n g e in
        let h : entry T n ≡ Some d = sym (same n p) ∙ f in
        (passes std (names d.underlying) ((S.closed n d p h).underneath), passes_within is_open (defined_selectors d) (selectors d.underlying) (S.labels n d p h) (λ s k. has-left (selectors d.underlying) _ s k))

    region_declared : (t : Term) (n : TypeName) (d : Defined) (m : MethodOf) → IsAlike t → out-Term t ≡ Term-F.Named n → entry V n ≡ Some d → Has d.methods m → IsAlike (function_type m.signature) × IsOpened m.sel
    region_declared t n d m g e f k =
        let p = name_in t n g e in
        let h : entry T n ≡ Some d = sym (same n p) ∙ f in
        let stands : (s : Sel) → Has (declared_selectors m) s → Has (defined_selectors d) s = λ s j. has-right (selectors d.underlying) _ s (in_gather declared_selectors d.methods m s k j) in (
          (
            passes std (names (function_type m.signature)) (λ x j. (S.closed n d p h).signatures m k x (subst (λ (ns : List TypeName). Has ns x) (names_of_function m.signature) j)),
            passes_within is_open (defined_selectors d) (selectors (function_type m.signature)) (S.labels n d p h) (λ s j. stands s (inr (subst (λ (ss : List Sel). Has ss s) (selectors_of_function m.signature) j))),
          ),
          passing is_open (defined_selectors d) m.sel (S.labels n d p h) (stands m.sel (inl refl)),
        )

    pub region : Closed V IsAlike IsOpened HasOpened
    region = record {
      inside = inside;
      fields = λ t f g k. passing is_open (selectors t) (field_sel f) g.1 (own_field t f k);
      methods = λ t m g k. passing is_open (selectors t) (method_sel m) g.1 (own_method t m k);
      beneath = region_beneath;
      declared = region_declared;
    }

    has_layer : (t : Term) (l : Layer) → IsAlike t → out-Term t ≡ l → HasEntry V l
    has_layer t (Term-F.Named n) g e = let p = name_in t n g e in let d = S.entered n p in (d.0, same n p ∙ d.1)
    has_layer t l g e = tt

    pub has_entry_in : (t : Term) → IsAlike t → HasEntry V (out-Term t)
    has_entry_in t g = has_layer t (out-Term t) g refl

  here_same : (n : TypeName) → std n ≡ true → entry T n ≡ entry T n
  here_same n p = refl

  there_same : (n : TypeName) → std n ≡ true → entry U n ≡ entry T n
  there_same n p = sym (S.agree n p)

  pub before : Closed T IsAlike IsOpened HasOpened
  before = region T here_same

  after : Closed U IsAlike IsOpened HasOpened
  after = region U there_same

  foreign_layer : (t : Term) (l : Layer) → IsAlike t → out-Term t ≡ l → IsForeign l
  foreign_layer t (Term-F.Named n) g e = S.foreign n (name_in t n g e)
  foreign_layer t l g e = tt

  under_layers : (t : Term) (l : Layer) → IsAlike t → out-Term t ≡ l → under_layer U l ≡ under_layer T l
  under_layers t (Term-F.Named n) g e = ap (under_entry n) (there_same n (name_in t n g e))
  under_layers t l g e = refl

  pub under_same : (t : Term) → IsAlike t → under U (to t) ≡ under T t
  under_same t g = ap (under U) (to_stays t g) ∙ under_layers t (out-Term t) g refl

  only_over : (s : Sel) (at : Spot) (d : ℕ) (e : _) → IsAlike at.term → IsOnly T s at d e → IsOnly U s at d e
  only_over s at d e g o = record {
    none = λ k l. sym (ends_over std T U S.agree S.closed s at k (within at.term g)) ∙ o.none k l;
    only = sym (ends_over std T U S.agree S.closed s at d (within at.term g)) ∙ o.only;
  }

  at_image : (s : Sel) (b : Bool) (t : Term) (d : ℕ) (e : _) → IsAlike t → IsOnly T s (at_spot b t) d e → IsOnly U s (at_spot b (to t)) d e
  at_image s b t d e g o = subst (λ x. IsOnly U s (at_spot b x) d e) (sym (to_stays t g)) (only_over s (at_spot b t) d e g o)

  -- ---- what is kept

  pub imported : (t : Term) (n : TypeName) → IsAlike t → out-Term t ≡ Term-F.Named n → r n ≡ n
  imported t n g e = fixes n (name_in t n g e)

  pub has_entry : (t : Term) → IsAlike t → HasEntry T (out-Term t) × HasEntry U (out-Term (to t))
  has_entry t g = (has_entry_in T here_same t g, subst (λ x. HasEntry U (out-Term x)) (sym (to_stays t g)) (has_entry_in U there_same t g))

  pub beneath : (given : Term → Type 0) → ((u : Term) → IsAlike u → given u) → (t : Term) → IsAlike t → IsKeptLayer r given (under T t) (under U (to t))
  beneath given sub t g =
      let v = R.under_of T IsAlike IsOpened HasOpened before t g in
      let i : image_of_layer r same_sels (out-Term v.0) ≡ out-Term v.0 = sym (out_image r same_sels v.0) ∙ ap out-Term (to_stays v.0 v.1) in
      subst (λ k. IsKeptLayer r given k (under U (to t))) (sym v.2) (kept_layer r given (out-Term v.0) (under U (to t)) (under_same t g ∙ v.2) i (λ u k. sub u (inside v.0 u v.1 k)))

  pub fields : (t : Term) (f : Field) → IsAlike t → Has (fields_of (under T t)) f → (g : Field) × Has (fields_of (under U (to t))) g × (field_sel g ≡ field_sel f) × (field_type g ≡ to (field_type f)) × IsAlike (field_type f)
  fields t f g k =
      let h = R.field_in T IsAlike IsOpened HasOpened before t f g k in
      (f, subst (λ l. Has (fields_of l) f) (sym (under_same t g)) k, refl, sym (to_stays (field_type f) h.0), h.0)

  pub found_field : (t : Term) (s : Sel) (b q : Bool) (d : ℕ) (v : Term) → IsAlike t → IsOnly T s (at_spot b t) d (end_at q (field v)) → IsOnly U s (at_spot b (to t)) d (end_at q (field (to v))) × IsAlike v
  found_field t s b q d v g o =
      let h = R.found_in T IsAlike IsOpened HasOpened before s d (at_spot b t) (end_at q (field v)) g o in
      (subst (λ x. IsOnly U s (at_spot b (to t)) d (end_at q (field x))) (sym (to_stays v h.target)) (at_image s b t d (end_at q (field v)) g o), h.target)

  pub found_method : (t : Term) (s : Sel) (b q a : Bool) (d : ℕ) (o : Option TypeName) (h : Signature) → IsAlike t → IsOnly T s (at_spot b t) d (end_at q (method o a h))
      → IsOnly U s (at_spot b (to t)) d (end_at q (method o a (image_of_signature r same_sels h))) × IsAlike (function_type h) × ((n : TypeName) → o ≡ Some n → n.path ≢ client_path)
  found_method t s b q a d o h g i =
      let f = R.found_in T IsAlike IsOpened HasOpened before s d (at_spot b t) (end_at q (method o a h)) g i in (
        subst (λ x. IsOnly U s (at_spot b (to t)) d (end_at q (method o a x))) (sym (signature_stays r h (to_stays (function_type h) f.target))) (at_image s b t d (end_at q (method o a h)) g i),
        f.target,
        λ n e. let x = f.owner n e in S.foreign n (name_in x.0 n x.1 x.2),
      )

  pub strange : (t : Term) (s : Sel) (k : ℕ) (b : Bool) → IsAlike t → s.«package» ≡ client_path → ends T s k (at_spot b t) ≡ []
  strange t s k b g e = R.none_in T IsAlike IsOpened HasOpened before s k (at_spot b t) g (λ o. S.strange s o e) (λ h o. S.strange s o e)

  pub on_way : (t : Term) (b : Bool) (x : Spot) → IsAlike t → OnWay U (at_spot b (to t)) x → HasEntry U (out-Term x.term) × IsForeign (out-Term x.term)
  on_way t b x g w =
      let h = R.way_in U IsAlike IsOpened HasOpened after (subst (λ y. OnWay U (at_spot b y) x) (to_stays t g) w) g in
      (has_entry_in U there_same x.term h, foreign_layer x.term (out-Term x.term) h refl)

  pub unsealed : (i : Term) (ms : List Method) → IsAlike i → under T i ≡ Term-F.Interface ms → (n : Method) → Has (methods_of (under U (to i))) n → (m : Method) × Has ms m × (n ≡ image_of_method r same_sels m)
  unsealed i ms g e n k =
      let j : Has (methods_of (under T i)) n = subst (λ l. Has (methods_of l) n) (under_same i g) k in
      let h = R.method_in T IsAlike IsOpened HasOpened before i n g j in
      (n, subst (λ l. Has (methods_of l) n) e j, sym (method_stays r n (to_stays (method_type n) h.0)))

  -- each method of an interface is open
  pub opened : (i : Term) (ms : List Method) (m : Method) → IsAlike i → under T i ≡ Term-F.Interface ms → Has ms m → is_open (method_sel m) ≡ true
  opened i ms m g e k = (R.method_in T IsAlike IsOpened HasOpened before i m g (subst (λ l. Has (methods_of l) m) (sym e) k)).1

  pub compares : (t : Term) → IsAlike t → Comparable T t → Comparable U (to t)
  compares t g c = subst (Comparable U) (sym (to_stays t g)) (comparable_over std T U S.agree S.closed t (within t g) c)

  pub leads : (t u : Term) → IsAlike t → LeadsTo U (to t) u → HasEntry U (out-Term u)
  leads t u g l = has_entry_in U there_same u (R.leads_in U IsAlike IsOpened HasOpened after (subst (λ x. LeadsTo U x u) (to_stays t g) l) g)

  pub interfaces : (t : Term) (n : TypeName) (ms : List Method) → IsAlike t → out-Term t ≡ Term-F.Named n → under T t ≡ Term-F.Interface ms → Once (map method_sel ms) × (declared_methods T (out-Term t) ≡ [])
  interfaces t n ms g e u =
      let p = name_in t n g e in
      let d = S.entered n p in
      let level : out-Term (d.0).underlying ≡ Term-F.Interface ms = sym (ap (under_layer T) e ∙ ap (under_entry n) d.1) ∙ u in
      let b = S.bare n d.0 ms p d.1 level in
      (b.0, ap (declared_methods T) e ∙ ap methods_of_entry d.1 ∙ b.1)

  pub apart : (s t : Term) (m n : TypeName) → IsAlike s → IsAlike t → out-Term s ≡ Term-F.Named m → out-Term t ≡ Term-F.Named n → r m ≡ r n → m ≡ n
  apart s t m n g h e f q = sym (imported s m g e) ∙ q ∙ imported t n h f
