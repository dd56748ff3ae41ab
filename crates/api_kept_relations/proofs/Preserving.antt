-- The types that a client is given are preserved: those of owned pairs, and those of the standard library.
use Rattle.std.proofs.Common.{◌≡◌, ◌≢◌, ◌⊎◌, inl, inr, ℕ, Bool, true, false, ◌&&◌, List, [], ◌∷◌, map, refl, sym, ap, ◌∙◌, subst, Option, Some, None}
use Rattle.std.specs.Prelude.{bytes_eq, not}
use Rattle.std.specs.Cmp.Lexicographic.{bytes_decides}
use Rattle.go_base.specs.Lists.{Has, Each, Once, Passes}
use Rattle.go_model.specs.declared.types.names.Sel.{Sel}
use Rattle.go_model.specs.declared.types.names.TypeName.{TypeName}
use Rattle.go_model.specs.declared.types.package.Package.{Package}
use Rattle.go_model.specs.declared.types.term.Field.{Field}
use Rattle.go_model.specs.declared.types.term.Method.{Method, out-Method}
use Rattle.go_model.specs.declared.types.term.Signature.{Signature}
use Rattle.go_model.specs.declared.types.term.Term.{Term, Term-F, out-Term}
use Rattle.go_model.specs.types.Comparison.{Comparable}
use Rattle.go_model.specs.types.Imports.{is_imported}
use Rattle.go_model.specs.types.Members.{field_sel}
use Rattle.go_model.specs.types.MethodSets.{HasMethods, Implements, Reaches, method_sel}
use Rattle.go_model.specs.types.Selectors.{Ending, IsOnly, Spot, ends, field, method, start}
use Rattle.go_model.specs.types.Tables.{Table}
use Rattle.go_model.specs.types.Terms.{IsBlank, Layer, client_path, is_error, pointer_to}
use Rattle.go_model.specs.types.TypeNames.{Names, names}
use Rattle.go_model.specs.types.TypeSelectors.{Sels, selectors}
use Rattle.go_model.specs.types.Underlying.{declared_methods, fields_of, methods_of, under}
use Rattle.go_model.specs.worlds.Worlds.{IsWorld, Packages}
use Rattle.go_rules.specs.Usability.{LeadsTo}
use Rattle.go_selectors.specs.Ways.{OnWay}
use Rattle.go_type_images.specs.Images.{Naming, image, image_of_method, image_of_signature, same_sels}
use Rattle.go_type_images.specs.Parts.{field_type, function_type, parts}
use Rattle.go_type_images.specs.SpotImages.{at_spot}
use Rattle.go_type_images.specs.declared.pair.TypePair.{TypePair}
use Rattle.go_client_types.specs.Endings.{end_at}
use Rattle.go_client_types.specs.Preserving.{HasEntry, IsForeign, IsKeptLayer, Preserves}
use Rattle.go_base.proofs.Members.{each_has}
use Rattle.go_shared_types.specs.Sharing.{IsShared}
use Rattle.go_shared_types.proofs.Alike as A
use Rattle.go_shared_types.proofs.PartNames.{pointer_names, pointer_selectors}
use Rattle.go_shared_types.proofs.Regions as R
use Rattle.api_correspond.specs.OwnedPairs.{are_of_module}
use Rattle.api_correspond.specs.Publics.{of_module, of_std, package_at, types_of}
use Rattle.api_type_images.proofs.OwnedNames.{one_old}
use Rattle.api_type_images.proofs.Paired as P
use Rattle.api_kept_relations.specs.StdTypes.{is_open_sel, shared_std}
use Rattle.api_kept_relations.proofs.Carried as V
use Rattle.api_kept_relations.proofs.Names as N
use Rattle.api_kept_relations.proofs.Names.{error_path}
use Rattle.api_kept_relations.proofs.Pairs as Q
use Rattle.api_kept_relations.proofs.Pairs.{Worlds}
use Rattle.api_kept_relations.proofs.StdShared as X

no_both : (b : Bool) → b ≡ true → b ≡ false → ⊥
no_both true e f = absurd (cc)
no_both false e f = absurd (cc)

one_interface : {ms ns : List Method} → ◌≡◌ {A = Layer} (Term-F.Interface ms) (Term-F.Interface ns) → ms ≡ ns
one_interface e = cc

named_named : {m n : TypeName} → ◌≡◌ {A = Layer} (Term-F.Named m) (Term-F.Named n) → m ≡ n
named_named e = cc

module _ (old new before after : Packages) (pairs : List TypePair) (T U : Table) (D : Worlds old new before after pairs T U) where
  abbrev r : Naming
  r = Q.r old new before after pairs T U D

  abbrev to : Term → Term
  to = image r same_sels

  abbrev std : TypeName → Bool
  std = shared_std before after

  abbrev is_open : Sel → Bool
  is_open = is_open_sel before

  abbrev Given : Term → Type 0
  Given = Q.Given old new before after pairs T U D

  shared : IsShared T U std is_open
  shared = Q.shared old new before after pairs T U D

  fixes : (n : TypeName) → std n ≡ true → r n ≡ n
  fixes = Q.fixes old new before after pairs T U D

  abbrev IsAlike : Term → Type 0
  IsAlike = A.IsAlike T U r std is_open (Q.shared old new before after pairs T U D) (Q.fixes old new before after pairs T U D)

  by_given : (F : Term → Type 0) → ((p : TypePair) → Has pairs p → F p.old) → ((t : Term) → IsAlike t → F t) → (t : Term) → Given t → F t
  by_given F f g t (inl p) = subst F p.2 (f p.0 p.1)
  by_given F f g t (inr a) = g t a

  -- ---- names

  own_name : (n : TypeName) → is_imported n ≡ false → r n ≡ n
  own_name n e = P.stays old new pairs D.holds D.compatible n (by (package_at old n.path) refl)
    where
      by : (o : Option Package) → package_at old n.path ≡ o → of_module (package_at old n.path) ≡ false
      by None f = ap of_module f
      by (Some p) f = let t = N.package_told old D.old_world n.path p f in absurd (no_both (is_imported n) (Q.imported_of n t.1 t.0) e)

  -- a name of the module that becomes one of the standard library would be in both
  module_std : (p : TypePair) → Has pairs p → (n m : TypeName) → out-Term p.old ≡ Term-F.Named n → are_of_module old new p ≡ true → std m ≡ true → r n ≡ m → ⊥
  module_std p k n m e a s q = by_package (package_at new m.path) refl
    where
      of_new : of_module (package_at new m.path) ≡ true
      of_new = subst (λ x. of_module (package_at new x.path) ≡ true) q (Q.new_side old new before after pairs T U D p k n e a)

      by_package : (o : Option Package) → package_at new m.path ≡ o → ⊥
      by_package None f = no_both (of_module (package_at new m.path)) of_new (ap of_module f)
      by_package (Some x) f = by_error (is_error m) refl
        where
          by_error : (b : Bool) → is_error m ≡ b → ⊥
          by_error true g = (N.package_told new D.new_world m.path x f).1 (error_path m g)
          by_error false g =
              let v = X.view before after D.serves.world D.serves_too.world D.share_too D.alone m s g in
              let h : ◌≡◌ {A = Option Package} (Some x) (Some v.shared_package) = sym (D.serves_too.holds m.path x f) ∙ v.too in
              no_both (of_module (package_at new m.path)) of_new (ap of_module (f ∙ h) ∙ ap not v.from_std)

  mixed : (p : TypePair) → Has pairs p → (t : Term) → IsAlike t → (n m : TypeName) → out-Term p.old ≡ Term-F.Named n → out-Term t ≡ Term-F.Named m → r n ≡ r m → n ≡ m
  mixed p k t a n m e f q = Q.by_kind old new before after pairs T U D p k (n ≡ m)
      (λ x. absurd (module_std p k n m e x (A.name_in T U r std is_open shared fixes t m a f) (q ∙ fixes m (A.name_in T U r std is_open shared fixes t m a f))))
      (λ x. A.apart T U r std is_open shared fixes p.old t n m x a e f q)
      (λ x. absurd (Q.named_plain (out-Term p.old) n e x))

  apart_names : (s t : Term) (m n : TypeName) → Given s → Given t → out-Term s ≡ Term-F.Named m → out-Term t ≡ Term-F.Named n → r m ≡ r n → m ≡ n
  apart_names s t m n (inl p) (inl q) e f x = one_old old new pairs D.holds D.compatible m n (p.0, p.1, ap out-Term p.2 ∙ e) (q.0, q.1, ap out-Term q.2 ∙ f) x
  apart_names s t m n (inl p) (inr a) e f x = mixed p.0 p.1 t a m n (ap out-Term p.2 ∙ e) f x
  apart_names s t m n (inr a) (inl q) e f x = sym (mixed q.0 q.1 s a n m (ap out-Term q.2 ∙ f) e (sym x))
  apart_names s t m n (inr a) (inr b) e f x = A.apart T U r std is_open shared fixes s t m n a b e f x

  parts_given : (t u : Term) → Given t → Has (parts (out-Term t)) u → Given u
  parts_given t u (inl p) h = Q.of_pair old new before after pairs T U D p.0 p.1 u (Q.part_pair old new before after pairs T U D p.0 p.1 u (subst (λ x. Has (parts (out-Term x)) u) (sym p.2) h))
  parts_given t u (inr a) h = inr (A.inside T U r std is_open shared fixes t u a h)

  -- ---- sealed interfaces

  -- no type of the standard library has a method that isn't open
  alike_open : (v i : Term) (ms : List Method) (m : Method) → IsAlike v → under T i ≡ Term-F.Interface ms → Has ms m → is_open (method_sel m) ≡ false → Implements T v i → ⊥
  alike_open v i ms m a e h x w =
      let s = w.2 m (subst (λ xs. Has xs m) (one_interface (sym e ∙ w.1)) h) in
      let g = R.start_in T IsAlike (A.IsOpened T U r std is_open shared fixes) (A.HasOpened T U r std is_open shared fixes) (A.before T U r std is_open shared fixes) v a in
      let f = R.found_in T IsAlike (A.IsOpened T U r std is_open shared fixes) (A.HasOpened T U r std is_open shared fixes) (A.before T U r std is_open shared fixes) (method_sel m) s.depth (start T v) (end_at s.through (method s.owner s.pointer (out-Method m).signature)) g s.only in
      no_both (is_open (method_sel m)) f.selected x

  alike_pointer : (v : Term) → IsAlike v → IsAlike (pointer_to v)
  alike_pointer v a = (subst (λ (xs : Names). Passes std xs) (sym (pointer_names v)) a.0, subst (λ (xs : Sels). Passes is_open xs) (sym (pointer_selectors v)) a.1)

  -- what an owned sealed interface and the old type of a pair keep
  sealed_by : (p q : TypePair) → Has pairs p → Has pairs q → (ms : List Method) (m : Method) → under T q.old ≡ Term-F.Interface ms → Has ms m → is_open (method_sel m) ≡ false → Implements T p.old q.old → Implements U (to p.old) (to q.old)
  sealed_by p q k j ms m e h x w =
      let was : Implements (types_of old) p.old q.old = V.implements_back old before T D.old_world D.serves p.old q.old (Q.named_old old new before after pairs T U D p k) (Q.named_old old new before after pairs T U D q j) w in
      let z = (P.keeps old new pairs D.holds D.compatible p k).1.implements q (record { sealed = Q.sealed_pair old new before after pairs T U D q j ms m e h x; before = was }) in
      let y = V.implements_in new after U D.new_world D.serves_too p.new q.new (Q.named_new old new before after pairs T U D p k) (Q.named_new old new before after pairs T U D q j) z in
      subst (λ u. Implements U u (to q.old)) (Q.is_new old new before after pairs T U D p k) (subst (λ u. Implements U p.new u) (Q.is_new old new before after pairs T U D q j) y)

  pointer_by : (p q : TypePair) → Has pairs p → Has pairs q → (ms : List Method) (m : Method) → under T q.old ≡ Term-F.Interface ms → Has ms m → is_open (method_sel m) ≡ false → Implements T (pointer_to p.old) q.old → Implements U (pointer_to (to p.old)) (to q.old)
  pointer_by p q k j ms m e h x w =
      let was : Implements (types_of old) (pointer_to p.old) q.old = V.implements_back old before T D.old_world D.serves (pointer_to p.old) q.old (named_pointer old D.old_world p.old (Q.named_old old new before after pairs T U D p k)) (Q.named_old old new before after pairs T U D q j) w in
      let z = (P.keeps old new pairs D.holds D.compatible p k).1.pointer_implements q (record { sealed = Q.sealed_pair old new before after pairs T U D q j ms m e h x; before = was }) in
      let y = V.implements_in new after U D.new_world D.serves_too (pointer_to p.new) q.new (named_pointer new D.new_world p.new (Q.named_new old new before after pairs T U D p k)) (Q.named_new old new before after pairs T U D q j) z in
      subst (λ u. Implements U (pointer_to u) (to q.old)) (Q.is_new old new before after pairs T U D p k) (subst (λ u. Implements U (pointer_to p.new) u) (Q.is_new old new before after pairs T U D q j) y)
    where
      named_pointer : (w : Packages) (i : IsWorld w) (t : Term) → N.IsNamed w i t → N.IsNamed w i (pointer_to t)
      named_pointer w i t g n h = g n (subst (λ (xs : Names). Has xs n) (pointer_names t) h)

  sealed : (v i : Term) (ms : List Method) (m : Method) → Given v → Given i → under T i ≡ Term-F.Interface ms → Has ms m → is_open (method_sel m) ≡ false → Implements T v i → Implements U (to v) (to i)
  sealed v i ms m g (inr a) e h x w = absurd (no_both (is_open (method_sel m)) (A.opened T U r std is_open shared fixes i ms m a e h) x)
  sealed v i ms m (inr a) (inl q) e h x w = absurd (alike_open v i ms m a e h x w)
  sealed v i ms m (inl p) (inl q) e h x w =
      subst (λ t. Implements T t i → Implements U (to t) (to i)) p.2
      (subst (λ t. Implements T (p.0).old t → Implements U (to (p.0).old) (to t)) q.2 (sealed_by p.0 q.0 p.1 q.1 ms m (ap (under T) q.2 ∙ e) h x)) w

  sealed_pointer : (v i : Term) (ms : List Method) (m : Method) → Given v → Given i → under T i ≡ Term-F.Interface ms → Has ms m → is_open (method_sel m) ≡ false → Implements T (pointer_to v) i → Implements U (pointer_to (to v)) (to i)
  sealed_pointer v i ms m g (inr a) e h x w = absurd (no_both (is_open (method_sel m)) (A.opened T U r std is_open shared fixes i ms m a e h) x)
  sealed_pointer v i ms m (inr a) (inl q) e h x w = absurd (alike_open (pointer_to v) i ms m (alike_pointer v a) e h x w)
  sealed_pointer v i ms m (inl p) (inl q) e h x w =
      subst (λ t. Implements T (pointer_to t) i → Implements U (pointer_to (to t)) (to i)) p.2
      (subst (λ t. Implements T (pointer_to (p.0).old) t → Implements U (pointer_to (to (p.0).old)) (to t)) q.2 (pointer_by p.0 q.0 p.1 q.1 ms m (ap (under T) q.2 ∙ e) h x)) w

  -- ---- all together

  imported : (t : Term) (n : TypeName) → Given t → out-Term t ≡ Term-F.Named n → is_imported n ≡ true → is_imported (r n) ≡ true
  imported t n (inl p) e x = Q.imported old new before after pairs T U D p.0 p.1 n (ap out-Term p.2 ∙ e) x
  imported t n (inr a) e x = ap is_imported (fixes n (A.name_in T U r std is_open shared fixes t n a e)) ∙ x

  fields : (t : Term) → Given t → (f : Field) → Has (fields_of (under T t)) f → (field_sel f).«package» ≡ [] → (g : Field) × Has (fields_of (under U (to t))) g × (field_sel g ≡ field_sel f) × (field_type g ≡ to (field_type f)) × Given (field_type f)
  fields = by_given (λ t. (f : Field) → Has (fields_of (under T t)) f → (field_sel f).«package» ≡ [] → (g : Field) × Has (fields_of (under U (to t))) g × (field_sel g ≡ field_sel f) × (field_type g ≡ to (field_type f)) × Given (field_type f))
      (λ p k f h x. Q.fields old new before after pairs T U D p k f h x)
      (λ t a f h x. let g = A.fields T U r std is_open shared fixes t f a h in (g.0, g.1, g.2, g.3, inr g.4))

  found_field : (t : Term) → Given t → (s : Sel) (b q : Bool) (d : ℕ) (v : Term) → s.«package» ≡ [] → (IsBlank s → ⊥) → IsOnly T s (at_spot b t) d (end_at q (field v)) → (c : ℕ) × (k : Bool) × IsOnly U s (at_spot b (to t)) c (end_at k (field (to v))) × (q ≡ true → k ≡ true) × Given v
  found_field = by_given (λ t. (s : Sel) (b q : Bool) (d : ℕ) (v : Term) → s.«package» ≡ [] → (IsBlank s → ⊥) → IsOnly T s (at_spot b t) d (end_at q (field v)) → (c : ℕ) × (k : Bool) × IsOnly U s (at_spot b (to t)) c (end_at k (field (to v))) × (q ≡ true → k ≡ true) × Given v)
      (λ p k s b q d v x blank o. Q.found_field old new before after pairs T U D p k s b q d v x blank o)
      (λ t a s b q d v x blank o. let f = A.found_field T U r std is_open shared fixes t s b q d v a o in (d, q, f.0, (λ e. e), inr f.1))

  abbrev FindsToo : Term → Type 0
  FindsToo t = (s : Sel) (b q a : Bool) (d : ℕ) (o : Option TypeName) (g : Signature) → is_open s ≡ true → IsOnly T s (at_spot b t) d (end_at q (method o a g))
      → (c : ℕ) × (k : Bool) × (e : Bool) × (m : Option TypeName) × IsOnly U s (at_spot b (to t)) c (end_at k (method m e (image_of_signature r same_sels g))) × (Reaches a q → Reaches e k) × Given (function_type g) × ((n : TypeName) → m ≡ Some n → n.path ≢ client_path)

  found_method : (t : Term) → Given t → FindsToo t
  found_method = by_given FindsToo
      (λ p k s b q a d o g x i. Q.found_method old new before after pairs T U D p k s b q a d o g x i)
      (λ t h s b q a d o g x i. let f = A.found_method T U r std is_open shared fixes t s b q a d o g h i in (d, q, a, o, f.0, (λ y. y), inr f.1, f.2))

  unsealed : (i : Term) → Given i → (ms : List Method) → under T i ≡ Term-F.Interface ms → Each (λ m. is_open (method_sel m) ≡ true) ms → (n : Method) → Has (methods_of (under U (to i))) n → (m : Method) × Has ms m × (n ≡ image_of_method r same_sels m)
  unsealed = by_given (λ i. (ms : List Method) → under T i ≡ Term-F.Interface ms → Each (λ m. is_open (method_sel m) ≡ true) ms → (n : Method) → Has (methods_of (under U (to i))) n → (m : Method) × Has ms m × (n ≡ image_of_method r same_sels m))
      (λ p k ms e x n h. Q.unsealed old new before after pairs T U D p k ms e x n h)
      (λ t a ms e x n h. A.unsealed T U r std is_open shared fixes t ms a e n h)

  interfaces : (t : Term) → Given t → (n : TypeName) (ms : List Method) → out-Term t ≡ Term-F.Named n → under T t ≡ Term-F.Interface ms → Once (map method_sel ms) × (declared_methods T (out-Term t) ≡ [])
  interfaces = by_given (λ t. (n : TypeName) (ms : List Method) → out-Term t ≡ Term-F.Named n → under T t ≡ Term-F.Interface ms → Once (map method_sel ms) × (declared_methods T (out-Term t) ≡ []))
      (λ p k n ms e u. Q.interfaces old new before after pairs T U D p k n ms e u)
      (λ t a n ms e u. A.interfaces T U r std is_open shared fixes t n ms a e u)

  pub preserves : Preserves T U r pairs std is_open
  preserves = record {
    exported_open = shared.exported;
    parts_given = parts_given;
    own = own_name;
    imported = imported;
    has_entry = by_given (λ t. HasEntry T (out-Term t) × HasEntry U (out-Term (to t))) (λ p k. Q.has_entry old new before after pairs T U D p k) (λ t a. A.has_entry T U r std is_open shared fixes t a);
    beneath = by_given (λ t. IsKeptLayer r Given (under T t) (under U (to t))) (λ p k. Q.beneath old new before after pairs T U D p k) (λ t a. A.beneath T U r std is_open shared fixes Given (λ u h. inr h) t a);
    fields = λ t f g h x. fields t g f h x;
    found_field = λ t s b q d v g x blank o. found_field t g s b q d v x blank o;
    found_method = λ t s b q a d o g h x i. found_method t h s b q a d o g x i;
    strange = λ t s k b g e. by_given (λ t. ends T s k (at_spot b t) ≡ []) (λ p j. Q.strange old new before after pairs T U D p j s k b e) (λ t a. A.strange T U r std is_open shared fixes t s k b a e) t g;
    on_way = λ t b x g w. by_given (λ t. OnWay U (at_spot b (to t)) x → HasEntry U (out-Term x.term) × IsForeign (out-Term x.term)) (λ p k. Q.on_way old new before after pairs T U D p k b x) (λ t a. A.on_way T U r std is_open shared fixes t b x a) t g w;
    unsealed = λ i ms g e x n h. unsealed i g ms e x n h;
    sealed = sealed;
    sealed_pointer = sealed_pointer;
    compares = by_given (λ t. Comparable T t → Comparable U (to t)) (λ p k. Q.compares old new before after pairs T U D p k) (λ t a. A.compares T U r std is_open shared fixes t a);
    leads = λ t u g l. by_given (λ t. LeadsTo U (to t) u → HasEntry U (out-Term u)) (λ p k. Q.leads old new before after pairs T U D p k u) (λ t a. A.leads T U r std is_open shared fixes t u a) t g l;
    interfaces = λ t n ms g e u. interfaces t g n ms e u;
    apart = apart_names;
  }
