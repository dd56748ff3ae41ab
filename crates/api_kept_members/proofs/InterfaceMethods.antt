-- Methods of interfaces of the module, and what selectors find from these.
use Rattle.std.proofs.Common.{◌≡◌, ◌⊎◌, inl, inr, ℕ, zero, suc, Bool, true, false, ◌&&◌, ◌||◌, List, [], ◌∷◌, ◌++◌, map, refl, sym, ap, ◌∙◌, subst, Option, Some, None}
use Rattle.std.specs.Prelude.{if◌then◌else◌}
use Rattle.go_base.specs.Gathered.{gather}
use Rattle.go_base.specs.Lists.{Has, Once}
use Rattle.go_base.proofs.Members.{gather_of, has_split}
use Rattle.go_model.specs.declared.types.names.Sel.{Sel}
use Rattle.go_model.specs.declared.types.names.TypeName.{TypeName}
use Rattle.go_model.specs.declared.types.package.Defined.{Defined}
use Rattle.go_model.specs.declared.types.term.Method.{Method, out-Method, roll-Method, roll-out-Method}
use Rattle.go_model.specs.declared.types.term.Signature.{Signature}
use Rattle.go_model.specs.declared.types.term.Term.{Term, Term-F, out-Term, out-roll-Term}
use Rattle.go_model.specs.types.MethodSets.{InSet, Reaches, method_sel}
use Rattle.go_model.specs.types.Selectors.{Ending, IsOnly, Spot, Target, declared_ending, ends, field, field_ending, is_pointer_layer, method, method_ending, name_of, start, step, steps}
use Rattle.go_model.specs.types.Tables.{Table}
use Rattle.go_model.specs.types.Terms.{Layer, error_method, error_type, is_error, same_sel}
use Rattle.go_model.specs.types.Underlying.{declared_methods, entry, fields_of, methods_of, methods_of_entry, under, under_entry, under_layer}
use Rattle.go_model.specs.worlds.Worlds.{IsWorld, Packages, bars_methods, table_of}
use Rattle.go_model.proofs.MethodOrder.{once_in_order}
use Rattle.go_model.proofs.WorldTypes.{interface_sound, told}
use Rattle.go_selectors.proofs.Noting.{sel_is}
use Rattle.go_types.proofs.Interfaces.{same_implement}
use Rattle.go_type_images.specs.Images.{image_of_method, same_sels}
use Rattle.go_type_images.specs.Levels.{interface_layer}
use Rattle.go_type_images.specs.Parts.{function_type, method_type}
use Rattle.go_type_images.specs.SpotImages.{at_spot}
use Rattle.go_type_images.specs.declared.pair.TypePair.{TypePair}
use Rattle.go_type_images.proofs.ImageLevels.{out_image_method}
use Rattle.go_type_images.proofs.Through.{only_behind}
use Rattle.api_correspond.specs.Outermost.{pair}
use Rattle.api_correspond.specs.OwnedPairs.{HoldsOwned, are_of_module, are_structs, have_members, receiver_layer, to_method}
use Rattle.api_correspond.specs.Publics.{IsExported, is_of_module, types_of}
use Rattle.api_correspond.specs.Rules.{Compatible, IsOpen, have_interfaces, is_std_sel}
use Rattle.api_type_images.proofs.Paired as P
use Rattle.api_kept_members.specs.KeptFinds.{FindsMethod, FindsStdMethod, end_at}
use Rattle.api_kept_members.proofs.Alternatives.{either, only_if}
use Rattle.api_kept_members.proofs.DefinedPointers.{no_item}
use Rattle.api_kept_members.proofs.Kept as K
use Rattle.api_kept_members.proofs.Members as M
use Rattle.api_kept_members.proofs.ResolvingPairs.{entry_is}
use Rattle.api_kept_members.proofs.Sets.{begins_here}
use Rattle.api_kept_members.proofs.Underneath.{and_both, methods_is}

named_interface : (n : TypeName) (ms : List Method) → ◌≡◌ {A = Layer} (Term-F.Named n) (Term-F.Interface ms) → ⊥
named_interface n ms e = absurd (cc)

one_interface : {ms ns : List Method} → ◌≡◌ {A = Layer} (Term-F.Interface ms) (Term-F.Interface ns) → ms ≡ ns
one_interface e = cc

method_field : (o : Option TypeName) (a : Bool) (g : Signature) (t : Term) → ◌≡◌ {A = Target} (field t) (method o a g) → ⊥
method_field o a g t e = absurd (cc)

one_method_end : {a b : Bool} {o m : Option TypeName} {g h : Signature} → ◌≡◌ {A = Target} (method o a g) (method m b h) → g ≡ h
one_method_end e = cc

-- two methods of one selector in a list where each stands once are one
one_of : (ms : List Method) (m n : Method) → Once (map method_sel ms) → Has ms m → Has ms n → method_sel m ≡ method_sel n → m ≡ n
one_of [] m n o h k e = absurd h
one_of (x ∷ ms) m n o (inl h) (inl k) e = sym h ∙ k
one_of (x ∷ ms) m n o (inl h) (inr k) e = absurd (o.0 (subst (Has (map method_sel ms)) (sym e ∙ sym (ap method_sel h)) (K.in_map method_sel ms n k)))
one_of (x ∷ ms) m n o (inr h) (inl k) e = absurd (o.0 (subst (Has (map method_sel ms)) (e ∙ sym (ap method_sel k)) (K.in_map method_sel ms m h)))
one_of (x ∷ ms) m n o (inr h) (inr k) e = one_of ms m n o.1 h k e

-- ---- a defined interface type in a world

module _ (w : Packages) (i : IsWorld w) where
  abbrev W : Table
  W = types_of w

  pub record IsBare (t : Term) (ms : List Method) : Type 0 where
    pub once : Once (map method_sel ms)
    pub none : declared_methods W (out-Term t) ≡ []

  error_once : (ms : List Method) (d : Defined) → error_type ≡ d → out-Term d.underlying ≡ Term-F.Interface ms → Once (map method_sel ms)
  error_once ms d e u =
      let s : error_method ∷ [] ≡ ms = one_interface (sym (out-roll-Term (Term-F.Interface (error_method ∷ []))) ∙ subst (λ (x : Defined). out-Term x.underlying ≡ Term-F.Interface ms) (sym e) u) in
      subst (λ xs. Once (map method_sel xs)) s ((λ h. h), tt)

  world_once : (n : TypeName) (ms : List Method) (d : Defined) → table_of w.packages n ≡ Some d → out-Term d.underlying ≡ Term-F.Interface ms → Once (map method_sel ms)
  world_once n ms d e u = once_in_order (map method_sel ms) (interface_sound d.underlying ms (told w i n d e).formed u).ordered

  entry_bare : (n : TypeName) (ms : List Method) (d : Defined) → (error_type ≡ d) ⊎ (table_of w.packages n ≡ Some d) → out-Term d.underlying ≡ Term-F.Interface ms → Once (map method_sel ms) × (d.methods ≡ [])
  entry_bare n ms d (inl e) u = (error_once ms d e u, sym (ap (λ (x : Defined). x.methods) e))
  entry_bare n ms d (inr e) u = (world_once n ms d e u, (told w i n d e).kept.bare (ap bars_methods u))

  by_entry : (n : TypeName) (ms : List Method) (o : Option Defined) → entry W n ≡ o → under_entry n o ≡ Term-F.Interface ms → Once (map method_sel ms) × (methods_of_entry o ≡ [])
  by_entry n ms None e u = absurd (named_interface n ms u)
  by_entry n ms (Some d) e u = entry_bare n ms d (entry_is w i (is_error n) n d refl e) u

  -- each method of a defined interface type stands once, and none is declared for the type
  pub bare : (t : Term) (n : TypeName) (ms : List Method) → out-Term t ≡ Term-F.Named n → under W t ≡ Term-F.Interface ms → IsBare t ms
  bare t n ms e u = let b = by_entry n ms (entry W n) refl (sym (ap (under_layer W) e) ∙ u) in record { once = b.0; none = ap (declared_methods W) e ∙ b.1 }

  -- so it is in the method set
  pub in_set : (t : Term) (ms : List Method) → under W t ≡ Term-F.Interface ms → IsBare t ms → (m : Method) → Has ms m → InSet W t (method_sel m) (out-Method m).signature
  in_set t ms u b m h =
      let f = same_implement W t t ms u u b.once b.none in
      f.2 m (subst (λ xs. Has xs m) (one_interface (sym u ∙ f.1)) h)

  -- ---- what is found from it

  pub record IsMethodOf (s : Sel) (g : Signature) (ms : List Method) : Type 0 where
    pub it : Method
    pub stands : Has ms it
    pub named : method_sel it ≡ s
    pub signed : (out-Method it).signature ≡ g

  module _ (t : Term) (ms : List Method) (u : under W t ≡ Term-F.Interface ms) (none : declared_methods W (out-Term t) ≡ []) (s : Sel) (b : Bool) where
    of_fields : (q a : Bool) (o : Option TypeName) (g : Signature) → Has (gather (field_ending s b) (fields_of (under W t))) (end_at q (method o a g)) → ⊥
    of_fields q a o g h = subst (λ l. Has (gather (field_ending s b) (fields_of l)) (end_at q (method o a g))) u h

    of_declared : (q a : Bool) (o : Option TypeName) (g : Signature) → Has (gather (declared_ending (name_of (out-Term t)) s b) (declared_methods W (out-Term t))) (end_at q (method o a g)) → ⊥
    of_declared q a o g h = subst (λ ds. Has (gather (declared_ending (name_of (out-Term t)) s b) ds) (end_at q (method o a g))) none h

    of_methods : (q a : Bool) (o : Option TypeName) (g : Signature) → Has (gather (method_ending s b) (methods_of (under W t))) (end_at q (method o a g)) → IsMethodOf s g ms
    of_methods q a o g h =
        let f = gather_of (method_ending s b) ms (end_at q (method o a g)) (subst (λ l. Has (gather (method_ending s b) (methods_of l)) (end_at q (method o a g))) u h) in
        let e = only_if (same_sel (out-Method f.0).sel s) (end_at b (method None false (out-Method f.0).signature)) (end_at q (method o a g)) f.2 in
        record { it = f.0; stands = f.1; named = sel_is (out-Method f.0).sel s e.0; signed = one_method_end (ap (λ (x : Ending). x.target) e.1) }

    top : (q a : Bool) (o : Option TypeName) (g : Signature) → IsOnly W s (at_spot b t) 0 (end_at q (method o a g)) → IsMethodOf s g ms
    unfolding ends
    top q a o g x =
        let e = end_at q (method o a g) in
        let fs = gather (field_ending s b) (fields_of (under W t)) in
        let ds = gather (declared_ending (name_of (out-Term t)) s b) (declared_methods W (out-Term t)) in
        let ns = gather (method_ending s b) (methods_of (under W t)) in
        let k : Has ((fs ++ ds) ++ ns) e = subst (λ ys. Has ys e) (sym x.only) (inl refl) in
        either (has_split (fs ++ ds) ns e k) (λ h. absurd (either (has_split fs ds e h) (λ y. of_fields q a o g y) (λ y. of_declared q a o g y))) (λ y. of_methods q a o g y)

    no_step : steps W (at_spot b t) ≡ []
    no_step = ap (λ l. gather (step b) (fields_of l)) u

    below : (d : ℕ) (q a : Bool) (o : Option TypeName) (g : Signature) → IsOnly W s (at_spot b t) (suc d) (end_at q (method o a g)) → ⊥
    unfolding ends
    below d q a o g x = no_item (ends W s (suc d) (at_spot b t)) (end_at q (method o a g)) (ap (gather (ends W s d)) no_step) x.only

    pub found_in : (d : ℕ) (q a : Bool) (o : Option TypeName) (g : Signature) → IsOnly W s (at_spot b t) d (end_at q (method o a g)) → IsMethodOf s g ms
    found_in zero q a o g x = top q a o g x
    found_in (suc d) q a o g x = absurd (below d q a o g x)

-- ---- owned pairs

reaches_further : (b k e : Bool) → Reaches e k → Reaches e (b || k)
reaches_further b k e (inl f) = inl f
reaches_further true k e (inr f) = inr refl
reaches_further false k e (inr f) = inr f

module _ (old new : Packages) (pairs : List TypePair) (H : HoldsOwned old new pairs) (C : Compatible old new) (i : IsWorld old) (j : IsWorld new) where
  abbrev T : Table
  T = types_of old

  abbrev U : Table
  U = types_of new

  abbrev method_to : Method → Method
  method_to = image_of_method (P.renamed old new pairs H C) same_sels

  module _ (p : TypePair) (k : Has pairs p) (a : are_of_module old new p ≡ true) (h : have_interfaces old new p ≡ true) where
    both : (are_of_module old new p && have_interfaces old new p) ≡ true
    both = ap (λ c. c && have_interfaces old new p) a ∙ h

    sides : (is_of_module old p.old ≡ true) × (is_of_module new p.new ≡ true)
    sides = and_both (is_of_module old p.old) (is_of_module new p.new) a

    levels : (interface_layer (under T p.old) ≡ true) × (interface_layer (under U p.new) ≡ true)
    levels = and_both (interface_layer (under T p.old)) (interface_layer (under U p.new)) h

    before : (ms : List Method) × (under T p.old ≡ Term-F.Interface ms)
    before = methods_is (under T p.old) levels.0

    after : (ns : List Method) × (under U p.new ≡ Term-F.Interface ns)
    after = methods_is (under U p.new) levels.1

    old_bare : IsBare old i p.old before.0
    old_bare = let n = K.module_name old (out-Term p.old) sides.0 in bare old i p.old n.0 before.0 n.1 before.1

    new_bare : IsBare new j p.new after.0
    new_bare = let n = K.module_name new (out-Term p.new) sides.1 in bare new j p.new n.0 after.0 n.1 after.1

    members : have_members old new p ≡ true
    members = ap (λ c. c || are_structs p) a

    abbrev KeepsMethod : Method → Type 0
    KeepsMethod m = (n : Method) × Has (methods_of (under U p.new)) n × (n ≡ method_to m) × Has pairs (pair (method_type m) (method_type n))

    with_new : (m n : Method) → Has before.0 m → Has after.0 n → method_sel n ≡ method_sel m → IsExported (method_sel m) → Has pairs (pair (method_type m) (method_type n))
    with_new m n q r e x =
        let s : InSet T (receiver_layer p.old (under T p.old)) (method_sel m) (out-Method m).signature = subst (λ l. InSet T (receiver_layer p.old l) (method_sel m) (out-Method m).signature) (sym before.1) (in_set old i p.old before.0 before.1 old_bare m q) in
        let t : InSet U (receiver_layer p.new (under U p.new)) (method_sel m) (out-Method n).signature = subst (λ l. InSet U (receiver_layer p.new l) (method_sel m) (out-Method n).signature) (sym after.1) (subst (λ y. InSet U p.new y (out-Method n).signature) e (in_set new j p.new after.0 after.1 new_bare n r)) in
        H.followed p (pair (method_type m) (method_type n)) k (to_method (method_sel m) (out-Method m).signature (out-Method n).signature members x s t)

    one_image : (m n : Method) → method_sel n ≡ method_sel m → (out-Method n).signature ≡ M.signature_to old new pairs H C (out-Method m).signature → n ≡ method_to m
    one_image m n e f =
        sym (roll-out-Method n)
        ∙ (λ c. roll-Method (record { sel = e c; signature = f c }))
        ∙ ap roll-Method (sym (out_image_method (P.renamed old new pairs H C) same_sels m))
        ∙ roll-out-Method (method_to m)

    -- an exported method of an interface has its image in the new one
    pub interface_method : (m : Method) → Has (methods_of (under T p.old)) m → IsExported (method_sel m) → KeepsMethod m
    interface_method m q x =
        let n = (P.keeps old new pairs H C p k).0.interface_methods m (record { interfaces = both; there = q; counts = inl x }) in
        let o = with_new m n.0 (subst (λ l. Has (methods_of l) m) before.1 q) (subst (λ l. Has (methods_of l) n.0) after.1 n.1) n.2 x in
        (n.0, n.1, one_image m n.0 n.2 (M.signatures old new pairs H C (out-Method m).signature (out-Method n.0).signature o), o)

    -- and none is new where the old one is open
    pub no_new_method : IsOpen old p.old → (n : Method) → Has (methods_of (under U p.new)) n → IsExported (method_sel n) → (m : Method) × Has (methods_of (under T p.old)) m × (n ≡ method_to m)
    no_new_method s n q x =
        let f = (P.keeps old new pairs H C p k).0 in
        let m = f.open_interfaces n (record { interfaces = both; before = s; after = λ z. s ((f.sealing both).not_new z); there = q }) in
        let g = interface_method m.0 m.1 (subst IsExported (sym m.2) x) in
        let e : method_sel g.0 ≡ method_sel n = ap method_sel g.2 ∙ ap (λ y. y.sel) (out_image_method (P.renamed old new pairs H C) same_sels m.0) ∙ m.2 in
        (m.0, m.1, one_of after.0 n g.0 new_bare.once (subst (λ l. Has (methods_of l) n) after.1 q) (subst (λ l. Has (methods_of l) g.0) after.1 g.1) (sym e) ∙ g.2)

    -- an unexported method of the standard library stays as it is
    pub std_method : (m : Method) → Has (methods_of (under T p.old)) m → is_std_sel old (method_sel m) ≡ true → Has (methods_of (under U p.new)) m
    std_method m q x =
        let n = (P.keeps old new pairs H C p k).0.interface_methods m (record { interfaces = both; there = q; counts = inr x }) in
        subst (λ y. Has (methods_of (under U p.new)) y) (n.3 x) n.1

    -- and none is new where the old interface is open
    pub no_new_std_method : IsOpen old p.old → (n : Method) → Has (methods_of (under U p.new)) n → is_std_sel old (method_sel n) ≡ true → Has (methods_of (under T p.old)) n
    no_new_std_method s n q x =
        let f = (P.keeps old new pairs H C p k).0 in
        let m = f.open_interfaces n (record { interfaces = both; before = s; after = λ z. s ((f.sealing both).not_new z); there = q }) in
        let g = std_method m.0 m.1 (ap (is_std_sel old) m.2 ∙ x) in
        let e = one_of after.0 m.0 n new_bare.once (subst (λ l. Has (methods_of l) m.0) after.1 g) (subst (λ l. Has (methods_of l) n) after.1 q) m.2 in
        subst (λ y. Has (methods_of (under T p.old)) y) e m.1

    new_start : start U p.new ≡ at_spot false p.new
    new_start = let n = K.module_name new (out-Term p.new) sides.1 in begins_here U p.new (ap is_pointer_layer n.1) (ap is_pointer_layer after.1)

    -- what is found from the old one is found from the new one
    pub found_method : (s : Sel) → IsExported s → (b q c : Bool) (d : ℕ) (o : Option TypeName) (g : Signature) → IsOnly T s (at_spot b p.old) d (end_at q (method o c g)) → FindsMethod new pairs s b p.new c q g
    found_method s x b q c d o g y =
        let m = found_in old i p.old before.0 before.1 old_bare.none s b d q c o g y in
        let n = interface_method m.it (subst (λ l. Has (methods_of l) m.it) (sym before.1) m.stands) (subst IsExported (sym m.named) x) in
        let e : method_sel n.0 ≡ s = ap method_sel n.2 ∙ ap (λ z. z.sel) (out_image_method (P.renamed old new pairs H C) same_sels m.it) ∙ m.named in
        let f : (out-Method n.0).signature ≡ M.signature_to old new pairs H C g = ap (λ z. (out-Method z).signature) n.2 ∙ ap (λ z. z.signature) (out_image_method (P.renamed old new pairs H C) same_sels m.it) ∙ ap (M.signature_to old new pairs H C) m.signed in
        let v = in_set new j p.new after.0 after.1 new_bare n.0 (subst (λ l. Has (methods_of l) n.0) after.1 n.1) in
        let w : InSet U p.new s (M.signature_to old new pairs H C g) = subst (λ z. InSet U p.new s z) f (subst (λ z. InSet U p.new z (out-Method n.0).signature) e v) in
        let own : Has pairs (pair (function_type g) (function_type (M.signature_to old new pairs H C g))) = subst (λ z. Has pairs (pair (function_type g) (function_type z))) f (subst (λ z. Has pairs (pair (function_type z) (method_type n.0))) m.signed n.3) in
        (w.depth, b || w.through, w.owner, w.pointer, only_behind U s b p.new w.depth (end_at w.through (method w.owner w.pointer (M.signature_to old new pairs H C g))) (subst (λ (z : Spot). IsOnly U s z w.depth (end_at w.through (method w.owner w.pointer (M.signature_to old new pairs H C g)))) new_start w.only), (λ r. reaches_further b w.through w.pointer w.reaches), own)

    pub found_std_method : (s : Sel) → is_std_sel old s ≡ true → (b q c : Bool) (d : ℕ) (o : Option TypeName) (g : Signature) → IsOnly T s (at_spot b p.old) d (end_at q (method o c g)) → FindsStdMethod new s b p.new c q g
    found_std_method s x b q c d o g y =
        let m = found_in old i p.old before.0 before.1 old_bare.none s b d q c o g y in
        let n = std_method m.it (subst (λ l. Has (methods_of l) m.it) (sym before.1) m.stands) (ap (is_std_sel old) m.named ∙ x) in
        let v = in_set new j p.new after.0 after.1 new_bare m.it (subst (λ l. Has (methods_of l) m.it) after.1 n) in
        let w : InSet U p.new s g = subst (λ z. InSet U p.new s z) m.signed (subst (λ z. InSet U p.new z (out-Method m.it).signature) m.named v) in
        (w.depth, b || w.through, w.owner, w.pointer, only_behind U s b p.new w.depth (end_at w.through (method w.owner w.pointer g)) (subst (λ (z : Spot). IsOnly U s z w.depth (end_at w.through (method w.owner w.pointer g))) new_start w.only), (λ r. reaches_further b w.through w.pointer w.reaches))
