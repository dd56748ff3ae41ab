-- The method sets of a defined type that promotes no method, and of its pointer: the methods that are declared.
use Rattle.std.proofs.Common.{◌≡◌, ◌≢◌, ℕ, zero, suc, Bool, true, false, List, [], ◌∷◌, ◌++◌, map, refl, sym, ap, ◌∙◌, subst, ◌⊎◌, inl, inr, ◌||◌, arith, Option, Some, None, if◌then◌else◌}
use mathlib.Core.Bool.{true≢false}
use Rattle.std.specs.Prelude.{IfSome}
use denote.Ref.{Bor}
use Rattle.go_base.specs.Gathered.{gather}
use Rattle.go_base.specs.Keys.{first_with, item_of}
use Rattle.go_base.specs.Lists.{Has, Each, Once}
use Rattle.go_base.proofs.Members.{gather_of, has_split}
use Rattle.go_base.proofs.Ordered.{each_first, first_key}
use Rattle.go_model.specs.declared.types.names.Sel.{Sel}
use Rattle.go_model.specs.declared.types.names.TypeName.{TypeName}
use Rattle.go_model.specs.declared.types.package.Defined.{Defined}
use Rattle.go_model.specs.declared.types.package.MethodOf.{MethodOf}
use Rattle.go_model.specs.declared.types.package.Package.{Package}
use Rattle.go_model.specs.declared.types.term.Field.{Field, out-Field}
use Rattle.go_model.specs.declared.types.term.Signature.{Signature}
use Rattle.go_model.specs.declared.types.term.Term.{Term, Term-F, out-Term, roll-Term, out-roll-Term}
use Rattle.go_model.specs.types.MethodSets.{InSet}
use Rattle.go_model.specs.types.Selectors.{Spot, Ending, field, method, base_of, is_pointer, name_of as type_name, field_ending, declared_ending, method_ending, step, steps, endings, ends, start, start_layer, start_named, start_pointer, is_defined_layer, IsOnly}
use Rattle.go_model.specs.types.Tables.{Table}
use Rattle.go_model.specs.types.Terms.{Layer, error_type, is_error, pointer_to, same_sel}
use Rattle.go_model.specs.types.Underlying.{declared_methods, entry, fields_of, methods_of, methods_of_entry, under, under_entry, under_layer}
use Rattle.go_model.specs.worlds.Worlds.{IsDefined, IsPackage, bars_methods, declared_sel, defined_in, name_of, path_of, table_of}
use Rattle.go_model.proofs.MethodOrder.{once_in_order}
use Rattle.go_selectors.specs.Ways.{sel_of}
use Rattle.go_selectors.proofs.Fields.{none_ends, end_of}
use Rattle.go_selectors.proofs.Layers.{reach_none}
use Rattle.go_selectors.proofs.Noting.{sel_is, sel_self}
use Rattle.api_features.specs.inner.FeatureLines.{IsHeld, IsNotEmbedded, PromotesNone}

-- ---- what a package holds

no_error : (path name : List ℕ) → path ≢ [] → is_error (record { path = path; name = name }) ≡ false
no_error [] name n = absurd (n refl)
no_error (b ∷ path) name n = refl

pub held_type : (packages : List Package) (path name : List ℕ) (p : Package) (r : Option (Bor Defined)) → Some p ≡ first_with path_of packages path → IsPackage (table_of packages) p → item_of r ≡ first_with name_of p.defined name → IfSome r (λ d. IsHeld packages path name d.now)
held_type packages path name p None e k h = tt
held_type packages path name p (Some d) e k h =
    let named : p.path ≡ path = first_key path_of packages path p e in (
      ap (λ b. if b then Some error_type else table_of packages (record { path = path; name = name })) (no_error path name (λ i. k.pathed (named ∙ i))) ∙ ap (λ o. defined_in o name) (sym e) ∙ sym h,
      each_first name_of (IsDefined (table_of packages)) p.defined name d.now h k.types,
    )

-- ---- lists

has_of : {A B : Type 0} (f : A → B) (xs : List A) (y : B) → Has (map f xs) y → (x : A) × Has xs x × (f x ≡ y)
has_of f [] y h = absurd h
has_of f (x ∷ xs) y (inl e) = (x, inl refl, e)
has_of f (x ∷ xs) y (inr h) = let k = has_of f xs y h in (k.0, inr k.1, k.2)

has_mapped : {A B : Type 0} (f : A → B) (xs : List A) (x : A) → Has xs x → Has (map f xs) (f x)
has_mapped f [] x h = absurd h
has_mapped f (y ∷ xs) x (inl e) = inl (ap f e)
has_mapped f (y ∷ xs) x (inr h) = inr (has_mapped f xs x h)

has_one : {A : Type 0} (b : Bool) (x y : A) → Has (if b then x ∷ [] else []) y → (b ≡ true) × (x ≡ y)
has_one true x y (inl e) = (refl, e)
has_one true x y (inr n) = absurd n
has_one false x y n = absurd n

same_head : {A : Type 0} (x y : A) → x ∷ [] ≡ y ∷ [] → x ≡ y
same_head x y e = cc

none_embedded : (through : Bool) (fs : List Field) → Each IsNotEmbedded fs → gather (step through) fs ≡ []
none_embedded through [] e = refl
none_embedded through (f ∷ fs) e = ap (λ b. (if b then record { through = through || is_pointer (out-Field f).term; term = base_of (out-Field f).term } ∷ [] else []) ++ gather (step through) fs) e.0 ∙ none_embedded through fs e.1

-- what is underneath a name that has an entry
pub below : (T : Table) (n : TypeName) (d : Defined) → entry T n ≡ Some d → under T (roll-Term (Term-F.Named n)) ≡ out-Term d.underlying
below T n d there = ap (under_layer T) (out-roll-Term (Term-F.Named n)) ∙ ap (under_entry n) there

module _ (T : Table) (n : TypeName) (d : Defined) (there : entry T n ≡ Some d) (k : IsDefined T d) (a : PromotesNone (out-Term d.underlying)) where
  abbrev t : Term
  t = roll-Term (Term-F.Named n)

  abbrev at : Bool → Spot
  at through = record { through = through; term = t }

  abbrev end : Bool → MethodOf → Ending
  end through m = record { through = through; target = method (Some n) m.pointer m.signature }

  abbrev fs : List Field
  fs = fields_of (out-Term d.underlying)

  named : out-Term t ≡ Term-F.Named n
  named = out-roll-Term (Term-F.Named n)

  pointed : out-Term (pointer_to t) ≡ Term-F.Pointer t
  pointed = out-roll-Term (Term-F.Pointer t)

  beneath : under T t ≡ out-Term d.underlying
  beneath = below T n d there

  unbarred : bars_methods (under T t) ≡ false
  unbarred = ap bars_methods beneath ∙ a.0

  -- ---- where the paths begin

  from_named : (l : Layer) → bars_methods l ≡ false → start_named t l ≡ at false
  from_named (Term-F.Plain b) e = refl
  from_named (Term-F.Named m) e = refl
  from_named (Term-F.Pointer b) e = absurd (true≢false e)
  from_named (Term-F.Slice b) e = refl
  from_named (Term-F.Array m b) e = refl
  from_named (Term-F.Map m b) e = refl
  from_named (Term-F.Chan m b) e = refl
  from_named (Term-F.Func g) e = refl
  from_named (Term-F.Struct gs) e = refl
  from_named (Term-F.Interface ms) e = absurd (true≢false e)

  from_pointer : (l : Layer) → bars_methods l ≡ false → start_pointer (pointer_to t) t l ≡ at true
  from_pointer (Term-F.Plain b) e = refl
  from_pointer (Term-F.Named m) e = refl
  from_pointer (Term-F.Pointer b) e = absurd (true≢false e)
  from_pointer (Term-F.Slice b) e = refl
  from_pointer (Term-F.Array m b) e = refl
  from_pointer (Term-F.Map m b) e = refl
  from_pointer (Term-F.Chan m b) e = refl
  from_pointer (Term-F.Func g) e = refl
  from_pointer (Term-F.Struct gs) e = refl
  from_pointer (Term-F.Interface ms) e = absurd (true≢false e)

  no_pointer : (l : Layer) → bars_methods l ≡ false → is_defined_layer (Term-F.Named n) l ≡ false
  no_pointer (Term-F.Plain b) e = refl
  no_pointer (Term-F.Named m) e = refl
  no_pointer (Term-F.Pointer b) e = absurd (true≢false e)
  no_pointer (Term-F.Slice b) e = refl
  no_pointer (Term-F.Array m b) e = refl
  no_pointer (Term-F.Map m b) e = refl
  no_pointer (Term-F.Chan m b) e = refl
  no_pointer (Term-F.Func g) e = refl
  no_pointer (Term-F.Struct gs) e = refl
  no_pointer (Term-F.Interface ms) e = absurd (true≢false e)

  no_methods : (l : Layer) → bars_methods l ≡ false → methods_of l ≡ []
  no_methods (Term-F.Plain b) e = refl
  no_methods (Term-F.Named m) e = refl
  no_methods (Term-F.Pointer b) e = refl
  no_methods (Term-F.Slice b) e = refl
  no_methods (Term-F.Array m b) e = refl
  no_methods (Term-F.Map m b) e = refl
  no_methods (Term-F.Chan m b) e = refl
  no_methods (Term-F.Func g) e = refl
  no_methods (Term-F.Struct gs) e = refl
  no_methods (Term-F.Interface ms) e = absurd (true≢false e)

  value_start : start T t ≡ at false
  value_start = ap (start_layer T t) named ∙ from_named (under T t) unbarred

  pointer_start : start T (pointer_to t) ≡ at true
  pointer_start = ap (start_layer T (pointer_to t)) pointed ∙ from_pointer (under T t) unbarred

  -- ---- where the paths end

  abbrev here : Sel → Bool → List Ending
  here s through = gather (field_ending s through) fs ++ gather (declared_ending (Some n) s through) d.methods ++ []

  ends_here : (s : Sel) (through : Bool) → endings T s (at through) ≡ here s through
  ends_here s through =
      ap (λ l. gather (field_ending s through) (fields_of (under T t)) ++ gather (declared_ending (type_name l) s through) (declared_methods T l) ++ gather (method_ending s through) (methods_of (under T t))) named
      ∙ ap (λ l. gather (field_ending s through) (fields_of l) ++ gather (declared_ending (Some n) s through) (methods_of_entry (entry T n)) ++ gather (method_ending s through) (methods_of l)) beneath
      ∙ ap (λ o. gather (field_ending s through) fs ++ gather (declared_ending (Some n) s through) (methods_of_entry o) ++ gather (method_ending s through) (methods_of (out-Term d.underlying))) there
      ∙ ap (λ ms. gather (field_ending s through) fs ++ gather (declared_ending (Some n) s through) d.methods ++ gather (method_ending s through) ms) (no_methods (out-Term d.underlying) a.0)

  no_steps : (through : Bool) → steps T (at through) ≡ []
  no_steps through = ap (λ l. gather (step through) (fields_of l)) beneath ∙ none_embedded through fs a.1

  one_end : (through : Bool) (ms : List MethodOf) (m : MethodOf) → Once (map declared_sel ms) → Has ms m → gather (declared_ending (Some n) m.sel through) ms ≡ end through m ∷ []
  one_end through [] m o h = absurd h
  one_end through (x ∷ ms) m o (inl e) =
      subst (λ (w : MethodOf). gather (declared_ending (Some n) w.sel through) (x ∷ ms) ≡ end through w ∷ []) e
      (ap (λ b. (if b then end through x ∷ [] else []) ++ gather (declared_ending (Some n) x.sel through) ms) (sel_self x.sel) ∙ ap (λ w. end through x ∷ w) (none_ends declared_sel (end through) x.sel ms o.0))
  one_end through (x ∷ ms) m o (inr h) = ap (λ b. (if b then end through x ∷ [] else []) ++ gather (declared_ending (Some n) m.sel through) ms) (other (same_sel x.sel m.sel) refl) ∙ one_end through ms m o.1 h
    where
      other : (b : Bool) → same_sel x.sel m.sel ≡ b → same_sel x.sel m.sel ≡ false
      other true e = absurd (o.0 (subst (Has (map declared_sel ms)) (sym (sel_is x.sel m.sel e)) (has_mapped declared_sel ms m h)))
      other false e = e

  -- a declared method is the one end of its selector
  declared_ends : (through : Bool) (m : MethodOf) → Has d.methods m → endings T m.sel (at through) ≡ end through m ∷ []
  declared_ends through m h =
      ends_here m.sel through
      ∙ ap (λ w. w ++ gather (declared_ending (Some n) m.sel through) d.methods ++ []) (none_ends sel_of (end_of through) m.sel fs (λ i. let f = has_of sel_of fs m.sel i in k.apart m f.0 h f.1 (ap (λ (s : Sel). s.name) f.2)))
      ∙ ap (λ w. w ++ []) (one_end through d.methods m (once_in_order (map declared_sel d.methods) k.methods.ordered) h)

  declared_only : (through : Bool) (m : MethodOf) → Has d.methods m → IsOnly T m.sel (at through) 0 (end through m)
  declared_only through m h = record { none = λ j l. absurd (omega arith); only = reach_none T m.sel (at through) ∙ declared_ends through m h }

  -- paths end at the type itself
  at_once : (s : Sel) (through : Bool) (depth : ℕ) (e : Ending) → ends T s depth (at through) ≡ e ∷ [] → endings T s (at through) ≡ e ∷ []
  unfolding ends
  at_once s through zero e h = h
  at_once s through (suc depth) e h = let i : [] ≡ e ∷ [] = sym (ap (gather (ends T s depth)) (no_steps through)) ∙ h in absurd (cc)

  -- where a method alone ends a path, it is declared
  declared_of : (s : Sel) (through : Bool) (e : Ending) (owner : Option TypeName) (pointer : Bool) (g : Signature) → e.target ≡ method owner pointer g → endings T s (at through) ≡ e ∷ [] → (m : MethodOf) × Has d.methods m × (m.sel ≡ s) × (end through m ≡ e)
  declared_of s through e owner pointer g is h =
      let all : Has (here s through) e = subst (λ (w : List Ending). Has w e) (sym h ∙ ends_here s through) (inl refl) in
      elim (has_split (gather (field_ending s through) fs ++ gather (declared_ending (Some n) s through) d.methods) [] e all) [
        | inl x ↦ elim (has_split (gather (field_ending s through) fs) (gather (declared_ending (Some n) s through) d.methods) e x) [
          | inl y ↦ (
              let f = gather_of (field_ending s through) fs e y in
              let o = has_one (same_sel (sel_of f.0) s) (end_of through f.0) e f.2 in
              let i : field (out-Field f.0).term ≡ method owner pointer g = ap (λ (w : Ending). w.target) o.1 ∙ is in
              absurd (cc)
              )
          | inr y ↦ (
              let m = gather_of (declared_ending (Some n) s through) d.methods e y in
              let o = has_one (same_sel m.0.sel s) (end through m.0) e m.2 in
              (m.0, m.1, sel_is m.0.sel s o.0, o.1)
              )
        ]
        | inr z ↦ absurd z
      ]

  -- ---- the method sets

  pub value_has : (m : MethodOf) → Has d.methods m → m.pointer ≡ false → InSet T t m.sel m.signature
  value_has m h p = record { depth = 0; through = false; owner = Some n; pointer = m.pointer; only = subst (λ (w : Spot). IsOnly T m.sel w 0 (end false m)) (sym value_start) (declared_only false m h); counts = ap (λ l. is_defined_layer l (under T t)) named ∙ no_pointer (under T t) unbarred; reaches = inl p }

  pub pointer_has : (m : MethodOf) → Has d.methods m → InSet T (pointer_to t) m.sel m.signature
  pointer_has m h = record { depth = 0; through = true; owner = Some n; pointer = m.pointer; only = subst (λ (w : Spot). IsOnly T m.sel w 0 (end true m)) (sym pointer_start) (declared_only true m h); counts = ap (λ l. is_defined_layer l (under T (pointer_to t))) pointed; reaches = inr refl }

  -- the one end of a selector in a method set
  set_end : (u : Term) (through : Bool) (s : Sel) (g : Signature) → start T u ≡ at through → (i : InSet T u s g) → endings T s (at through) ≡ record { through = i.through; target = method i.owner i.pointer g } ∷ []
  set_end u through s g e i = at_once s through i.depth _ (subst (λ (w : Spot). ends T s i.depth w ≡ record { through = i.through; target = method i.owner i.pointer g } ∷ []) e i.only.only)

  -- without a pointer as the receiver
  plain : (through pointer receiver : Bool) → (receiver ≡ pointer) → false ≡ through → ((pointer ≡ false) ⊎ (through ≡ true)) → receiver ≡ false
  plain through pointer receiver e f (inl i) = e ∙ i
  plain through pointer receiver e f (inr i) = absurd (true≢false (sym i ∙ sym f))

  pub value_of : (s : Sel) (g : Signature) → InSet T t s g → (m : MethodOf) × Has d.methods m × (m.sel ≡ s) × (m.signature ≡ g) × (m.pointer ≡ false)
  value_of s g i =
      let m = declared_of s false (record { through = i.through; target = method i.owner i.pointer g }) i.owner i.pointer g refl (set_end t false s g value_start i) in
      let target : method (Some n) m.0.pointer m.0.signature ≡ method i.owner i.pointer g = ap (λ (w : Ending). w.target) m.3 in
      let signature : m.0.signature ≡ g = cc in
      let pointer : m.0.pointer ≡ i.pointer = cc in
      (m.0, m.1, m.2, signature, plain i.through i.pointer m.0.pointer pointer (ap (λ (w : Ending). w.through) m.3) i.reaches)

  pub pointer_of : (s : Sel) (g : Signature) → InSet T (pointer_to t) s g → (m : MethodOf) × Has d.methods m × (m.sel ≡ s) × (m.signature ≡ g)
  pointer_of s g i =
      let m = declared_of s true (record { through = i.through; target = method i.owner i.pointer g }) i.owner i.pointer g refl (set_end (pointer_to t) true s g pointer_start i) in
      let target : method (Some n) m.0.pointer m.0.signature ≡ method i.owner i.pointer g = ap (λ (w : Ending). w.target) m.3 in
      let signature : m.0.signature ≡ g = cc in
      (m.0, m.1, m.2, signature)

  pub value_lacks : (m : MethodOf) → Has d.methods m → m.pointer ≡ true → (g : Signature) → InSet T t m.sel g → ⊥
  value_lacks m h p g i =
      let both = same_head (end false m) (record { through = i.through; target = method i.owner i.pointer g }) (sym (declared_ends false m h) ∙ set_end t false m.sel g value_start i) in
      let target : method (Some n) m.pointer m.signature ≡ method i.owner i.pointer g = ap (λ (w : Ending). w.target) both in
      let pointer : m.pointer ≡ i.pointer = cc in
      true≢false (sym p ∙ plain i.through i.pointer m.pointer pointer (ap (λ (w : Ending). w.through) both) i.reaches)
