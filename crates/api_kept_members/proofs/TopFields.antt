-- Fields that stand in a struct itself: what a selector finds there, and that it finds them.
use Rattle.std.proofs.Common.{◌≡◌, ◌⊎◌, inl, inr, ℕ, Bool, true, false, List, [], ◌∷◌, ◌++◌, map, refl, sym, ap, ◌∙◌, subst, Option, Some, None}
use Rattle.std.specs.Prelude.{if◌then◌else◌}
use Rattle.go_base.specs.Gathered.{gather}
use Rattle.go_base.specs.Lists.{Has}
use Rattle.go_base.proofs.Members.{gather_of, has_split}
use Rattle.go_model.specs.declared.types.names.Sel.{Sel}
use Rattle.go_model.specs.declared.types.names.TypeName.{TypeName}
use Rattle.go_model.specs.declared.types.package.Defined.{Defined}
use Rattle.go_model.specs.declared.types.term.Field.{Field, out-Field}
use Rattle.go_model.specs.declared.types.term.Method.{out-Method}
use Rattle.go_model.specs.declared.types.term.Signature.{Signature}
use Rattle.go_model.specs.declared.types.term.Term.{Term, Term-F, out-Term, out-roll-Term}
use Rattle.go_model.specs.types.Members.{AreDistinct, field_sel}
use Rattle.go_model.specs.types.Selectors.{Ending, IsOnly, Target, declared_ending, ends, field, field_ending, method, method_ending, name_of}
use Rattle.go_model.specs.types.Tables.{Table}
use Rattle.go_model.specs.types.Terms.{IsBlank, Layer, error_type, is_error, same_sel}
use Rattle.go_model.specs.types.Underlying.{declared_methods, entry, fields_of, methods_of, methods_of_entry, under, under_entry, under_layer}
use Rattle.go_model.specs.worlds.Worlds.{IsWorld, Packages, table_of}
use Rattle.go_model.proofs.WorldTypes.{struct_sound, told}
use Rattle.go_selectors.specs.Ways.{IsAlone, sel_of}
use Rattle.go_selectors.proofs.Fields.{field_found, method_sel_of}
use Rattle.go_selectors.proofs.Noting.{sel_is}
use Rattle.go_type_images.specs.Parts.{field_type}
use Rattle.go_type_images.specs.SpotImages.{at_spot}
use Rattle.api_correspond.specs.Publics.{types_of}
use Rattle.api_kept_members.specs.KeptFinds.{end_at}
use Rattle.api_kept_members.proofs.Alternatives.{either, only_if}
use Rattle.api_kept_members.proofs.ResolvingPairs.{entry_is}

field_field : {a b : Term} → ◌≡◌ {A = Target} (field a) (field b) → a ≡ b
field_field e = cc

no_field : (o : Option TypeName) (p : Bool) (g : Signature) (v : Term) → ◌≡◌ {A = Target} (method o p g) (field v) → ⊥
no_field o p g v e = absurd (cc)

-- a field of the struct underneath, of a selector and a type
pub record IsFieldOf (T : Table) (s : Sel) (t v : Term) : Type 0 where
  pub it : Field
  pub stands : Has (fields_of (under T t)) it
  pub named : field_sel it ≡ s
  pub typed : field_type it ≡ v

module _ (T : Table) (s : Sel) (b : Bool) (t : Term) where
  of_field : (q : Bool) (v : Term) → Has (gather (field_ending s b) (fields_of (under T t))) (end_at q (field v)) → IsFieldOf T s t v × (b ≡ q)
  of_field q v i =
      let g = gather_of (field_ending s b) (fields_of (under T t)) (end_at q (field v)) i in
      let e = only_if (same_sel (out-Field g.0).sel s) (end_at b (field (out-Field g.0).term)) (end_at q (field v)) g.2 in
      (record { it = g.0; stands = g.1; named = sel_is (out-Field g.0).sel s e.0; typed = field_field (ap (λ (x : Ending). x.target) e.1) }, ap (λ (x : Ending). x.through) e.1)

  of_declared : (q : Bool) (v : Term) → Has (gather (declared_ending (name_of (out-Term t)) s b) (declared_methods T (out-Term t))) (end_at q (field v)) → ⊥
  of_declared q v i =
      let g = gather_of (declared_ending (name_of (out-Term t)) s b) (declared_methods T (out-Term t)) (end_at q (field v)) i in
      let e = only_if (same_sel (g.0).sel s) (end_at b (method (name_of (out-Term t)) (g.0).pointer (g.0).signature)) (end_at q (field v)) g.2 in
      no_field (name_of (out-Term t)) (g.0).pointer (g.0).signature v (ap (λ (x : Ending). x.target) e.1)

  of_method : (q : Bool) (v : Term) → Has (gather (method_ending s b) (methods_of (under T t))) (end_at q (field v)) → ⊥
  of_method q v i =
      let g = gather_of (method_ending s b) (methods_of (under T t)) (end_at q (field v)) i in
      let e = only_if (same_sel (out-Method g.0).sel s) (end_at b (method None false (out-Method g.0).signature)) (end_at q (field v)) g.2 in
      no_field None false (out-Method g.0).signature v (ap (λ (x : Ending). x.target) e.1)

  -- a field that is found at depth 0 stands in the struct, and the way to it is that to the struct
  pub top_field : (q : Bool) (v : Term) → IsOnly T s (at_spot b t) 0 (end_at q (field v)) → IsFieldOf T s t v × (b ≡ q)
  unfolding ends
  top_field q v o =
      let e = end_at q (field v) in
      let fs = gather (field_ending s b) (fields_of (under T t)) in
      let ds = gather (declared_ending (name_of (out-Term t)) s b) (declared_methods T (out-Term t)) in
      let ms = gather (method_ending s b) (methods_of (under T t)) in
      let k : Has ((fs ++ ds) ++ ms) e = subst (λ ys. Has ys e) (sym o.only) (inl refl) in
      either (has_split (fs ++ ds) ms e k) (λ j. either (has_split fs ds e j) (λ i. of_field q v i) (λ i. absurd (of_declared q v i))) (λ i. absurd (of_method q v i))

-- ---- fields that stand alone

stands_in : {A B : Type 0} (f : A → B) (xs : List A) (x : A) → Has xs x → Has (map f xs) (f x)
stands_in f [] x k = absurd k
stands_in f (y ∷ ys) x (inl e) = inl (ap f e)
stands_in f (y ∷ ys) x (inr k) = inr (stands_in f ys x k)

of_mapped : {A B : Type 0} (f : A → B) (xs : List A) (y : B) → Has (map f xs) y → (x : A) × Has xs x × (f x ≡ y)
of_mapped f [] y k = absurd k
of_mapped f (x ∷ xs) y (inl e) = (x, inl refl, e)
of_mapped f (x ∷ xs) y (inr k) = let g = of_mapped f xs y k in (g.0, inr g.1, g.2)

pub alone : (fs : List Field) (f : Field) → AreDistinct (map field_sel fs) → Has fs f → (IsBlank (field_sel f) → ⊥) → IsAlone fs f
alone [] f d k n = absurd k
alone (g ∷ fs) f d (inl e) n = record {
  before = [];
  after = fs;
  is = ap (λ x. x ∷ fs) e;
  none = λ h. n (subst (λ x. IsBlank (field_sel x)) e (d.0 (field_sel f) h (ap (λ x. (field_sel x).name) (sym e))));
}
alone (g ∷ fs) f d (inr k) n =
    let a = alone fs f d.1 k n in
    record {
      before = g ∷ a.before;
      after = a.after;
      is = ap (λ xs. g ∷ xs) a.is;
      none = λ h. either h (λ e. n (subst IsBlank e (d.0 (field_sel f) (stands_in field_sel fs f k) (ap (λ (x : Sel). x.name) (sym e))))) a.none;
    }

named_struct : (n : TypeName) (fs : List Field) → ◌≡◌ {A = Layer} (Term-F.Named n) (Term-F.Struct fs) → ⊥
named_struct n fs e = absurd (cc)

interface_struct : (fs : List Field) (ms : List _) → ◌≡◌ {A = Layer} (Term-F.Interface ms) (Term-F.Struct fs) → ⊥
interface_struct fs ms e = absurd (cc)

module _ (w : Packages) (i : IsWorld w) where
  abbrev T : Table
  T = types_of w

  record HasStruct (n : TypeName) (fs : List Field) : Type 0 where
    pub defined : Defined
    pub entered : entry T n ≡ Some defined
    pub told : table_of w.packages n ≡ Some defined
    pub level : out-Term defined.underlying ≡ Term-F.Struct fs

  no_error : (d : Defined) (fs : List Field) → error_type ≡ d → out-Term d.underlying ≡ Term-F.Struct fs → ⊥
  no_error d fs e u = interface_struct fs _ (sym (out-roll-Term _) ∙ subst (λ (x : Defined). out-Term x.underlying ≡ Term-F.Struct fs) (sym e) u)

  by_entry : (n : TypeName) (fs : List Field) (o : Option Defined) → entry T n ≡ o → under_entry n o ≡ Term-F.Struct fs → HasStruct n fs
  by_entry n fs None e u = absurd (named_struct n fs u)
  by_entry n fs (Some d) e u = either (entry_is w i (is_error n) n d refl e) (λ x. absurd (no_error d fs x u)) (λ x. record { defined = d; entered = e; told = x; level = u })

  no_method : (n : TypeName) (fs : List Field) (h : HasStruct n fs) (f : Field) → Has fs f → Has (map method_sel_of (declared_methods T (Term-F.Named n))) (sel_of f) → ⊥
  no_method n fs h f k j =
      let m = of_mapped method_sel_of h.defined.methods (sel_of f) (subst (λ o. Has (map method_sel_of (methods_of_entry o)) (sel_of f)) h.entered j) in
      (told w i n h.defined h.told).kept.apart m.0 f m.1 (subst (λ l. Has (fields_of l) f) (sym h.level) k) (ap (λ (x : Sel). x.name) (sym m.2))

  -- a field of a defined struct type, but for `_`, is found where it stands
  pub found_here : (t : Term) (n : TypeName) (fs : List Field) (f : Field) → out-Term t ≡ Term-F.Named n → under T t ≡ Term-F.Struct fs → Has fs f → (IsBlank (field_sel f) → ⊥) → (b : Bool) → (c : ℕ) × IsOnly T (field_sel f) (at_spot b t) c (end_at b (field (field_type f)))
  found_here t n fs f e u k blank b =
      let h = by_entry n fs (entry T n) refl (sym (ap (under_layer T) e) ∙ u) in
      let a = alone fs f (struct_sound h.defined.underlying fs (told w i n h.defined h.told).formed h.level) k blank in
      let g = field_found T (at_spot b t) fs f u a (λ j. no_method n fs h f k (subst (λ l. Has (map method_sel_of (declared_methods T l)) (sel_of f)) e j)) false in
      (g.0, g.1)
