-- Fields that selectors find from the structs of an owned pair, at any depth.
use Rattle.std.proofs.Common.{◌≡◌, ℕ, zero, suc, ◌≤◌, Bool, true, false, ◌||◌, List, map, refl, sym, ap, ◌∙◌, subst, arith}
use Rattle.go_base.specs.Lists.{Has}
use Rattle.go_model.specs.declared.types.found.FieldFound.{FieldFound}
use Rattle.go_model.specs.declared.types.found.Found.TheVariants.{FieldAt}
use Rattle.go_model.specs.declared.types.names.Sel.{Sel}
use Rattle.go_model.specs.declared.types.term.Field.{Field}
use Rattle.go_model.specs.declared.types.term.Term.{Term, Term-F, out-Term}
use Rattle.go_model.specs.types.Members.{field_sel}
use Rattle.go_model.specs.types.Selectors.{Ending, Finds, IsOnly, Spot, bounded_depth, ends, field, is_pointer_layer, name_of, start}
use Rattle.go_model.specs.types.Tables.{Table}
use Rattle.go_model.specs.types.Terms.{IsBlank, Layer}
use Rattle.go_model.specs.types.Underlying.{declared_methods, fields_of, under, under_layer}
use Rattle.go_model.specs.worlds.Worlds.{IsWorld, Packages}
use Rattle.go_type_images.specs.EntryImages.{method_to}
use Rattle.go_type_images.specs.Images.{Naming, image, image_of_layer, same_sels}
use Rattle.go_type_images.specs.Levels.{struct_layer}
use Rattle.go_type_images.specs.Parts.{field_type}
use Rattle.go_type_images.specs.SpotImages.{at_spot, ending_to}
use Rattle.go_type_images.specs.declared.pair.TypePair.{TypePair}
use Rattle.go_type_images.proofs.ImageLevels.{out_image}
use Rattle.go_type_images.proofs.LevelEnds.{here}
use Rattle.go_type_images.proofs.Through.{only_before, only_behind}
use Rattle.api_correspond.specs.Outermost.{pair}
use Rattle.api_correspond.specs.OwnedPairs.{HoldsOwned, are_of_module, are_structs, have_members}
use Rattle.api_correspond.specs.Publics.{IsExported, is_of_module, types_of}
use Rattle.api_correspond.specs.Rules.{Compatible, have_structs}
use Rattle.api_type_images.proofs.Paired as P
use Rattle.api_kept_members.specs.KeptFinds.{FindsField, end_at}
use Rattle.api_kept_members.proofs.Kept as K
use Rattle.api_kept_members.proofs.Members as M
use Rattle.api_kept_members.proofs.Sets.{begins_here}
use Rattle.api_kept_members.proofs.TopFields.{found_here, top_field}
use Rattle.api_kept_members.proofs.Underneath.{and_both, fields_is}

-- ---- where a search in a struct begins

pointer_struct : (b : Term) (fs : List Field) → ◌≡◌ {A = Layer} (Term-F.Pointer b) (Term-F.Struct fs) → ⊥
pointer_struct b fs e = absurd (cc)

no_pointer : (T : Table) (l : Layer) (fs : List Field) → under_layer T l ≡ Term-F.Struct fs → is_pointer_layer l ≡ false
no_pointer T (Term-F.Pointer b) fs e = absurd (pointer_struct b fs e)
no_pointer T (Term-F.Plain b) fs e = refl
no_pointer T (Term-F.Named m) fs e = refl
no_pointer T (Term-F.Slice b) fs e = refl
no_pointer T (Term-F.Array k b) fs e = refl
no_pointer T (Term-F.Map k b) fs e = refl
no_pointer T (Term-F.Chan d b) fs e = refl
no_pointer T (Term-F.Func g) fs e = refl
no_pointer T (Term-F.Struct gs) fs e = refl
no_pointer T (Term-F.Interface ms) fs e = refl

struct_start : (T : Table) (t : Term) → struct_layer (under T t) ≡ true → start T t ≡ at_spot false t
struct_start T t h = let f = fields_is (under T t) h in begins_here T t (no_pointer T (out-Term t) f.0 f.1) (ap is_pointer_layer f.1)

-- ---- structs that aren't defined types

struct_ends : (T U : Table) (r : Naming) (s : Sel) (b : Bool) (t : Term) → struct_layer (out-Term t) ≡ true → ends U s 0 (at_spot b (image r same_sels t)) ≡ map (ending_to r) (ends T s 0 (at_spot b t))
struct_ends T U r s b t h =
    let f = fields_is (out-Term t) h in
    let e : out-Term (image r same_sels t) ≡ image_of_layer r same_sels (Term-F.Struct f.0) = out_image r same_sels t ∙ ap (image_of_layer r same_sels) f.1 in
    here r s T U b t
    (ap (under_layer U) e ∙ sym (ap (λ l. image_of_layer r same_sels (under_layer T l)) f.1))
    (ap (declared_methods U) e ∙ sym (ap (λ l. map (method_to r) (declared_methods T l)) f.1))
    (ap name_of e ∙ sym (ap name_of f.1))

at_least_one : (d : ℕ) → 1 ≤ bounded_depth (suc d)
at_least_one d = omega arith

or_true : (b : Bool) → (b || true) ≡ true
or_true true = refl
or_true false = refl

still_through : (b q k x : Bool) → (b || q) ≡ x → (q ≡ true → k ≡ true) → x ≡ true → (b || k) ≡ true
still_through true q k x e h t = refl
still_through false q k x e h t = h (e ∙ t)

module _ (old new : Packages) (pairs : List TypePair) (H : HoldsOwned old new pairs) (C : Compatible old new) (i : IsWorld old) (j : IsWorld new) where
  abbrev T : Table
  T = types_of old

  abbrev U : Table
  U = types_of new

  abbrev to : Term → Term
  to = P.to old new pairs H C

  -- what is found from the type itself
  abbrev Found : TypePair → Sel → Bool → Term → Type 0
  Found p s q v = (c : ℕ) × (k : Bool) × IsOnly U s (at_spot false p.new) c (end_at k (field (to v))) × (q ≡ true → k ≡ true) × Has pairs (pair v (to v))

  module _ (p : TypePair) (k : Has pairs p) (m : have_members old new p ≡ true) (h : have_structs old new p ≡ true) (s : Sel) (x : IsExported s) (blank : IsBlank s → ⊥) where
    after : struct_layer (under U p.new) ≡ true
    after = (and_both (struct_layer (under T p.old)) (struct_layer (under U p.new)) h).1

    -- at depth 0, in a struct type of the module
    top_of_module : are_of_module old new p ≡ true → (q : Bool) (v : Term) → IsOnly T s (at_spot false p.old) 0 (end_at q (field v)) → Found p s q v
    top_of_module a q v o =
        let f = top_field T s false p.old q v o in
        let g = K.field_kept old new pairs H C i j p k m h f.0.it f.0.stands (subst IsExported (sym f.0.named) x) in
        let n = K.module_name new (out-Term p.new) (and_both (is_of_module old p.old) (is_of_module new p.new) a).1 in
        let l = fields_is (under U p.new) after in
        let e : field_sel g.0 ≡ s = g.2 ∙ f.0.named in
        let d = found_here new j p.new n.0 l.0 g.0 n.1 l.1 (subst (λ y. Has (fields_of y) g.0) l.1 g.1) (λ y. blank (subst IsBlank e y)) false in
        let t : field_type g.0 ≡ to v = g.3 ∙ ap to f.0.typed in
        let own : Has pairs (pair v (to v)) = subst (λ u. Has pairs (pair u (to v))) f.0.typed (subst (λ u. Has pairs (pair (field_type f.0.it) u)) t g.4) in
        (d.0, false, subst (λ y. IsOnly U s (at_spot false p.new) d.0 (end_at false (field y))) t (subst (λ y. IsOnly U y (at_spot false p.new) d.0 (end_at false (field (field_type g.0)))) e d.1), (λ z. f.1 ∙ z), own)

    -- in one that isn't defined
    top_of_struct : are_structs p ≡ true → (q : Bool) (v : Term) → IsOnly T s (at_spot false p.old) 0 (end_at q (field v)) → Found p s q v
    top_of_struct a q v o =
        let f = top_field T s false p.old q v o in
        let g = K.field_kept old new pairs H C i j p k m h f.0.it f.0.stands (subst IsExported (sym f.0.named) x) in
        let t : field_type g.0 ≡ to v = g.3 ∙ ap to f.0.typed in
        let own : Has pairs (pair v (to v)) = subst (λ u. Has pairs (pair u (to v))) f.0.typed (subst (λ u. Has pairs (pair (field_type f.0.it) u)) t g.4) in
        let e = struct_ends T U (P.renamed old new pairs H C) s false p.old (and_both (struct_layer (out-Term p.old)) (struct_layer (out-Term p.new)) a).0 in
        let one : IsOnly U s (at_spot false (to p.old)) 0 (end_at q (field (to v))) = record { none = λ c l. absurd (omega (arith, l)); only = e ∙ ap (map (ending_to (P.renamed old new pairs H C))) o.only } in
        (0, q, subst (λ u. IsOnly U s (at_spot false u) 0 (end_at q (field (to v)))) (sym (P.paired old new pairs H C p k)) one, (λ z. z), own)

    top : (q : Bool) (v : Term) → IsOnly T s (at_spot false p.old) 0 (end_at q (field v)) → Found p s q v
    top q v o = by (are_of_module old new p) refl
      where
        by : (b : Bool) → are_of_module old new p ≡ b → Found p s q v
        by true e = top_of_module e q v o
        by false e = top_of_struct (sym (ap (λ c. c || are_structs p) e) ∙ m) q v o

    -- below
    deep : (d : ℕ) (q : Bool) (v : Term) → IsOnly T s (at_spot false p.old) (suc d) (end_at q (field v)) → Found p s q v
    deep d q v o =
        let f : FieldFound = record { term = v; through_pointer = q; depth = bounded_depth (suc d) } in
        let b = struct_start T p.old (and_both (struct_layer (under T p.old)) (struct_layer (under U p.new)) h).0 in
        let finds : Finds T s p.old (FieldAt f) = (suc d, subst (λ (y : Spot). IsOnly T s y (suc d) (end_at q (field v))) (sym b) o, refl) in
        let g = M.promoted old new pairs H C p k m h s f x finds (at_least_one d) in
        let one = subst (λ (y : Spot). IsOnly U s y g.1.0 (end_at (g.0).through_pointer (field (g.0).term))) (struct_start U p.new after) g.1.1 in
        (g.1.0, (g.0).through_pointer, subst (λ u. IsOnly U s (at_spot false p.new) g.1.0 (end_at (g.0).through_pointer (field u))) g.4 one, g.2, subst (λ u. Has pairs (pair v u)) g.4 g.3)

    at_depth : (d : ℕ) (q : Bool) (v : Term) → IsOnly T s (at_spot false p.old) d (end_at q (field v)) → Found p s q v
    at_depth zero q v o = top q v o
    at_depth (suc d) q v o = deep d q v o

    -- the field is found from the new type, through a pointer where it was
    pub found_field : (b q : Bool) (d : ℕ) (v : Term) → IsOnly T s (at_spot b p.old) d (end_at q (field v)) → FindsField new pairs s b p.new q v
    found_field b q d v o =
        let f = only_before T s b p.old d (end_at q (field v)) o in
        let target : (f.0).target ≡ field v = ap (λ (y : Ending). y.target) f.2 in
        let through : (b || (f.0).through) ≡ q = ap (λ (y : Ending). y.through) f.2 in
        let g = at_depth d (f.0).through v (subst (λ y. IsOnly T s (at_spot false p.old) d (end_at (f.0).through y)) target f.1) in
        (g.0, b || g.1, only_behind U s b p.new g.0 (end_at g.1 (field (to v))) g.2, still_through b (f.0).through g.1 q through g.3, g.4)
