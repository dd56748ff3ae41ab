-- Where a search for methods begins in the types of a pair whose method sets are compared, so that these are kept.
use Rattle.std.proofs.Common.{◌≡◌, ◌⊎◌, inl, inr, Bool, true, false, ◌&&◌, ◌||◌, List, refl, ap, ◌∙◌, subst}
use Rattle.std.specs.Prelude.{not}
use Rattle.go_base.specs.Lists.{Has}
use Rattle.go_model.specs.declared.types.names.Sel.{Sel}
use Rattle.go_model.specs.declared.types.names.TypeName.{TypeName}
use Rattle.go_model.specs.declared.types.term.Field.{Field}
use Rattle.go_model.specs.declared.types.term.Signature.{Signature}
use Rattle.go_model.specs.declared.types.term.Term.{Term, Term-F, out-Term}
use Rattle.go_model.specs.types.MethodSets.{InSet}
use Rattle.go_model.specs.types.Selectors.{is_defined_layer, is_defined_pointer, is_pointer_layer, start}
use Rattle.go_model.specs.types.Tables.{Table}
use Rattle.go_model.specs.types.Terms.{Layer, pointer_to}
use Rattle.go_model.specs.types.Underlying.{under, under_layer}
use Rattle.go_model.specs.worlds.Worlds.{IsWorld, Packages}
use Rattle.go_type_images.specs.Images.{Naming, image_of_layer, same_sels}
use Rattle.go_type_images.specs.Levels.{interface_layer, struct_layer}
use Rattle.go_type_images.specs.SpotImages.{at_spot}
use Rattle.go_type_images.specs.declared.pair.TypePair.{TypePair}
use Rattle.api_correspond.specs.OwnedPairs.{HoldsOwned, are_of_module, are_structs, have_members}
use Rattle.api_correspond.specs.Publics.{IsExported, is_of_module, types_of}
use Rattle.api_correspond.specs.Rules.{Compatible, have_method_sets}
use Rattle.api_kept_members.specs.KeptLevels.{Kept, kept_image, kept_interface, kept_struct}
use Rattle.api_kept_members.proofs.Alternatives.{either}
use Rattle.api_kept_members.proofs.Kept as K
use Rattle.api_kept_members.proofs.Members as M
use Rattle.api_kept_members.proofs.Sets.{IsSearched, begins_here, in_set}
use Rattle.api_kept_members.proofs.Underneath.{and_both, fields_is, or_either}

not_true : (b : Bool) → not b ≡ true → b ≡ false
not_true true e = absurd (cc)
not_true false e = refl

no_struct_pointer : (l : Layer) (fs : List Field) → l ≡ Term-F.Struct fs → is_pointer_layer l ≡ false
no_struct_pointer l fs e = ap is_pointer_layer e

no_struct_interface : (l : Layer) (fs : List Field) → l ≡ Term-F.Struct fs → interface_layer l ≡ false
no_struct_interface l fs e = ap interface_layer e

-- a defined type with methods has no pointer underneath
no_pointer : (n : TypeName) (l : Layer) → is_defined_layer (Term-F.Named n) l ≡ false → is_pointer_layer l ≡ false
no_pointer n (Term-F.Pointer b) e = absurd (cc)
no_pointer n (Term-F.Plain b) e = refl
no_pointer n (Term-F.Named m) e = refl
no_pointer n (Term-F.Slice b) e = refl
no_pointer n (Term-F.Array k b) e = refl
no_pointer n (Term-F.Map k b) e = refl
no_pointer n (Term-F.Chan d b) e = refl
no_pointer n (Term-F.Func g) e = refl
no_pointer n (Term-F.Struct fs) e = refl
no_pointer n (Term-F.Interface ms) e = refl

pointer_image : (r : Naming) (l : Layer) → is_pointer_layer (image_of_layer r same_sels l) ≡ is_pointer_layer l
pointer_image r (Term-F.Pointer b) = refl
pointer_image r (Term-F.Plain b) = refl
pointer_image r (Term-F.Named m) = refl
pointer_image r (Term-F.Slice b) = refl
pointer_image r (Term-F.Array k b) = refl
pointer_image r (Term-F.Map k b) = refl
pointer_image r (Term-F.Chan d b) = refl
pointer_image r (Term-F.Func g) = refl
pointer_image r (Term-F.Struct fs) = refl
pointer_image r (Term-F.Interface ms) = refl

kept_pointer : {r : Naming} {pairs : List TypePair} (k l : Layer) → Kept r pairs k l → is_pointer_layer k ≡ false → is_pointer_layer l ≡ false
kept_pointer k l (kept_struct e f) n = ap is_pointer_layer f
kept_pointer k l (kept_interface e f) n = ap is_pointer_layer f
kept_pointer {r = r} k l (kept_image s f h) n = ap is_pointer_layer f ∙ pointer_image r k ∙ n

-- a search begins at the type itself, which is neither a pointer nor an interface underneath
pub record BeginsHere (T : Table) (t : Term) : Type 0 where
  pub at : start T t ≡ at_spot false t
  pub searched : IsSearched (under T t)

struct_begins : (T : Table) (t : Term) → struct_layer (out-Term t) ≡ true → BeginsHere T t
struct_begins T t e =
    let f = fields_is (out-Term t) e in
    let u : under T t ≡ Term-F.Struct f.0 = ap (under_layer T) f.1 in
    record {
      at = begins_here T t (no_struct_pointer (out-Term t) f.0 f.1) (no_struct_pointer (under T t) f.0 u);
      searched = record { no_pointer = no_struct_pointer (under T t) f.0 u; no_interface = no_struct_interface (under T t) f.0 u };
    }

name_begins : (T : Table) (t : Term) (n : TypeName) → out-Term t ≡ Term-F.Named n → interface_layer (under T t) ≡ false → is_pointer_layer (under T t) ≡ false → BeginsHere T t
name_begins T t n e i p = record { at = begins_here T t (ap is_pointer_layer e) p; searched = record { no_pointer = p; no_interface = i } }

module _ (old new : Packages) (pairs : List TypePair) (H : HoldsOwned old new pairs) (C : Compatible old new) where
  abbrev T : Table
  T = types_of old

  abbrev U : Table
  U = types_of new

  -- of the module, and no interfaces
  pub record ArePlain (p : TypePair) : Type 0 where
    pub of_module : are_of_module old new p ≡ true
    pub before : interface_layer (under T p.old) ≡ false
    pub after : interface_layer (under U p.new) ≡ false

  sides : (p : TypePair) → have_method_sets old new p ≡ true → ArePlain p ⊎ (are_structs p ≡ true)
  sides p h = either (or_either (are_of_module old new p && not (interface_layer (under T p.old)) && not (interface_layer (under U p.new))) (are_structs p) h) (λ a. inl (plain a)) (λ a. inr a)
    where
      plain : (are_of_module old new p && not (interface_layer (under T p.old)) && not (interface_layer (under U p.new))) ≡ true → ArePlain p
      plain a =
          let b = and_both (are_of_module old new p && not (interface_layer (under T p.old))) (not (interface_layer (under U p.new))) a in
          let c = and_both (are_of_module old new p) (not (interface_layer (under T p.old))) b.0 in
          record { of_module = c.0; before = not_true (interface_layer (under T p.old)) c.1; after = not_true (interface_layer (under U p.new)) b.1 }

  pub members : (p : TypePair) → have_method_sets old new p ≡ true → have_members old new p ≡ true
  members p h = either (sides p h) (λ a. ap (λ b. b || are_structs p) a.of_module) (λ a. by (are_of_module old new p) a)
    where
      by : (b : Bool) → are_structs p ≡ true → (b || are_structs p) ≡ true
      by true e = refl
      by false e = e

  pub no_interfaces : (p : TypePair) → have_method_sets old new p ≡ true → (interface_layer (under T p.old) ≡ false) × (interface_layer (under U p.new) ≡ false)
  no_interfaces p h = either (sides p h) (λ a. (a.before, a.after)) (λ a. let b = and_both (struct_layer (out-Term p.old)) (struct_layer (out-Term p.new)) a in ((struct_begins T p.old b.0).searched.no_interface, (struct_begins U p.new b.1).searched.no_interface))

  -- a method in the set of the pointer is in that of the new pointer, with the image as signature
  pub pointer_set : (p : TypePair) → Has pairs p → have_method_sets old new p ≡ true → (s : Sel) (g : Signature) → IsExported s → InSet T (pointer_to p.old) s g → InSet U (pointer_to p.new) s (M.signature_to old new pairs H C g)
  pointer_set p k h s g x i = let n = no_interfaces p h in M.in_pointer_set old new pairs H C p k (members p h) h n.0 n.1 s g x i

  module _ (i : IsWorld old) (j : IsWorld new) where
    plain_begins : (p : TypePair) → Has pairs p → ArePlain p → is_defined_pointer T p.old ≡ false → BeginsHere T p.old × BeginsHere U p.new
    plain_begins p k a d =
        let m = and_both (is_of_module old p.old) (is_of_module new p.new) a.of_module in
        let n = K.module_name old (out-Term p.old) m.0 in
        let o = K.module_name new (out-Term p.new) m.1 in
        let q = no_pointer n.0 (under T p.old) (subst (λ l. is_defined_layer l (under T p.old) ≡ false) n.1 d) in
        (name_begins T p.old n.0 n.1 a.before q, name_begins U p.new o.0 o.1 a.after (kept_pointer (under T p.old) (under U p.new) (K.beneath old new pairs H C i j p k a.of_module) q))

    pub begins : (p : TypePair) → Has pairs p → have_method_sets old new p ≡ true → is_defined_pointer T p.old ≡ false → BeginsHere T p.old × BeginsHere U p.new
    begins p k h d = either (sides p h) (λ a. plain_begins p k a d) (λ a. let b = and_both (struct_layer (out-Term p.old)) (struct_layer (out-Term p.new)) a in (struct_begins T p.old b.0, struct_begins U p.new b.1))

    -- a method in the set is in the new set, with the image as signature
    pub method_set : (p : TypePair) → Has pairs p → have_method_sets old new p ≡ true → (s : Sel) (g : Signature) → IsExported s → InSet T p.old s g → InSet U p.new s (M.signature_to old new pairs H C g)
    method_set p k h s g x a = let b = begins p k h a.counts in in_set old new pairs H C p k (members p h) h b.0.at b.0.searched b.1.at b.1.searched s g x a
