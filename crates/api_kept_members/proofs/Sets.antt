-- The method set of a type is in that of its pointer, and those of an owned pair are kept.
use Rattle.std.proofs.Common.{◌≡◌, inl, inr, true, false, refl, sym, ap, ◌∙◌, subst}
use Rattle.go_base.specs.Lists.{Has}
use Rattle.std.specs.Prelude.{List}
use Rattle.go_model.specs.declared.types.names.Sel.{Sel}
use Rattle.go_model.specs.declared.types.term.Signature.{Signature}
use Rattle.go_model.specs.declared.types.term.Term.{Term, Term-F, out-Term, out-roll-Term}
use Rattle.go_model.specs.types.MethodSets.{InSet}
use Rattle.go_model.specs.types.Selectors.{IsOnly, Spot, is_defined_layer, is_defined_pointer, is_pointer_layer, method, start, start_layer, start_named, start_pointer}
use Rattle.go_model.specs.types.Tables.{Table}
use Rattle.go_model.specs.types.Terms.{Layer, pointer_to}
use Rattle.go_model.specs.types.Underlying.{under}
use Rattle.go_model.specs.worlds.Worlds.{Packages}
use Rattle.go_type_images.specs.Parts.{function_type}
use Rattle.api_correspond.specs.Outermost.{pair}
use Rattle.api_correspond.specs.OwnedPairs.{have_members, to_method, HoldsOwned}
use Rattle.api_correspond.specs.Publics.{IsExported, types_of}
use Rattle.api_correspond.specs.Rules.{Compatible, have_method_sets}
use Rattle.go_type_images.specs.declared.pair.TypePair.{TypePair}
use Rattle.go_type_images.specs.Levels.{interface_layer}
use Rattle.go_type_images.specs.SpotImages.{at_spot}
use Rattle.api_kept_members.proofs.Members as M
use Rattle.api_type_images.proofs.Paired as P
use Rattle.go_type_images.proofs.Through.{only_behind}

-- neither a pointer nor an interface
pub record IsSearched (l : Layer) : Type 0 where
  pub no_pointer : is_pointer_layer l ≡ false
  pub no_interface : interface_layer l ≡ false

behind_pointer : (t base : Term) (l : Layer) → IsSearched l → start_pointer t base l ≡ at_spot true base
behind_pointer t base (Term-F.Pointer u) h = let e = h.no_pointer in absurd (cc)
behind_pointer t base (Term-F.Interface ms) h = let e = h.no_interface in absurd (cc)
behind_pointer t base (Term-F.Plain b) h = refl
behind_pointer t base (Term-F.Named n) h = refl
behind_pointer t base (Term-F.Slice u) h = refl
behind_pointer t base (Term-F.Array n u) h = refl
behind_pointer t base (Term-F.Map k u) h = refl
behind_pointer t base (Term-F.Chan d u) h = refl
behind_pointer t base (Term-F.Func g) h = refl
behind_pointer t base (Term-F.Struct fs) h = refl

at_name : (t : Term) (l : Layer) → is_pointer_layer l ≡ false → start_named t l ≡ at_spot false t
at_name t (Term-F.Pointer u) e = absurd (cc)
at_name t (Term-F.Plain b) e = refl
at_name t (Term-F.Named n) e = refl
at_name t (Term-F.Slice u) e = refl
at_name t (Term-F.Array n u) e = refl
at_name t (Term-F.Map k u) e = refl
at_name t (Term-F.Chan d u) e = refl
at_name t (Term-F.Func g) e = refl
at_name t (Term-F.Struct fs) e = refl
at_name t (Term-F.Interface ms) e = refl

module _ (T : Table) where
  at_layer : (t : Term) (l : Layer) → is_pointer_layer l ≡ false → is_pointer_layer (under T t) ≡ false → start_layer T t l ≡ at_spot false t
  at_layer t (Term-F.Pointer u) e h = absurd (cc)
  at_layer t (Term-F.Named n) e h = at_name t (under T t) h
  at_layer t (Term-F.Plain b) e h = refl
  at_layer t (Term-F.Slice u) e h = refl
  at_layer t (Term-F.Array n u) e h = refl
  at_layer t (Term-F.Map k u) e h = refl
  at_layer t (Term-F.Chan d u) e h = refl
  at_layer t (Term-F.Func g) e h = refl
  at_layer t (Term-F.Struct fs) e h = refl
  at_layer t (Term-F.Interface ms) e h = refl

  -- a search begins at the type itself
  pub begins_here : (t : Term) → is_pointer_layer (out-Term t) ≡ false → is_pointer_layer (under T t) ≡ false → start T t ≡ at_spot false t
  begins_here t e h = at_layer t (out-Term t) e h

  pub begins_behind : (t : Term) → IsSearched (under T t) → start T (pointer_to t) ≡ at_spot true t
  begins_behind t h = ap (start_layer T (pointer_to t)) (out-roll-Term (Term-F.Pointer t)) ∙ behind_pointer (pointer_to t) t (under T t) h

  pub counts_behind : (t : Term) → is_defined_pointer T (pointer_to t) ≡ false
  counts_behind t = ap (λ l. is_defined_layer l (under T (pointer_to t))) (out-roll-Term (Term-F.Pointer t))

  pub in_pointers : (t : Term) (s : Sel) (g : Signature) → start T t ≡ at_spot false t → IsSearched (under T t) → InSet T t s g → InSet T (pointer_to t) s g
  in_pointers t s g b h i = record {
    depth = i.depth;
    through = true;
    owner = i.owner;
    pointer = i.pointer;
    only = subst (λ (x : Spot). IsOnly T s x i.depth (record { through = true; target = method i.owner i.pointer g })) (sym (begins_behind t h)) (only_behind T s true t i.depth (record { through = i.through; target = method i.owner i.pointer g }) (subst (λ (x : Spot). IsOnly T s x i.depth (record { through = i.through; target = method i.owner i.pointer g })) b i.only));
    counts = counts_behind t;
    reaches = inr refl;
  }

module _ (old new : Packages) (pairs : List TypePair) (H : HoldsOwned old new pairs) (C : Compatible old new) where
  -- a method in the set of the type is in that of the new type, with the image as signature
  pub in_set : (p : TypePair) → Has pairs p → have_members old new p ≡ true → have_method_sets old new p ≡ true
      → start (types_of old) p.old ≡ at_spot false p.old → IsSearched (under (types_of old) p.old) → start (types_of new) p.new ≡ at_spot false p.new → IsSearched (under (types_of new) p.new)
      → (s : Sel) (g : Signature) → IsExported s → InSet (types_of old) p.old s g → InSet (types_of new) p.new s (M.signature_to old new pairs H C g)
  in_set p i m h a b c d s g x k =
      let n = (P.keeps old new pairs H C p i).0.method_sets s g (record { sets = h; counts = inl x; there = k }) in
      let o = H.followed p (pair (function_type g) (function_type n.0)) i (to_method s g n.0 m x
      (subst (λ t. InSet (types_of old) t s g) (sym (M.receiver_is old new pairs H C p.old (under (types_of old) p.old) b.no_interface)) (in_pointers (types_of old) p.old s g a b k))
      (subst (λ t. InSet (types_of new) t s n.0) (sym (M.receiver_is old new pairs H C p.new (under (types_of new) p.new) d.no_interface)) (in_pointers (types_of new) p.new s n.0 c d n.1))) in
      subst (λ y. InSet (types_of new) p.new s y) (M.signatures old new pairs H C g n.0 o) n.1
