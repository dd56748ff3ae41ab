-- What selectors find in the types of an owned pair.
use Rattle.std.proofs.Common.{◌≡◌, inl, ◌≤◌, true, false, List, refl, sym, ap, ◌∙◌, subst}
use Rattle.go_base.specs.Lists.{Has}
use Rattle.go_model.specs.declared.types.found.FieldFound.{FieldFound}
use Rattle.go_model.specs.declared.types.found.Found.TheVariants.{FieldAt}
use Rattle.go_model.specs.declared.types.names.Sel.{Sel}
use Rattle.go_model.specs.declared.types.term.Signature.{Signature}
use Rattle.go_model.specs.declared.types.term.Term.{Term, Term-F, out-Term, out-roll-Term}
use Rattle.go_model.specs.types.MethodSets.{InSet}
use Rattle.go_model.specs.types.Selectors.{Finds}
use Rattle.go_model.specs.types.Terms.{Layer, pointer_to}
use Rattle.go_model.specs.types.Underlying.{under}
use Rattle.go_model.specs.worlds.Worlds.{Packages}
use Rattle.go_type_images.specs.Images.{image_of_signature, same_sels}
use Rattle.go_type_images.specs.Parts.{function_type}
use Rattle.api_correspond.specs.Outermost.{pair}
use Rattle.api_correspond.specs.OwnedPairs.{have_members, receiver_layer, to_method, to_promoted_field, HoldsOwned}
use Rattle.go_type_images.specs.Levels.{interface_layer}
use Rattle.api_correspond.specs.Publics.{IsExported, types_of}
use Rattle.api_correspond.specs.Rules.{Compatible, have_method_sets, have_structs}
use Rattle.go_type_images.specs.declared.pair.TypePair.{TypePair}
use Rattle.go_type_images.proofs.ImageLevels.{image_roll}
use Rattle.api_type_images.proofs.Paired as P

func_func : {g h : Signature} → ◌≡◌ {A = Layer} (Term-F.Func g) (Term-F.Func h) → g ≡ h
func_func e = cc

module _ (old new : Packages) (pairs : List TypePair) (H : HoldsOwned old new pairs) (C : Compatible old new) where
  abbrev pub to : Term → Term
  to = P.to old new pairs H C

  abbrev pub signature_to : Signature → Signature
  signature_to = image_of_signature (P.renamed old new pairs H C) same_sels

  -- a field below the top level of a struct of an owned pair is found in the new struct, through a pointer where it was, and its type is the image
  pub promoted : (p : TypePair) → Has pairs p → have_members old new p ≡ true → have_structs old new p ≡ true → (s : Sel) (f : FieldFound) → IsExported s → Finds (types_of old) s p.old (FieldAt f) → 1 ≤ f.depth
      → (g : FieldFound) × Finds (types_of new) s p.new (FieldAt g) × (f.through_pointer ≡ true → g.through_pointer ≡ true) × Has pairs (pair f.term g.term) × (g.term ≡ to f.term)
  promoted p i m h s f x k d =
      let g = (P.keeps old new pairs H C p i).0.selectable s f (record { structs = h; exported = x; found = k; deep = d }) in
      let o = H.followed p (pair f.term g.0.term) i (to_promoted_field s f g.0 m x k d g.1) in
      (g.0, g.1, g.2, o, P.paired old new pairs H C (pair f.term g.0.term) o)

  -- functions of an owned pair have the image as signature
  pub signatures : (g h : Signature) → Has pairs (pair (function_type g) (function_type h)) → h ≡ signature_to g
  signatures g h i = func_func (sym (out-roll-Term (Term-F.Func h)) ∙ ap out-Term (P.paired old new pairs H C (pair (function_type g) (function_type h)) i ∙ image_roll (P.renamed old new pairs H C) same_sels (Term-F.Func g)) ∙ out-roll-Term _)

  pub receiver_is : (t : Term) (l : Layer) → interface_layer l ≡ false → receiver_layer t l ≡ pointer_to t
  receiver_is t (Term-F.Interface ms) e = absurd (cc)
  receiver_is t (Term-F.Plain b) e = refl
  receiver_is t (Term-F.Named n) e = refl
  receiver_is t (Term-F.Pointer u) e = refl
  receiver_is t (Term-F.Slice u) e = refl
  receiver_is t (Term-F.Array n u) e = refl
  receiver_is t (Term-F.Map k u) e = refl
  receiver_is t (Term-F.Chan d u) e = refl
  receiver_is t (Term-F.Func g) e = refl
  receiver_is t (Term-F.Struct fs) e = refl

  -- a method in the set of the pointer is in that of the new pointer, with the image as signature, and the function types are a pair
  pub pointer_method : (p : TypePair) → Has pairs p → have_members old new p ≡ true → have_method_sets old new p ≡ true → interface_layer (under (types_of old) p.old) ≡ false → interface_layer (under (types_of new) p.new) ≡ false
      → (s : Sel) (g : Signature) → IsExported s → InSet (types_of old) (pointer_to p.old) s g → InSet (types_of new) (pointer_to p.new) s (signature_to g) × Has pairs (pair (function_type g) (function_type (signature_to g)))
  pointer_method p i m h a b s g x k =
      let n = (P.keeps old new pairs H C p i).0.pointer_sets s g (record { sets = h; counts = inl x; there = k }) in
      let o = H.followed p (pair (function_type g) (function_type n.0)) i (to_method s g n.0 m x (subst (λ t. InSet (types_of old) t s g) (sym (receiver_is p.old (under (types_of old) p.old) a)) k) (subst (λ t. InSet (types_of new) t s n.0) (sym (receiver_is p.new (under (types_of new) p.new) b)) n.1)) in
      let e = signatures g n.0 o in
      (subst (λ y. InSet (types_of new) (pointer_to p.new) s y) e n.1, subst (λ y. Has pairs (pair (function_type g) (function_type y))) e o)

  pub in_pointer_set : (p : TypePair) → Has pairs p → have_members old new p ≡ true → have_method_sets old new p ≡ true → interface_layer (under (types_of old) p.old) ≡ false → interface_layer (under (types_of new) p.new) ≡ false
      → (s : Sel) (g : Signature) → IsExported s → InSet (types_of old) (pointer_to p.old) s g → InSet (types_of new) (pointer_to p.new) s (signature_to g)
  in_pointer_set p i m h a b s g x k = (pointer_method p i m h a b s g x k).0
