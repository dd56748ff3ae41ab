-- What is underneath the types of an owned pair.
use Rattle.std.proofs.Common.{◌≡◌, ◌⊎◌, inl, inr, Bool, true, false, List, refl, sym, ap, ◌∙◌, ◌&&◌, ◌||◌}
use Rattle.go_base.specs.Lists.{Has}
use Rattle.go_model.specs.declared.types.names.TypeName.{TypeName}
use Rattle.go_model.specs.declared.types.term.Field.{Field}
use Rattle.go_model.specs.declared.types.term.Method.{Method}
use Rattle.go_model.specs.declared.types.term.Term.{Term-F, out-Term}
use Rattle.go_model.specs.types.Terms.{Layer}
use Rattle.go_model.specs.types.Underlying.{under}
use Rattle.go_model.specs.worlds.Worlds.{Packages}
use Rattle.go_type_images.specs.Images.{Naming, image_of_layer, same_sels}
use Rattle.api_correspond.specs.Outermost.{SameOutermost, Outermost, interface, outermost, side_by_side, structure}
use Rattle.go_type_images.specs.Parts.{parts}
use Rattle.api_correspond.specs.OwnedPairs.{are_of_module, to_part, to_part_underneath, HoldsOwned}
use Rattle.go_type_images.specs.Levels.{interface_layer, is_structured, struct_layer}
use Rattle.api_correspond.specs.Publics.{of_module, package_at, types_of}
use Rattle.api_correspond.specs.Rules.{Compatible}
use Rattle.go_type_images.specs.declared.pair.TypePair.{TypePair}
use Rattle.api_kept_members.specs.KeptLevels.{Kept, kept_image, kept_interface, kept_struct}
use Rattle.api_kept_members.proofs.Alternatives.{either}
use Rattle.api_type_images.proofs.Paired as P
use Rattle.api_type_images.proofs.Rebuilt.{head, level_image}
use Rattle.go_type_images.proofs.ImageLevels.{is_name}

pub fields_is : (l : Layer) → struct_layer l ≡ true → (fs : List Field) × (l ≡ Term-F.Struct fs)
fields_is (Term-F.Struct fs) e = (fs, refl)
fields_is (Term-F.Plain b) e = absurd (cc)
fields_is (Term-F.Named n) e = absurd (cc)
fields_is (Term-F.Pointer t) e = absurd (cc)
fields_is (Term-F.Slice t) e = absurd (cc)
fields_is (Term-F.Array n t) e = absurd (cc)
fields_is (Term-F.Map k t) e = absurd (cc)
fields_is (Term-F.Chan d t) e = absurd (cc)
fields_is (Term-F.Func g) e = absurd (cc)
fields_is (Term-F.Interface ms) e = absurd (cc)

pub methods_is : (l : Layer) → interface_layer l ≡ true → (ms : List Method) × (l ≡ Term-F.Interface ms)
methods_is (Term-F.Interface ms) e = (ms, refl)
methods_is (Term-F.Plain b) e = absurd (cc)
methods_is (Term-F.Named n) e = absurd (cc)
methods_is (Term-F.Pointer t) e = absurd (cc)
methods_is (Term-F.Slice t) e = absurd (cc)
methods_is (Term-F.Array n t) e = absurd (cc)
methods_is (Term-F.Map k t) e = absurd (cc)
methods_is (Term-F.Chan d t) e = absurd (cc)
methods_is (Term-F.Func g) e = absurd (cc)
methods_is (Term-F.Struct fs) e = absurd (cc)

pub and_both : (a b : Bool) → (a && b) ≡ true → (a ≡ true) × (b ≡ true)
and_both true b e = (refl, e)
and_both false b e = absurd (cc)

pub or_either : (a b : Bool) → (a || b) ≡ true → (a ≡ true) ⊎ (b ≡ true)
or_either true b e = inl refl
or_either false b e = inr e

same_form : {r : Naming} {pairs : List TypePair} (k l : Layer) → ((struct_layer k && struct_layer l) || (interface_layer k && interface_layer l)) ≡ true → Kept r pairs k l
same_form k l e = either (or_either (struct_layer k && struct_layer l) (interface_layer k && interface_layer l) e)
    (λ s. let a = and_both (struct_layer k) (struct_layer l) s in kept_struct (fields_is k a.0).1 (fields_is l a.1).1)
    (λ s. let a = and_both (interface_layer k) (interface_layer l) s in kept_interface (methods_is k a.0).1 (methods_is l a.1).1)

-- a level that matches a struct is a struct, and one that matches an interface an interface
abbrev is_struct_head : Outermost → Bool
is_struct_head (structure hs) = true
is_struct_head o = false

abbrev is_interface_head : Outermost → Bool
is_interface_head (interface ss) = true
is_interface_head o = false

no_struct : (b : Bool) (n : TypeName) → is_struct_head (head b n) ≡ false
no_struct true n = refl
no_struct false n = refl

no_interface : (b : Bool) (n : TypeName) → is_interface_head (head b n) ≡ false
no_interface true n = refl
no_interface false n = refl

shows_struct : (w : Packages) (l : Layer) → is_struct_head (outermost w l) ≡ struct_layer l
shows_struct w (Term-F.Plain b) = refl
shows_struct w (Term-F.Named n) = no_struct (of_module (package_at w n.path)) n
shows_struct w (Term-F.Pointer e) = refl
shows_struct w (Term-F.Slice e) = refl
shows_struct w (Term-F.Array n e) = refl
shows_struct w (Term-F.Map k e) = refl
shows_struct w (Term-F.Chan d e) = refl
shows_struct w (Term-F.Func g) = refl
shows_struct w (Term-F.Struct fs) = refl
shows_struct w (Term-F.Interface ms) = refl

shows_interface : (w : Packages) (l : Layer) → is_interface_head (outermost w l) ≡ interface_layer l
shows_interface w (Term-F.Plain b) = refl
shows_interface w (Term-F.Named n) = no_interface (of_module (package_at w n.path)) n
shows_interface w (Term-F.Pointer e) = refl
shows_interface w (Term-F.Slice e) = refl
shows_interface w (Term-F.Array n e) = refl
shows_interface w (Term-F.Map k e) = refl
shows_interface w (Term-F.Chan d e) = refl
shows_interface w (Term-F.Func g) = refl
shows_interface w (Term-F.Struct fs) = refl
shows_interface w (Term-F.Interface ms) = refl

structured : {r : Naming} {pairs : List TypePair} (old new : Packages) (k l : Layer) → SameOutermost old new k l → is_structured k ≡ true → Kept r pairs k l
structured old new k l m s = either (or_either (struct_layer k) (interface_layer k) s)
    (λ a. kept_struct (fields_is k a).1 (fields_is l (sym (shows_struct new l) ∙ ap is_struct_head (sym m) ∙ shows_struct old k ∙ a)).1)
    (λ a. kept_interface (methods_is k a).1 (methods_is l (sym (shows_interface new l) ∙ ap is_interface_head (sym m) ∙ shows_interface old k ∙ a)).1)

module _ (old new : Packages) (pairs : List TypePair) (H : HoldsOwned old new pairs) (C : Compatible old new) where
  abbrev pub layer : Layer → Layer
  layer = image_of_layer (P.renamed old new pairs H C) same_sels

  -- levels that match are of the same form
  matched : (k l : Layer) → SameOutermost old new k l → is_name k ≡ false → ((q : TypePair) → Has (side_by_side (parts k) (parts l)) q → Has pairs q) → l ≡ layer k
  matched k l m n h = level_image (P.renamed old new pairs H C) old new k l m n (λ q j. P.paired old new pairs H C q (h q j))

  -- what is underneath the types of a pair of the module is of the same form; but for structs and interfaces it is the image
  pub underneath : (p : TypePair) → Has pairs p → are_of_module old new p ≡ true → is_name (under (types_of old) p.old) ≡ false → Kept (P.renamed old new pairs H C) pairs (under (types_of old) p.old) (under (types_of new) p.new)
  underneath p i m n = either (((P.keeps old new pairs H C p i).0).underlying m) match (same_form (under (types_of old) p.old) (under (types_of new) p.new))
    where
      by : (b : Bool) → is_structured (under (types_of old) p.old) ≡ b → SameOutermost old new (under (types_of old) p.old) (under (types_of new) p.new) → Kept (P.renamed old new pairs H C) pairs (under (types_of old) p.old) (under (types_of new) p.new)
      by true s k = structured old new (under (types_of old) p.old) (under (types_of new) p.new) k s
      by false s k = kept_image s (matched (under (types_of old) p.old) (under (types_of new) p.new) k n (λ q j. H.followed p q i (to_part_underneath m k s j)))
          (P.placed old new pairs H C (under (types_of old) p.old) (under (types_of new) p.new) k (λ q j. H.followed p q i (to_part_underneath m k s j)))

      match : SameOutermost old new (under (types_of old) p.old) (under (types_of new) p.new) → Kept (P.renamed old new pairs H C) pairs (under (types_of old) p.old) (under (types_of new) p.new)
      match k = by (is_structured (under (types_of old) p.old)) refl k

  -- the levels of types but for names
  pub same_level : (p : TypePair) → Has pairs p → is_name (out-Term p.old) ≡ false → out-Term p.new ≡ layer (out-Term p.old)
  same_level p i n = matched (out-Term p.old) (out-Term p.new) (P.keeps old new pairs H C p i).0.types n (λ q j. H.followed p q i (to_part (P.keeps old new pairs H C p i).0.types j))
