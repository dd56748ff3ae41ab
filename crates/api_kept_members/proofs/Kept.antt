-- What is kept of the types of owned pairs of two worlds.
use Rattle.std.proofs.Common.{◌≡◌, ◌≢◌, ◌⊎◌, inl, inr, Bool, true, false, ◌&&◌, ◌||◌, List, [], ◌∷◌, map, refl, sym, ap, ◌∙◌, subst, Option, Some, None}
use Rattle.go_base.specs.Lists.{Has}
use Rattle.go_model.specs.declared.types.names.TypeName.{TypeName}
use Rattle.go_model.specs.declared.types.package.Defined.{Defined}
use Rattle.go_model.specs.declared.types.term.Field.{Field}
use Rattle.go_model.specs.declared.types.term.Term.{Term, Term-F, out-Term, out-roll-Term}
use Rattle.go_model.specs.types.Terms.{Layer, error_type, is_error}
use Rattle.go_model.specs.types.Underlying.{entry, fields_of, under, under_entry, under_layer}
use Rattle.go_model.specs.worlds.Worlds.{IsWorld, Packages, table_of}
use Rattle.go_model.proofs.WorldTypes.{told}
use Rattle.go_type_images.specs.Images.{image_of_field, image_of_layer, same_sels}
use Rattle.go_type_images.specs.Levels.{struct_layer}
use Rattle.go_type_images.specs.Parts.{field_type, parts}
use Rattle.api_correspond.specs.Outermost.{pair}
use Rattle.api_correspond.specs.OwnedPairs.{HoldsOwned, are_of_module, are_structs, have_members, to_field}
use Rattle.api_correspond.specs.Publics.{IsExported, is_of_module, module_layer, types_of}
use Rattle.api_correspond.specs.Rules.{Compatible, have_structs}
use Rattle.go_type_images.specs.declared.pair.TypePair.{TypePair}
use Rattle.go_model.specs.types.Members.{field_sel}
use Rattle.api_kept_members.specs.inner.Entries.{had}
use Rattle.api_kept_members.specs.KeptLevels.{Kept}
use Rattle.go_type_images.specs.Leaves.{Leaves}
use Rattle.go_type_images.proofs.Leaves.{leaf}
use Rattle.api_kept_members.proofs.ResolvingPairs.{entry_is, pair_resolves}
use Rattle.go_type_images.proofs.ImageLevels.{is_name, out_image, out_image_field}
use Rattle.api_type_images.proofs.Paired as P
use Rattle.api_kept_members.proofs.Underneath as U

pub and_first : (a b : Bool) → (a && b) ≡ true → a ≡ true
and_first true b e = refl
and_first false b e = absurd (cc)

-- what is underneath a type with an entry is no name
no_name : (l : Layer) → ((n : TypeName) → l ≢ Term-F.Named n) → is_name l ≡ false
no_name (Term-F.Named n) h = absurd (h n refl)
no_name (Term-F.Plain b) h = refl
no_name (Term-F.Pointer e) h = refl
no_name (Term-F.Slice e) h = refl
no_name (Term-F.Array n e) h = refl
no_name (Term-F.Map k e) h = refl
no_name (Term-F.Chan d e) h = refl
no_name (Term-F.Func g) h = refl
no_name (Term-F.Struct fs) h = refl
no_name (Term-F.Interface ms) h = refl

pub in_map : {A B : Type 0} (f : A → B) (xs : List A) (x : A) → Has xs x → Has (map f xs) (f x)
in_map f [] x k = absurd k
in_map f (y ∷ ys) x (inl e) = inl (ap f e)
in_map f (y ∷ ys) x (inr k) = inr (in_map f ys x k)

pub module_name : (w : Packages) (l : Layer) → module_layer w l ≡ true → (n : TypeName) × (l ≡ Term-F.Named n)
module_name w (Term-F.Named n) e = (n, refl)
module_name w (Term-F.Plain b) e = absurd (cc)
module_name w (Term-F.Pointer t) e = absurd (cc)
module_name w (Term-F.Slice t) e = absurd (cc)
module_name w (Term-F.Array n t) e = absurd (cc)
module_name w (Term-F.Map k t) e = absurd (cc)
module_name w (Term-F.Chan d t) e = absurd (cc)
module_name w (Term-F.Func g) e = absurd (cc)
module_name w (Term-F.Struct fs) e = absurd (cc)
module_name w (Term-F.Interface ms) e = absurd (cc)

module _ (w : Packages) (i : IsWorld w) where
  error_level : (n : TypeName) (d : Defined) → error_type ≡ d → is_name (out-Term d.underlying) ≡ false
  error_level n d e = subst (λ (x : Defined). is_name (out-Term x.underlying) ≡ false) e (ap is_name (out-roll-Term _))

  entry_level : (n : TypeName) (d : Defined) → (error_type ≡ d) ⊎ (table_of w.packages n ≡ Some d) → is_name (out-Term d.underlying) ≡ false
  entry_level n d (inl e) = error_level n d e
  entry_level n d (inr e) = no_name (out-Term d.underlying) (told w i n d e).kept.structured

  by_entry : (n : TypeName) (o : Option Defined) → entry (types_of w) n ≡ o → had (types_of w) n ≡ true → is_name (under_entry n o) ≡ false
  by_entry n (Some d) e h = entry_level n d (entry_is w i (is_error n) n d refl e)
  by_entry n None e h = let bad : false ≡ true = sym (ap (λ (o : Option Defined). is_had o) e) ∙ h in absurd (cc)
    where
      is_had : Option Defined → Bool
      is_had None = false
      is_had (Some d) = true

  pub formed : (t : Term) (n : TypeName) → out-Term t ≡ Term-F.Named n → Leaves (had (types_of w)) t → is_name (under (types_of w) t) ≡ false
  formed t n e h = ap (λ l. is_name (under_layer (types_of w) l)) e ∙ by_entry n (entry (types_of w) n) refl (leaf h n e)

module _ (old new : Packages) (pairs : List TypePair) (H : HoldsOwned old new pairs) (C : Compatible old new) (i : IsWorld old) (j : IsWorld new) where
  abbrev KeepsFieldType : TypePair → Field → Type 0
  KeepsFieldType p f = (g : Field) × Has (fields_of (under (types_of new) p.new)) g × (field_sel g ≡ field_sel f) × (field_type g ≡ P.to old new pairs H C (field_type f)) × Has pairs (pair (field_type f) (field_type g))

  -- what is underneath the types of a pair of the module is a struct in both, an interface in both, or the image
  pub beneath : (p : TypePair) → Has pairs p → are_of_module old new p ≡ true → Kept (P.renamed old new pairs H C) pairs (under (types_of old) p.old) (under (types_of new) p.new)
  beneath p k m =
      let n = module_name old (out-Term p.old) (and_first (is_of_module old p.old) (is_of_module new p.new) m) in
      let o = H.owned p k in
      U.underneath old new pairs H C p k m (formed old i p.old n.0 n.1 (pair_resolves old new i j o.1).0)

  module_field : (p : TypePair) → Has pairs p → are_of_module old new p ≡ true → have_structs old new p ≡ true → (f : Field) → Has (fields_of (under (types_of old) p.old)) f → IsExported (field_sel f) → KeepsFieldType p f
  module_field p k m s f h x =
      let g = (P.keeps old new pairs H C p k).0.fields f (record { structs = both m s; there = h; exported = x }) in
      let o = H.followed p (pair (field_type f) (field_type g.0)) k (to_field f g.0 m h g.1 x g.2) in
      (g.0, g.1, g.2, P.paired old new pairs H C (pair (field_type f) (field_type g.0)) o, o)
    where
      both : are_of_module old new p ≡ true → have_structs old new p ≡ true → (are_of_module old new p && have_structs old new p) ≡ true
      both a b = ap (λ c. c && have_structs old new p) a ∙ b

  -- of structs that aren't defined types, the new field is the image
  struct_field : (p : TypePair) → Has pairs p → are_structs p ≡ true → (f : Field) → Has (fields_of (under (types_of old) p.old)) f → KeepsFieldType p f
  struct_field p k m f h =
      let l = U.fields_is (out-Term p.old) (and_first (struct_layer (out-Term p.old)) (struct_layer (out-Term p.new)) m) in
      let before : under (types_of old) p.old ≡ Term-F.Struct l.0 = ap (under_layer (types_of old)) l.1 in
      let stands : Has l.0 f = subst (λ x. Has (fields_of x) f) before h in
      let level : out-Term p.new ≡ Term-F.Struct (map (image_of_field (P.renamed old new pairs H C) same_sels) l.0) = ap out-Term (P.paired old new pairs H C p k) ∙ out_image (P.renamed old new pairs H C) same_sels p.old ∙ ap (image_of_layer (P.renamed old new pairs H C) same_sels) l.1 in
      let after : under (types_of new) p.new ≡ Term-F.Struct (map (image_of_field (P.renamed old new pairs H C) same_sels) l.0) = ap (under_layer (types_of new)) level in
      let g = image_of_field (P.renamed old new pairs H C) same_sels f in
      let t : field_type g ≡ P.to old new pairs H C (field_type f) = ap (λ x. x.term) (out_image_field (P.renamed old new pairs H C) same_sels f) in
      let o : Has pairs (pair (field_type f) (P.to old new pairs H C (field_type f))) = P.part_of old new pairs H C p k (field_type f) (subst (λ x. Has (parts x) (field_type f)) (sym l.1) (in_map field_type l.0 f stands)) in
      (g, subst (λ x. Has (fields_of x) g) (sym after) (in_map (image_of_field (P.renamed old new pairs H C) same_sels) l.0 f stands), ap (λ x. x.sel) (out_image_field (P.renamed old new pairs H C) same_sels f), t, subst (λ u. Has pairs (pair (field_type f) u)) (sym t) o)

  -- an exported field of a struct is one of the new struct, and its type the image
  pub field_kept : (p : TypePair) → Has pairs p → have_members old new p ≡ true → have_structs old new p ≡ true → (f : Field) → Has (fields_of (under (types_of old) p.old)) f → IsExported (field_sel f) → KeepsFieldType p f
  field_kept p k m s f h x = by (are_of_module old new p) refl
    where
      by : (b : Bool) → are_of_module old new p ≡ b → KeepsFieldType p f
      by true e = module_field p k e s f h x
      by false e = struct_field p k (sym (ap (λ c. c || are_structs p) e) ∙ m) f h
