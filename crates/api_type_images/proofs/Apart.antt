-- Types have different images where the names in them have different new names.
use Rattle.std.proofs.Common.{◌≡◌, inl, inr, suc, Bool, true, false, List, [], ◌∷◌, length, map, refl, sym, ap, ◌∙◌}
use Rattle.go_base.specs.Lists.{Has}
use Rattle.go_model.specs.declared.types.names.TypeName.{TypeName}
use Rattle.go_model.specs.declared.types.term.Term.{Term, Term-F, out-Term}
use Rattle.go_model.specs.declared.types.term.Field.{Field}
use Rattle.go_model.specs.declared.types.term.Signature.{out-Signature}
use Rattle.go_model.specs.types.Terms.{Layer}
use Rattle.go_model.specs.worlds.Worlds.{Packages}
use Rattle.go_type_images.specs.Images.{Naming, image, image_of_field, image_of_layer, same_sels}
use Rattle.api_correspond.specs.Outermost.{FieldHead, function, structure, interface, field_head, outermost}
use Rattle.go_type_images.specs.Parts.{parts}
use Rattle.go_type_images.specs.Leaves.{Leaves}
use Rattle.go_type_images.proofs.ImageLevels.{is_name, is_name_of, name_image, one_type, out_image, out_image_field, out_image_signature}
use Rattle.go_type_images.proofs.ImageParts.{both_items, method_sels, parts_image}
use Rattle.go_type_images.proofs.Leaves.{leaf, part_leaves}
use Rattle.go_type_images.proofs.NewNames.{named_named}
use Rattle.go_type_images.proofs.ByParts.{by_parts}
use Rattle.api_type_images.proofs.Rebuilt.{rebuilt, rebuild}

no_packages : Packages
no_packages = record { packages = []; publics = [] }

module _ (r : Naming) where
  abbrev to : Term → Term
  to = image r same_sels

  abbrev layer : Layer → Layer
  layer = image_of_layer r same_sels

  map_length : (xs : List Term) → length (map to xs) ≡ length xs
  map_length [] = refl
  map_length (x ∷ xs) = ap suc (map_length xs)

  field_heads : (fs : List Field) → map field_head (map (image_of_field r same_sels) fs) ≡ map field_head fs
  field_heads [] = refl
  field_heads (f ∷ fs) = both_items _ (field_head f) _ _ (ap (λ x. let h : FieldHead = record { sel = x.sel; embedded = x.embedded; tag = x.tag } in h) (out_image_field r same_sels f)) (field_heads fs)

  -- what the image shows
  pub shows_image : (w : Packages) (l : Layer) → is_name l ≡ false → outermost w (layer l) ≡ outermost w l
  shows_image w (Term-F.Plain b) n = refl
  shows_image w (Term-F.Named m) n = absurd (cc)
  shows_image w (Term-F.Pointer e) n = refl
  shows_image w (Term-F.Slice e) n = refl
  shows_image w (Term-F.Array k e) n = refl
  shows_image w (Term-F.Map k e) n = refl
  shows_image w (Term-F.Chan d e) n = refl
  shows_image w (Term-F.Func g) n = ap (λ x. function (length x.params) (length x.results) x.variadic) (out_image_signature r same_sels g) ∙ (λ i. function (map_length (out-Signature g).params i) (map_length (out-Signature g).results i) (out-Signature g).variadic)
  shows_image w (Term-F.Struct fs) n = ap structure (field_heads fs)
  shows_image w (Term-F.Interface ms) n = ap interface (method_sels r ms)

  module _ (F : TypeName → Bool) (apart_names : (m n : TypeName) → F m ≡ true → F n ≡ true → r m ≡ r n → m ≡ n) where
    abbrev IsTold : Term → Type 0
    IsTold s = (t : Term) → Leaves F s → Leaves F t → to s ≡ to t → s ≡ t

    lists : (us ts : List Term) → ((u : Term) → Has us u → IsTold u) → ((u : Term) → Has us u → Leaves F u) → ((u : Term) → Has ts u → Leaves F u) → map to us ≡ map to ts → us ≡ ts
    lists [] [] h a b e = refl
    lists [] (t ∷ ts) h a b e = absurd (cc)
    lists (u ∷ us) [] h a b e = absurd (cc)
    lists (u ∷ us) (t ∷ ts) h a b e =
        let first : to u ≡ to t = cc in
        let rest : map to us ≡ map to ts = cc in
        both_items u t us ts (h u (inl refl) t (a u (inl refl)) (b t (inl refl)) first) (lists us ts (λ v k. h v (inr k)) (λ v k. a v (inr k)) (λ v k. b v (inr k)) rest)

    levels : (s t : Term) → to s ≡ to t → layer (out-Term s) ≡ layer (out-Term t)
    levels s t e = sym (out_image r same_sels s) ∙ ap out-Term e ∙ out_image r same_sels t

    one_name : (s t : Term) (n m : TypeName) → Leaves F s → Leaves F t → out-Term s ≡ Term-F.Named n → out-Term t ≡ Term-F.Named m → layer (out-Term s) ≡ layer (out-Term t) → s ≡ t
    one_name s t n m a b e f l =
        let same : r n ≡ r m = named_named (ap layer (sym e) ∙ l ∙ ap layer f) in
        one_type s t (Term-F.Named n) e (f ∙ ap Term-F.Named (sym (apart_names n m (leaf a n e) (leaf b m f) same)))

    step : (s : Term) → ((u : Term) → Has (parts (out-Term s)) u → IsTold u) → (t : Term) → Leaves F s → Leaves F t → to s ≡ to t → (b : Bool) → is_name (out-Term s) ≡ b → s ≡ t
    step s h t x y e true n =
        let l = levels s t e in
        let m = is_name_of (out-Term s) n in
        let k = is_name_of (out-Term t) (sym (name_image r same_sels (out-Term t)) ∙ ap is_name (sym l) ∙ name_image r same_sels (out-Term s) ∙ n) in
        one_name s t m.0 k.0 x y m.1 k.1 l
    step s h t x y e false n =
        let l = levels s t e in
        let k : is_name (out-Term t) ≡ false = sym (name_image r same_sels (out-Term t)) ∙ ap is_name (sym l) ∙ name_image r same_sels (out-Term s) ∙ n in
        let o : outermost no_packages (out-Term s) ≡ outermost no_packages (out-Term t) = sym (shows_image no_packages (out-Term s) n) ∙ ap (outermost no_packages) l ∙ shows_image no_packages (out-Term t) k in
        let p : parts (out-Term s) ≡ parts (out-Term t) = lists (parts (out-Term s)) (parts (out-Term t)) h (part_leaves x) (part_leaves y) (sym (parts_image r same_sels (out-Term s)) ∙ ap parts l ∙ parts_image r same_sels (out-Term t)) in
        one_type s t (out-Term t) (sym (rebuilt no_packages (out-Term s) n) ∙ (λ i. rebuild (o i) (p i)) ∙ rebuilt no_packages (out-Term t) k) refl

    pub apart : (s t : Term) → Leaves F s → Leaves F t → to s ≡ to t → s ≡ t
    apart s t x y e = by_parts IsTold (λ u h v a b f. step u h v a b f (is_name (out-Term u)) refl) s t x y e
