-- What selectors find through a client's own types, on both sides: the images of what they found.
use Rattle.std.proofs.Common.{◌≡◌, inl, inr, ℕ, zero, suc, Bool, true, false, ◌||◌, List, [], ◌∷◌, ◌++◌, map, refl, sym, ap, ◌∙◌, subst, Option, Some, None}
use Rattle.std.specs.Prelude.{if◌then◌else◌}
use Rattle.go_base.specs.Gathered.{gather}
use Rattle.go_base.specs.Lists.{Has}
use Rattle.go_base.proofs.Members.{gather_of}
use Rattle.go_model.specs.declared.types.names.Sel.{Sel}
use Rattle.go_model.specs.declared.types.names.TypeName.{TypeName}
use Rattle.go_model.specs.declared.types.package.Defined.{Defined}
use Rattle.go_model.specs.declared.types.term.Field.{Field, out-Field}
use Rattle.go_model.specs.declared.types.term.Term.{Term, Term-F, out-Term}
use Rattle.go_model.specs.types.Selectors.{Ending, IsOnly, Spot, base_layer, base_of, ends, is_pointer, is_pointer_layer, name_of, step, steps}
use Rattle.go_model.specs.types.Tables.{Table}
use Rattle.go_model.specs.types.Terms.{Layer}
use Rattle.go_model.specs.types.Underlying.{declared_methods, entry, fields_of, methods_of_entry, under, under_entry, under_layer}
use Rattle.go_rules.specs.Asks.{IsOwnLayer}
use Rattle.go_type_images.specs.Images.{Naming, image, image_of_field, image_of_layer, same_sels}
use Rattle.go_client_types.specs.OwnTypes.{OwnTypes}
use Rattle.go_type_images.specs.SpotImages.{at_spot, ending_to, spot_to}
use Rattle.go_type_images.specs.EntryImages.{entry_to, method_to}
use Rattle.go_type_images.proofs.ImageLevels.{out_image, out_image_field}
use Rattle.go_type_images.proofs.ImageParts.{map_append}
use Rattle.go_type_images.proofs.LevelEnds.{fields_to, here, if_mapped, swapped}

abbrev to : Naming → Term → Term
to r = image r same_sels

abbrev layer : Naming → Layer → Layer
layer r = image_of_layer r same_sels

module _ (T U : Table) (r : Naming) (O : OwnTypes T U r) (s : Sel) where
  -- ---- an own type

  entry_under : (n : TypeName) (o : Option Defined) → r n ≡ n → under_entry n (entry_to r o) ≡ layer r (under_entry n o)
  entry_under n None e = ap Term-F.Named (sym e)
  entry_under n (Some d) e = out_image r same_sels d.underlying

  own_layer : (l : Layer) → IsOwnLayer l → under_layer U (layer r l) ≡ layer r (under_layer T l)
  own_layer (Term-F.Named n) h = ap (under_layer U) (ap Term-F.Named (O.named n h)) ∙ ap (under_entry n) (O.entries n h) ∙ entry_under n (entry T n) (O.named n h)
  own_layer (Term-F.Plain b) h = refl
  own_layer (Term-F.Interface ms) h = refl
  own_layer (Term-F.Pointer e) h = absurd h
  own_layer (Term-F.Slice e) h = absurd h
  own_layer (Term-F.Array n e) h = absurd h
  own_layer (Term-F.Map k e) h = absurd h
  own_layer (Term-F.Chan d e) h = absurd h
  own_layer (Term-F.Func g) h = absurd h
  own_layer (Term-F.Struct fs) h = absurd h

  pub own_under : (t : Term) → IsOwnLayer (out-Term t) → under U (to r t) ≡ layer r (under T t)
  own_under t h = ap (under_layer U) (out_image r same_sels t) ∙ own_layer (out-Term t) h

  entry_methods : (o : Option Defined) → methods_of_entry (entry_to r o) ≡ map (method_to r) (methods_of_entry o)
  entry_methods None = refl
  entry_methods (Some d) = refl

  own_declared : (l : Layer) → IsOwnLayer l → declared_methods U (layer r l) ≡ map (method_to r) (declared_methods T l)
  own_declared (Term-F.Named n) h = ap (λ m. methods_of_entry (entry U m)) (O.named n h) ∙ ap methods_of_entry (O.entries n h) ∙ entry_methods (entry T n)
  own_declared (Term-F.Plain b) h = refl
  own_declared (Term-F.Interface ms) h = refl
  own_declared (Term-F.Pointer e) h = absurd h
  own_declared (Term-F.Slice e) h = absurd h
  own_declared (Term-F.Array n e) h = absurd h
  own_declared (Term-F.Map k e) h = absurd h
  own_declared (Term-F.Chan d e) h = absurd h
  own_declared (Term-F.Func g) h = absurd h
  own_declared (Term-F.Struct fs) h = absurd h

  own_name : (l : Layer) → IsOwnLayer l → name_of (layer r l) ≡ name_of l
  own_name (Term-F.Named n) h = ap Some (O.named n h)
  own_name (Term-F.Plain b) h = refl
  own_name (Term-F.Interface ms) h = refl
  own_name (Term-F.Pointer e) h = absurd h
  own_name (Term-F.Slice e) h = absurd h
  own_name (Term-F.Array n e) h = absurd h
  own_name (Term-F.Map k e) h = absurd h
  own_name (Term-F.Chan d e) h = absurd h
  own_name (Term-F.Func g) h = absurd h
  own_name (Term-F.Struct fs) h = absurd h

  -- the fields of an own type embed own types alone
  own_fields : (l : Layer) → IsOwnLayer l → (f : Field) → Has (fields_of (under_layer T l)) f → (out-Field f).embedded ≡ true → IsOwnLayer (out-Term (base_of (out-Field f).term))
  own_fields (Term-F.Named n) h f k e = by (entry T n) refl k
    where
      by : (o : Option Defined) → entry T n ≡ o → Has (fields_of (under_entry n o)) f → IsOwnLayer (out-Term (base_of (out-Field f).term))
      by None q i = absurd i
      by (Some d) q i = O.embeds n d f h q i e
  own_fields (Term-F.Plain b) h f k e = absurd k
  own_fields (Term-F.Interface ms) h f k e = absurd k
  own_fields (Term-F.Pointer u) h f k e = absurd h
  own_fields (Term-F.Slice u) h f k e = absurd h
  own_fields (Term-F.Array n u) h f k e = absurd h
  own_fields (Term-F.Map m u) h f k e = absurd h
  own_fields (Term-F.Chan d u) h f k e = absurd h
  own_fields (Term-F.Func g) h f k e = absurd h
  own_fields (Term-F.Struct fs) h f k e = absurd h

  -- ---- steps

  pointer_same : (l : Layer) → is_pointer_layer (layer r l) ≡ is_pointer_layer l
  pointer_same (Term-F.Pointer e) = refl
  pointer_same (Term-F.Plain b) = refl
  pointer_same (Term-F.Named n) = refl
  pointer_same (Term-F.Slice e) = refl
  pointer_same (Term-F.Array n e) = refl
  pointer_same (Term-F.Map k e) = refl
  pointer_same (Term-F.Chan d e) = refl
  pointer_same (Term-F.Func g) = refl
  pointer_same (Term-F.Struct fs) = refl
  pointer_same (Term-F.Interface ms) = refl

  base_same : (t : Term) (l : Layer) → base_layer (to r t) (layer r l) ≡ to r (base_layer t l)
  base_same t (Term-F.Pointer e) = refl
  base_same t (Term-F.Plain b) = refl
  base_same t (Term-F.Named n) = refl
  base_same t (Term-F.Slice e) = refl
  base_same t (Term-F.Array n e) = refl
  base_same t (Term-F.Map k e) = refl
  base_same t (Term-F.Chan d e) = refl
  base_same t (Term-F.Func g) = refl
  base_same t (Term-F.Struct fs) = refl
  base_same t (Term-F.Interface ms) = refl

  is_pointer_to : (t : Term) → is_pointer (to r t) ≡ is_pointer t
  is_pointer_to t = ap is_pointer_layer (out_image r same_sels t) ∙ pointer_same (out-Term t)

  base_to : (t : Term) → base_of (to r t) ≡ to r (base_of t)
  base_to t = ap (base_layer (to r t)) (out_image r same_sels t) ∙ base_same t (out-Term t)

  spot_of : Bool → Bool → Term → Spot
  spot_of b p t = record { through = b || p; term = t }

  one_step : (b : Bool) (f : Field) → step b (image_of_field r same_sels f) ≡ map (spot_to r) (step b f)
  unfolding spot_of
  one_step b f =
      ap (λ x. if x.embedded then (let y : Spot = record { through = b || is_pointer x.term; term = base_of x.term } in y) ∷ [] else []) (out_image_field r same_sels f)
      ∙ (λ i. if (out-Field f).embedded then (let y : Spot = record { through = b || is_pointer_to (out-Field f).term i; term = base_to (out-Field f).term i } in y) ∷ [] else [])
      ∙ if_mapped (spot_to r) (out-Field f).embedded (record { through = b || is_pointer (out-Field f).term; term = base_of (out-Field f).term })

  -- ---- the ends

  pub all_steps : (b : Bool) (t : Term) → under U (to r t) ≡ layer r (under T t) → steps U (at_spot b (to r t)) ≡ map (spot_to r) (steps T (at_spot b t))
  all_steps b t u = ap (λ l. gather (step b) (fields_of l)) u ∙ ap (gather (step b)) (fields_to r s (under T t)) ∙ swapped (step b) (image_of_field r same_sels) (spot_to r) (fields_of (under T t)) (one_step b)

  out_own : (t : Term) → IsOwnLayer (out-Term t) → (declared_methods U (out-Term (to r t)) ≡ map (method_to r) (declared_methods T (out-Term t))) × (name_of (out-Term (to r t)) ≡ name_of (out-Term t))
  out_own t h = (ap (declared_methods U) (out_image r same_sels t) ∙ own_declared (out-Term t) h, ap name_of (out_image r same_sels t) ∙ own_name (out-Term t) h)

  pub only_if : {A : Type 0} (c : Bool) (x y : A) → Has (if c then x ∷ [] else []) y → (c ≡ true) × (x ≡ y)
  only_if true x y (inl e) = (refl, e)
  only_if true x y (inr k) = absurd k
  only_if false x y k = absurd k

  pub next_own : (b : Bool) (t : Term) (x : Spot) → IsOwnLayer (out-Term t) → Has (steps T (at_spot b t)) x → IsOwnLayer (out-Term x.term)
  next_own b t x h k =
      let g = gather_of (step b) (fields_of (under T t)) x k in
      let e = only_if (out-Field g.0).embedded _ x g.2 in
      subst (λ (y : Spot). IsOwnLayer (out-Term y.term)) e.1 (own_fields (out-Term t) h g.0 g.1 e.0)

  pub over : (k : ℕ) → ((b : Bool) (u : Term) → IsOwnLayer (out-Term u) → ends U s k (at_spot b (to r u)) ≡ map (ending_to r) (ends T s k (at_spot b u))) → (xs : List Spot) → ((x : Spot) → Has xs x → IsOwnLayer (out-Term x.term)) → gather (ends U s k) (map (spot_to r) xs) ≡ map (ending_to r) (gather (ends T s k) xs)
  over k e [] h = refl
  over k e (x ∷ xs) h = (λ i. e x.through x.term (h x (inl refl)) i ++ over k e xs (λ y j. h y (inr j)) i) ∙ sym (map_append (ending_to r) (ends T s k x) (gather (ends T s k) xs))

  -- from an own type the ends on the new side are the images of those on the old
  pub own_ends : (k : ℕ) (b : Bool) (t : Term) → IsOwnLayer (out-Term t) → ends U s k (at_spot b (to r t)) ≡ map (ending_to r) (ends T s k (at_spot b t))
  unfolding ends
  own_ends zero b t h = let o = out_own t h in here r s T U b t (own_under t h) o.0 o.1
  own_ends (suc k) b t h = ap (gather (ends U s k)) (all_steps b t (own_under t h)) ∙ over k (λ c u i. own_ends k c u i) (steps T (at_spot b t)) (λ x i. next_own b t x h i)

  -- so one is found where one was
  pub own_found : (d : ℕ) (b : Bool) (t : Term) (e : Ending) → IsOwnLayer (out-Term t) → IsOnly T s (at_spot b t) d e → IsOnly U s (at_spot b (to r t)) d (ending_to r e)
  own_found d b t e h o = record { none = λ k l. own_ends k b t h ∙ ap (map (ending_to r)) (o.none k l); only = own_ends d b t h ∙ ap (map (ending_to r)) o.only }
