-- A type but for names is made again of its outermost constructor and its parts, and its image of the same constructor and the images of the parts.
use Rattle.std.proofs.Common.{◌≡◌, inl, inr, ℕ, suc, ◌+◌, Bool, true, false, List, [], ◌∷◌, ◌++◌, length, map, take, drop, refl, sym, ap, ◌∙◌, arith, length-append}
use Rattle.std.specs.Prelude.{if◌then◌else◌}
use Rattle.std.proofs.lemmas.List.{take_at, drop_at}
use Rattle.go_base.specs.Lists.{Has}
use Rattle.go_model.specs.declared.constants.value.Basic.TheVariants as basic_type
use Rattle.go_model.specs.declared.types.names.Sel.{Sel}
use Rattle.go_model.specs.declared.types.names.TypeName.{TypeName}
use Rattle.go_model.specs.declared.types.term.Term.{Term, Term-F, out-Term, out-roll-Term}
use Rattle.go_model.specs.declared.types.term.Field.{Field, roll-Field, roll-out-Field}
use Rattle.go_model.specs.declared.types.term.Method.{Method, out-Method, roll-Method, roll-out-Method}
use Rattle.go_model.specs.declared.types.term.Signature.{Signature, out-Signature, roll-Signature, roll-out-Signature}
use Rattle.go_model.specs.types.MethodSets.{method_sel}
use Rattle.go_model.specs.types.Terms.{Layer}
use Rattle.go_model.specs.worlds.Worlds.{Packages}
use Rattle.go_type_images.specs.Images.{Naming, image, image_of_field, image_of_layer, image_of_method, image_of_signature, same_sels}
use Rattle.api_correspond.specs.Outermost.{FieldHead, SameOutermost, Outermost, basic, named, module_type, pointer, slice, array, mapping, channel, function, structure, interface, field_head, outermost, pair, side_by_side}
use Rattle.go_type_images.specs.Parts.{field_type, function_type, method_type, parts}
use Rattle.api_correspond.specs.Publics.{of_module, package_at}
use Rattle.go_type_images.specs.declared.pair.TypePair.{TypePair}
use Rattle.go_type_images.proofs.ImageParts.{both_items, map_append}
use Rattle.go_type_images.proofs.ImageLevels.{image_roll, is_name, out_image_field, out_image_method, out_image_signature}

-- ---- what a name shows

abbrev pub head : Bool → TypeName → Outermost
head b n = if b then module_type else named n

pub heads : (b c : Bool) (m n : TypeName) → head b m ≡ head c n → (b ≡ c) × (b ≡ false → m ≡ n)
heads true true m n e = (refl, λ f. absurd (cc))
heads true false m n e = absurd (cc)
heads false true m n e = absurd (cc)
heads false false m n e = (refl, λ f. cc)

abbrev is_name_head : Outermost → Bool
is_name_head (named n) = true
is_name_head module_type = true
is_name_head o = false

name_head : (b : Bool) (n : TypeName) → is_name_head (head b n) ≡ true
name_head true n = refl
name_head false n = refl

shows_name : (w : Packages) (l : Layer) → is_name_head (outermost w l) ≡ is_name l
shows_name w (Term-F.Plain b) = refl
shows_name w (Term-F.Named n) = name_head (of_module (package_at w n.path)) n
shows_name w (Term-F.Pointer e) = refl
shows_name w (Term-F.Slice e) = refl
shows_name w (Term-F.Array n e) = refl
shows_name w (Term-F.Map k e) = refl
shows_name w (Term-F.Chan d e) = refl
shows_name w (Term-F.Func g) = refl
shows_name w (Term-F.Struct fs) = refl
shows_name w (Term-F.Interface ms) = refl

-- where two levels match, both are names or neither
pub names_match : (old new : Packages) (k l : Layer) → SameOutermost old new k l → is_name k ≡ is_name l
names_match old new k l m = sym (shows_name old k) ∙ ap is_name_head m ∙ shows_name new l

-- ---- how many parts there are

abbrev arity : Outermost → ℕ
arity pointer = 1
arity slice = 1
arity (array n) = 1
arity mapping = 2
arity (channel d) = 1
arity (function p q v) = p + q
arity (structure hs) = length hs
arity (interface ss) = length ss
arity o = 0

no_parts : (b : Bool) (n : TypeName) → 0 ≡ arity (head b n)
no_parts true n = refl
no_parts false n = refl

as_many : {A B : Type 0} (f : A → B) (xs : List A) → length (map f xs) ≡ length xs
as_many f [] = refl
as_many f (x ∷ xs) = ap suc (as_many f xs)

arity_is : (w : Packages) (l : Layer) → length (parts l) ≡ arity (outermost w l)
arity_is w (Term-F.Plain b) = refl
arity_is w (Term-F.Named n) = no_parts (of_module (package_at w n.path)) n
arity_is w (Term-F.Pointer e) = refl
arity_is w (Term-F.Slice e) = refl
arity_is w (Term-F.Array n e) = refl
arity_is w (Term-F.Map k e) = refl
arity_is w (Term-F.Chan d e) = refl
arity_is w (Term-F.Func g) = length-append (out-Signature g).params (out-Signature g).results
arity_is w (Term-F.Struct fs) = as_many field_type fs ∙ sym (as_many field_head fs)
arity_is w (Term-F.Interface ms) = as_many method_type ms ∙ sym (as_many method_sel ms)

pub parts_match : (old new : Packages) (k l : Layer) → SameOutermost old new k l → length (parts k) ≡ length (parts l)
parts_match old new k l m = arity_is old k ∙ ap arity m ∙ sym (arity_is new l)

-- ---- what is made again

abbrev no_signature : Signature
no_signature = roll-Signature (record { params = []; variadic = false; results = [] })

abbrev signature_or : Layer → Signature
signature_or (Term-F.Func g) = g
signature_or l = no_signature

abbrev signature_in : Term → Signature
signature_in t = signature_or (out-Term t)

abbrev field_from : FieldHead → Term → Field
field_from h t = roll-Field (record { sel = h.sel; embedded = h.embedded; term = t; tag = h.tag })

abbrev fields_from : List FieldHead → List Term → List Field
fields_from [] ts = []
fields_from (h ∷ hs) [] = []
fields_from (h ∷ hs) (t ∷ ts) = field_from h t ∷ fields_from hs ts

abbrev method_from : Sel → Term → Method
method_from s t = roll-Method (record { sel = s; signature = signature_in t })

abbrev methods_from : List Sel → List Term → List Method
methods_from [] ts = []
methods_from (s ∷ ss) [] = []
methods_from (s ∷ ss) (t ∷ ts) = method_from s t ∷ methods_from ss ts

abbrev signature_from : ℕ → Bool → List Term → Signature
signature_from p v ts = roll-Signature (record { params = take p ts; variadic = v; results = drop p ts })

abbrev nothing : Layer
nothing = Term-F.Plain basic_type.Bool

abbrev of_one : (Term → Layer) → List Term → Layer
of_one f [] = nothing
of_one f (t ∷ ts) = f t

abbrev of_two : (Term → Term → Layer) → List Term → Layer
of_two f [] = nothing
of_two f (k ∷ ts) = of_one (f k) ts

abbrev pub rebuild : Outermost → List Term → Layer
rebuild (basic b) ts = Term-F.Plain b
rebuild (named n) ts = nothing
rebuild module_type ts = nothing
rebuild pointer ts = of_one Term-F.Pointer ts
rebuild slice ts = of_one Term-F.Slice ts
rebuild (array n) ts = of_one (Term-F.Array n) ts
rebuild mapping ts = of_two Term-F.Map ts
rebuild (channel d) ts = of_one (Term-F.Chan d) ts
rebuild (function p q v) ts = Term-F.Func (signature_from p v ts)
rebuild (structure hs) ts = Term-F.Struct (fields_from hs ts)
rebuild (interface ss) ts = Term-F.Interface (methods_from ss ts)

fields_again : (fs : List Field) → fields_from (map field_head fs) (map field_type fs) ≡ fs
fields_again [] = refl
fields_again (f ∷ fs) = both_items _ f _ fs (roll-out-Field f) (fields_again fs)

signature_again : (g : Signature) → signature_in (function_type g) ≡ g
signature_again g = ap signature_or (out-roll-Term (Term-F.Func g))

method_again : (m : Method) → method_from (method_sel m) (method_type m) ≡ m
method_again m = ap (λ g. roll-Method (record { sel = method_sel m; signature = g })) (signature_again (out-Method m).signature) ∙ roll-out-Method m

methods_again : (ms : List Method) → methods_from (map method_sel ms) (map method_type ms) ≡ ms
methods_again [] = refl
methods_again (m ∷ ms) = both_items _ m _ ms (method_again m) (methods_again ms)

signature_split : (g : Signature) (ps rs : List Term) → length ps ≡ length (out-Signature g).params → signature_from (length (out-Signature g).params) (out-Signature g).variadic (ps ++ rs) ≡ roll-Signature (record { params = ps; variadic = (out-Signature g).variadic; results = rs })
signature_split g ps rs e = λ i. roll-Signature (record { params = take_at ps rs (length (out-Signature g).params) e i; variadic = (out-Signature g).variadic; results = drop_at ps rs (length (out-Signature g).params) e i })

pub rebuilt : (w : Packages) (l : Layer) → is_name l ≡ false → rebuild (outermost w l) (parts l) ≡ l
rebuilt w (Term-F.Plain b) n = refl
rebuilt w (Term-F.Named m) n = absurd (cc)
rebuilt w (Term-F.Pointer e) n = refl
rebuilt w (Term-F.Slice e) n = refl
rebuilt w (Term-F.Array k e) n = refl
rebuilt w (Term-F.Map k e) n = refl
rebuilt w (Term-F.Chan d e) n = refl
rebuilt w (Term-F.Func g) n = ap Term-F.Func (signature_split g (out-Signature g).params (out-Signature g).results refl ∙ roll-out-Signature g)
rebuilt w (Term-F.Struct fs) n = ap Term-F.Struct (fields_again fs)
rebuilt w (Term-F.Interface ms) n = ap Term-F.Interface (methods_again ms)

-- ---- the image

module _ (r : Naming) where
  abbrev pub to : Term → Term
  to = image r same_sels

  field_image : (f : Field) → field_from (field_head f) (to (field_type f)) ≡ image_of_field r same_sels f
  field_image f = ap roll-Field (sym (out_image_field r same_sels f)) ∙ roll-out-Field _

  fields_image : (fs : List Field) → fields_from (map field_head fs) (map to (map field_type fs)) ≡ map (image_of_field r same_sels) fs
  fields_image [] = refl
  fields_image (f ∷ fs) = both_items _ (image_of_field r same_sels f) _ (map (image_of_field r same_sels) fs) (field_image f) (fields_image fs)

  signature_image : (g : Signature) → signature_in (to (function_type g)) ≡ image_of_signature r same_sels g
  signature_image g = ap (λ t. signature_or (out-Term t)) (image_roll r same_sels (Term-F.Func g)) ∙ ap signature_or (out-roll-Term _)

  method_image : (m : Method) → method_from (method_sel m) (to (method_type m)) ≡ image_of_method r same_sels m
  method_image m = ap (λ g. roll-Method (record { sel = method_sel m; signature = g })) (signature_image (out-Method m).signature) ∙ ap roll-Method (sym (out_image_method r same_sels m)) ∙ roll-out-Method _

  methods_image : (ms : List Method) → methods_from (map method_sel ms) (map to (map method_type ms)) ≡ map (image_of_method r same_sels) ms
  methods_image [] = refl
  methods_image (m ∷ ms) = both_items _ (image_of_method r same_sels m) _ (map (image_of_method r same_sels) ms) (method_image m) (methods_image ms)

  signature_parts : (g : Signature) → signature_from (length (out-Signature g).params) (out-Signature g).variadic (map to ((out-Signature g).params ++ (out-Signature g).results)) ≡ image_of_signature r same_sels g
  signature_parts g =
      ap (signature_from (length (out-Signature g).params) (out-Signature g).variadic) (map_append to (out-Signature g).params (out-Signature g).results)
      ∙ signature_split g (map to (out-Signature g).params) (map to (out-Signature g).results) (as_many to (out-Signature g).params)
      ∙ ap roll-Signature (sym (out_image_signature r same_sels g)) ∙ roll-out-Signature _

  pub image_rebuilt : (w : Packages) (l : Layer) → is_name l ≡ false → rebuild (outermost w l) (map to (parts l)) ≡ image_of_layer r same_sels l
  image_rebuilt w (Term-F.Plain b) n = refl
  image_rebuilt w (Term-F.Named m) n = absurd (cc)
  image_rebuilt w (Term-F.Pointer e) n = refl
  image_rebuilt w (Term-F.Slice e) n = refl
  image_rebuilt w (Term-F.Array k e) n = refl
  image_rebuilt w (Term-F.Map k e) n = refl
  image_rebuilt w (Term-F.Chan d e) n = refl
  image_rebuilt w (Term-F.Func g) n = ap Term-F.Func (signature_parts g)
  image_rebuilt w (Term-F.Struct fs) n = ap Term-F.Struct (fields_image fs)
  image_rebuilt w (Term-F.Interface ms) n = ap Term-F.Interface (methods_image ms)

  -- types that stand side by side with types whose images they are
  zipped : (us ts : List Term) → length us ≡ length ts → ((q : TypePair) → Has (side_by_side us ts) q → q.new ≡ to q.old) → ts ≡ map to us
  zipped [] [] e h = refl
  zipped [] (t ∷ ts) e h = absurd (omega (arith, e))
  zipped (u ∷ us) [] e h = absurd (omega (arith, e))
  zipped (u ∷ us) (t ∷ ts) e h = both_items t (to u) ts (map to us) (h (pair u t) (inl refl)) (zipped us ts (omega (arith, e)) (λ q k. h q (inr k)))

  -- a level that matches one that is no name is its image, where its parts are images
  pub level_image : (old new : Packages) (k l : Layer) → SameOutermost old new k l → is_name k ≡ false → ((q : TypePair) → Has (side_by_side (parts k) (parts l)) q → q.new ≡ to q.old) → l ≡ image_of_layer r same_sels k
  level_image old new k l m n h =
      sym (rebuilt new l (sym (names_match old new k l m) ∙ n))
      ∙ ap (rebuild (outermost new l)) (zipped (parts k) (parts l) (parts_match old new k l m) h)
      ∙ ap (λ o. rebuild o (map to (parts k))) (sym m)
      ∙ image_rebuilt old k n
