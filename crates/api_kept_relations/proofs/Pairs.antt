-- What two client's tables keep of the types of owned pairs.
use Rattle.std.proofs.Common.{◌≡◌, ◌≢◌, ◌⊎◌, inl, inr, ℕ, Bool, true, false, ◌&&◌, ◌||◌, List, [], ◌∷◌, map, refl, sym, ap, ◌∙◌, subst, Option, Some, None}
use Rattle.std.specs.Prelude.{bytes_eq, is_some, not}
use Rattle.std.specs.Cmp.Lexicographic.{bytes_decides}
use Rattle.go_base.specs.Lists.{Has, Each, Once, Passes}
use Rattle.go_base.proofs.Members.{each_has}
use Rattle.go_model.specs.declared.types.names.Sel.{Sel}
use Rattle.go_model.specs.declared.types.names.TypeName.{TypeName}
use Rattle.go_model.specs.declared.types.package.Package.{Package}
use Rattle.go_model.specs.declared.types.term.Field.{Field}
use Rattle.go_model.specs.declared.types.term.Method.{Method, out-Method}
use Rattle.go_model.specs.declared.types.term.Signature.{Signature}
use Rattle.go_model.specs.declared.types.term.Term.{Term, Term-F, out-Term}
use Rattle.go_model.specs.types.Comparison.{Comparable}
use Rattle.go_model.specs.types.Imports.{is_imported}
use Rattle.go_model.specs.types.Members.{field_sel}
use Rattle.go_model.specs.types.MethodSets.{Reaches, method_sel}
use Rattle.go_model.specs.types.Selectors.{Ending, IsOnly, Spot, ends, field, method}
use Rattle.go_model.specs.types.Tables.{Table}
use Rattle.go_model.specs.types.Terms.{IsBlank, Layer, client_path, is_error}
use Rattle.go_model.specs.types.TypeNames.{Names, names}
use Rattle.go_model.specs.types.TypeSelectors.{Sels, selectors}
use Rattle.go_model.specs.types.Underlying.{declared_methods, entry, fields_of, methods_of, under, under_layer}
use Rattle.go_model.specs.worlds.Worlds.{IsWorld, Packages}
use Rattle.go_rules.specs.Usability.{LeadsTo}
use Rattle.go_selectors.specs.Ways.{OnWay}
use Rattle.go_type_images.specs.Images.{Naming, image, image_of_layer, image_of_method, image_of_signature, same_sels}
use Rattle.go_type_images.specs.Levels.{interface_layer, is_structured, struct_layer}
use Rattle.go_type_images.specs.NewNames.{new_name}
use Rattle.go_type_images.specs.Parts.{field_type, function_type, method_type, parts}
use Rattle.go_type_images.specs.SpotImages.{at_spot}
use Rattle.go_type_images.specs.declared.pair.TypePair.{TypePair}
use Rattle.go_type_images.proofs.ImageLevels.{image_roll, is_name, is_name_of, out_image}
use Rattle.go_client_types.specs.Endings.{end_at}
use Rattle.go_client_types.specs.Preserving.{HasEntry, IsForeign, IsKeptLayer}
use Rattle.go_client_types.specs.Reached.{IsGiven}
use Rattle.go_shared_types.specs.Sharing.{IsShared}
use Rattle.go_shared_types.proofs.Alike as A
use Rattle.go_shared_types.proofs.Items.{in_map, of_map, passes, passing}
use Rattle.go_shared_types.proofs.PartNames.{named_names, named_selectors}
use Rattle.go_shared_types.proofs.Regions as R
use Rattle.go_shared_types.proofs.SameTypes.{method_stays, signature_stays}
use Rattle.api_correspond.specs.Outermost.{pair}
use Rattle.api_correspond.specs.OwnedPairs.{HoldsOwned, are_of_module, are_structs, have_members}
use Rattle.api_correspond.specs.Publics.{is_of_module, module_layer, of_module, of_std, package_at, types_of}
use Rattle.api_correspond.specs.Rules.{Compatible, IsOpen, IsSealedPair, have_interfaces, have_method_sets, have_structs, is_sealing, is_std_sel}
use Rattle.api_correspond.specs.SharedStd.{ShareStd}
use Rattle.api_type_images.proofs.Paired as P
use Rattle.api_kept_members.specs.KeptFinds.{FindsMethod, FindsStdMethod}
use Rattle.api_kept_members.specs.KeptLevels.{Kept, kept_image, kept_interface, kept_struct}
use Rattle.api_kept_members.specs.inner.Entries.{had}
use Rattle.api_kept_members.proofs.FoundFields as FF
use Rattle.api_kept_members.proofs.FoundMethods as FM
use Rattle.api_kept_members.proofs.InterfaceMethods as IM
use Rattle.api_kept_members.proofs.Kept as K
use Rattle.api_kept_members.proofs.ResolvingPairs.{AreIn, pair_resolves}
use Rattle.api_kept_members.proofs.Underneath.{and_both, same_level}
use Rattle.api_kept_relations.specs.ClientWorlds.{Serves}
use Rattle.api_kept_relations.specs.StdTypes.{IsOfStd, StdMethodsStay, StdStandsAlone, is_open_sel, is_std_name, shared_std}
use Rattle.api_kept_relations.proofs.Carried as V
use Rattle.api_kept_relations.proofs.Labels as L
use Rattle.api_kept_relations.proofs.Names as N
use Rattle.api_kept_relations.proofs.Names.{AnyMethod, AnySel, error_path}
use Rattle.api_kept_relations.proofs.PairFinds.{found_struct, plain_method, plain_under, struct_of_field}
use Rattle.api_kept_relations.proofs.PairLabels.{pair_labelled}
use Rattle.api_kept_relations.proofs.StdShared as X
use Rattle.api_kept_relations.proofs.StdShared.{or_left, or_other, or_right}

pub record Worlds (old new before after : Packages) (pairs : List TypePair) (T U : Table) : Type 0 where
  pub holds : HoldsOwned old new pairs
  pub compatible : Compatible old new
  pub old_world : IsWorld old
  pub new_world : IsWorld new
  pub share : ShareStd old new
  pub stay : StdMethodsStay old
  pub serves : Serves old before T
  pub serves_too : Serves new after U
  pub share_too : ShareStd before after
  pub alone : StdStandsAlone before

no_layer : (b : Bool) → b ≡ true → b ≡ false → ⊥
no_layer true e f = absurd (cc)
no_layer false e f = absurd (cc)

pub named_plain : (l : Layer) (n : TypeName) → l ≡ Term-F.Named n → is_name l ≡ false → ⊥
named_plain l n e f = no_layer (is_name l) (ap is_name e) f

pub imported_of : (n : TypeName) → n.path ≢ [] → n.path ≢ client_path → is_imported n ≡ true
imported_of n e c = by (bytes_eq n.path []) (bytes_eq n.path client_path) refl refl
  where
    by : (a b : Bool) → bytes_eq n.path [] ≡ a → bytes_eq n.path client_path ≡ b → is_imported n ≡ true
    by true b f g = absurd (e ((bytes_decides n.path []).0 f))
    by false true f g = absurd (c ((bytes_decides n.path client_path).0 g))
    by false false f g = λ i. not (f i) && not (g i)

interface_is : (l : Layer) (m : Method) → Has (methods_of l) m → interface_layer l ≡ true
interface_is (Term-F.Interface ms) m k = refl
interface_is l m k = absurd k

module _ (r : Naming) (pairs : List TypePair) (given : Term → Type 0) (of_pair : (t : Term) → Has pairs (pair t (image r same_sels t)) → given t) where
  -- what is kept of what is underneath, as it is told of tables
  kept_level : (k l : Layer) → is_structured k ≡ false → l ≡ image_of_layer r same_sels k → ((t : Term) → Has (parts k) t → Has pairs (pair t (image r same_sels t))) → IsKeptLayer r given k l
  kept_level (Term-F.Struct fs) l s e h = absurd (cc)
  kept_level (Term-F.Interface ms) l s e h = absurd (cc)
  kept_level (Term-F.Plain b) l s e h = (e, λ u k. of_pair u (h u k))
  kept_level (Term-F.Named n) l s e h = (e, λ u k. of_pair u (h u k))
  kept_level (Term-F.Pointer t) l s e h = (e, λ u k. of_pair u (h u k))
  kept_level (Term-F.Slice t) l s e h = (e, λ u k. of_pair u (h u k))
  kept_level (Term-F.Array n t) l s e h = (e, λ u k. of_pair u (h u k))
  kept_level (Term-F.Map j t) l s e h = (e, λ u k. of_pair u (h u k))
  kept_level (Term-F.Chan d t) l s e h = (e, λ u k. of_pair u (h u k))
  kept_level (Term-F.Func g) l s e h = (e, λ u k. of_pair u (h u k))

  pub from_kept : (k l : Layer) → Kept r pairs k l → IsKeptLayer r given k l
  from_kept k l (kept_struct e f) = subst (λ x. IsKeptLayer r given x l) (sym e) (ap struct_layer f)
  from_kept k l (kept_interface e f) = subst (λ x. IsKeptLayer r given x l) (sym e) (ap interface_layer f)
  from_kept k l (kept_image s f h) = kept_level k l s f h

  pub from_image : (k l : Layer) → l ≡ image_of_layer r same_sels k → ((t : Term) → Has (parts k) t → Has pairs (pair t (image r same_sels t))) → IsKeptLayer r given k l
  from_image (Term-F.Struct fs) l e h = ap struct_layer e
  from_image (Term-F.Interface ms) l e h = ap interface_layer e
  from_image (Term-F.Plain b) l e h = (e, λ u k. of_pair u (h u k))
  from_image (Term-F.Named n) l e h = (e, λ u k. of_pair u (h u k))
  from_image (Term-F.Pointer t) l e h = (e, λ u k. of_pair u (h u k))
  from_image (Term-F.Slice t) l e h = (e, λ u k. of_pair u (h u k))
  from_image (Term-F.Array n t) l e h = (e, λ u k. of_pair u (h u k))
  from_image (Term-F.Map j t) l e h = (e, λ u k. of_pair u (h u k))
  from_image (Term-F.Chan d t) l e h = (e, λ u k. of_pair u (h u k))
  from_image (Term-F.Func g) l e h = (e, λ u k. of_pair u (h u k))

  kept_struct_layer : (k l : Layer) → IsKeptLayer r given k l → struct_layer k ≡ true → struct_layer l ≡ true
  kept_struct_layer (Term-F.Struct fs) l h e = h
  kept_struct_layer (Term-F.Interface ms) l h e = absurd (cc)
  kept_struct_layer (Term-F.Plain b) l h e = absurd (cc)
  kept_struct_layer (Term-F.Named n) l h e = absurd (cc)
  kept_struct_layer (Term-F.Pointer t) l h e = absurd (cc)
  kept_struct_layer (Term-F.Slice t) l h e = absurd (cc)
  kept_struct_layer (Term-F.Array n t) l h e = absurd (cc)
  kept_struct_layer (Term-F.Map j t) l h e = absurd (cc)
  kept_struct_layer (Term-F.Chan d t) l h e = absurd (cc)
  kept_struct_layer (Term-F.Func g) l h e = absurd (cc)

  struct_no_interface : (l : Layer) → struct_layer l ≡ true → interface_layer l ≡ false
  struct_no_interface (Term-F.Struct fs) e = refl
  struct_no_interface (Term-F.Interface ms) e = absurd (cc)
  struct_no_interface (Term-F.Plain b) e = refl
  struct_no_interface (Term-F.Named n) e = refl
  struct_no_interface (Term-F.Pointer t) e = refl
  struct_no_interface (Term-F.Slice t) e = refl
  struct_no_interface (Term-F.Array n t) e = refl
  struct_no_interface (Term-F.Map j t) e = refl
  struct_no_interface (Term-F.Chan d t) e = refl
  struct_no_interface (Term-F.Func g) e = refl

  -- an interface stays one, and nothing else becomes one
  kept_interface_layer : (k l : Layer) → IsKeptLayer r given k l → interface_layer l ≡ interface_layer k
  kept_interface_layer (Term-F.Struct fs) l h = struct_no_interface l h
  kept_interface_layer (Term-F.Interface ms) l h = h
  kept_interface_layer (Term-F.Plain b) l h = ap interface_layer h.0
  kept_interface_layer (Term-F.Named n) l h = ap interface_layer h.0
  kept_interface_layer (Term-F.Pointer t) l h = ap interface_layer h.0
  kept_interface_layer (Term-F.Slice t) l h = ap interface_layer h.0
  kept_interface_layer (Term-F.Array n t) l h = ap interface_layer h.0
  kept_interface_layer (Term-F.Map j t) l h = ap interface_layer h.0
  kept_interface_layer (Term-F.Chan d t) l h = ap interface_layer h.0
  kept_interface_layer (Term-F.Func g) l h = ap interface_layer h.0

module _ (old new before after : Packages) (pairs : List TypePair) (T U : Table) (D : Worlds old new before after pairs T U) where
  abbrev S : Table
  S = types_of old

  abbrev S' : Table
  S' = types_of new

  abbrev pub r : Naming
  r = new_name pairs

  abbrev pub to : Term → Term
  to = image r same_sels

  abbrev pub std : TypeName → Bool
  std = shared_std before after

  abbrev pub is_open : Sel → Bool
  is_open = is_open_sel before

  pub shared : IsShared T U std is_open
  shared = X.shared before after D.serves.world D.serves_too.world D.share_too D.alone old new T U D.serves D.serves_too

  abbrev pub Given : Term → Type 0
  Given = IsGiven pairs std is_open

  -- a type of the standard library isn't of the module
  std_option : (n : TypeName) (o : Option Package) → std n ≡ true → package_at old n.path ≡ o → of_module o ≡ false
  std_option n None h e = refl
  std_option n (Some p) h e = by (is_error n) refl
    where
      by : (b : Bool) → is_error n ≡ b → of_module (Some p) ≡ false
      by true f = absurd ((N.package_told old D.old_world n.path p e).1 (error_path n f))
      by false f =
          let v = X.view before after D.serves.world D.serves_too.world D.share_too D.alone n h f in
          let q : ◌≡◌ {A = Option Package} (Some p) (Some v.shared_package) = sym (D.serves.holds n.path p e) ∙ v.there in
          ap (λ (x : Option Package). of_module x) q ∙ ap not v.from_std

  pub fixes : (n : TypeName) → std n ≡ true → r n ≡ n
  fixes n h = P.stays old new pairs D.holds D.compatible n (std_option n (package_at old n.path) h refl)

  abbrev pub IsAlike : Term → Type 0
  IsAlike = A.IsAlike T U r std is_open shared fixes

  wide : Serves old before (types_of before)
  wide = record { world = D.serves.world; holds = D.serves.holds; table = λ x h. refl }

  wide_too : Serves new after (types_of after)
  wide_too = record { world = D.serves_too.world; holds = D.serves_too.holds; table = λ x h. refl }

  -- a name of the standard library that both worlds have is shared
  shares_name : (n : TypeName) → had S n ≡ true → had S' n ≡ true → is_std_name before n ≡ true → std n ≡ true
  shares_name n h k s = X.shares before after D.serves.world D.serves_too.world D.share_too D.alone n
      (ap is_some (V.same old before (types_of before) D.old_world wide n h) ∙ h)
      (ap is_some (V.same new after (types_of after) D.new_world wide_too n k) ∙ k)
      s

  std_package : (path : List ℕ) → of_std (package_at old path) ≡ true → of_std (package_at before path) ≡ true
  std_package path e = by (package_at old path) refl
    where
      by : (o : Option Package) → package_at old path ≡ o → of_std (package_at before path) ≡ true
      by None f = absurd (no_layer (of_std (package_at old path)) e (ap of_std f))
      by (Some q) f = ap of_std (D.serves.holds path q f ∙ sym f) ∙ e

  std_old : (n : TypeName) → is_std_name old n ≡ true → is_std_name before n ≡ true
  std_old n e = by (is_error n) refl
    where
      by : (b : Bool) → is_error n ≡ b → is_std_name before n ≡ true
      by true f = or_left (is_error n) (of_std (package_at before n.path)) f
      by false f = or_right (is_error n) (of_std (package_at before n.path)) (std_package n.path (or_other (is_error n) (of_std (package_at old n.path)) f e))

  opens : (s : Sel) → is_open_sel old s ≡ true → is_open s ≡ true
  opens s e = by (bytes_eq s.«package» []) refl
    where
      by : (b : Bool) → bytes_eq s.«package» [] ≡ b → is_open s ≡ true
      by true f = or_left (bytes_eq s.«package» []) (of_std (package_at before s.«package»)) f
      by false f = or_right (bytes_eq s.«package» []) (of_std (package_at before s.«package»)) (std_package s.«package» (or_other (bytes_eq s.«package» []) (of_std (package_at old s.«package»)) f e))

  -- a type of the old world of the standard library, which the new world has too
  std_alike : (t : Term) → N.IsNamed old D.old_world t → N.IsNamed new D.new_world t → IsOfStd old t → IsAlike t
  std_alike t a b c = (passes std (names t) (λ n h. shares_name n (a n h) (b n h) (std_old n (passing (is_std_name old) (names t) n c.0 h))), passes is_open (selectors t) (λ s h. opens s (passing (is_open_sel old) (selectors t) s c.1 h)))

  home_is_std : (s : Sel) → (s.«package» ≡ []) ⊎ ((p : Package) × (package_at old s.«package» ≡ Some p)) → is_open s ≡ true → (s.«package» ≡ []) ⊎ (is_std_sel old s ≡ true)
  home_is_std s (inl e) o = inl e
  home_is_std s (inr p) o = by (bytes_eq s.«package» []) refl
    where
      by : (b : Bool) → bytes_eq s.«package» [] ≡ b → (s.«package» ≡ []) ⊎ (is_std_sel old s ≡ true)
      by true e = inl ((bytes_decides s.«package» []).0 e)
      by false e = inr (ap of_std (p.1 ∙ sym (D.serves.holds s.«package» p.0 p.1)) ∙ or_other (bytes_eq s.«package» []) (of_std (package_at before s.«package»)) e o)

  module _ (p : TypePair) (k : Has pairs p) where
    resolved : AreIn old new D.old_world D.new_world p
    resolved = pair_resolves old new D.old_world D.new_world (D.holds.owned p k).1

    pub named_old : N.IsNamed old D.old_world p.old
    named_old = N.from_leaves old D.old_world p.old resolved.0

    pub named_new : N.IsNamed new D.new_world p.new
    named_new = N.from_leaves new D.new_world p.new resolved.1

    pub labelled : L.IsLabelled old D.old_world D.stay p.old
    labelled = pair_labelled old new D.old_world D.stay (D.holds.owned p k).1

    pub is_new : p.new ≡ to p.old
    is_new = P.paired old new pairs D.holds D.compatible p k

    pub given : Given p.old
    given = inl (p, k, refl)

    pub under_old : under T p.old ≡ under S p.old
    under_old = V.under_is old before T D.old_world D.serves p.old named_old

    pub under_new : under U (to p.old) ≡ under S' p.new
    under_new = ap (under U) (sym is_new) ∙ V.under_is new after U D.new_world D.serves_too p.new named_new

    -- ---- the three kinds of old types: of the module, of the standard library, and not defined

    new_level : (n : TypeName) → out-Term p.old ≡ Term-F.Named n → out-Term p.new ≡ Term-F.Named (r n)
    new_level n e = ap out-Term is_new ∙ out_image r same_sels p.old ∙ ap (image_of_layer r same_sels) e

    std_pair : (n : TypeName) → out-Term p.old ≡ Term-F.Named n → of_module (package_at old n.path) ≡ false → IsAlike p.old
    std_pair n e m = (subst (λ (xs : Names). Passes std xs) (sym (named_names p.old n e)) (is_std, tt), subst (λ (xs : Sels). Passes is_open xs) (sym (named_selectors p.old n e)) tt)
      where
        had_old : had S n ≡ true
        had_old = N.named_at old D.old_world p.old n named_old e

        had_new : had S' n ≡ true
        had_new = N.named_at new D.new_world p.new n named_new (new_level n e ∙ ap Term-F.Named (P.stays old new pairs D.holds D.compatible n m))

        std_name : is_std_name before n ≡ true
        std_name = by (is_error n) refl
          where
            of_option : (q : Package) → package_at old n.path ≡ Some q → of_std (package_at before n.path) ≡ true
            of_option q f = ap of_std (D.serves.holds n.path q f) ∙ not_module (q.from_std) (sym (ap (λ (o : Option Package). of_module o) f) ∙ m)
              where
                not_module : (b : Bool) → not b ≡ false → b ≡ true
                not_module true x = refl
                not_module false x = absurd (cc)

            by : (b : Bool) → is_error n ≡ b → is_std_name before n ≡ true
            by true f = or_left (is_error n) (of_std (package_at before n.path)) f
            by false f = let q = N.had_package old D.old_world n had_old f in or_right (is_error n) (of_std (package_at before n.path)) (of_option q.0 q.1)

        is_std : std n ≡ true
        is_std = shares_name n had_old had_new std_name

    pub module_pair : (n : TypeName) → out-Term p.old ≡ Term-F.Named n → of_module (package_at old n.path) ≡ true → are_of_module old new p ≡ true
    module_pair n e m = P.module_pair old new pairs D.holds D.compatible p n (r n) k (record { before = e; after = new_level n e }) m

    pub by_kind : (F : Type 0) → (are_of_module old new p ≡ true → F) → (IsAlike p.old → F) → (is_name (out-Term p.old) ≡ false → F) → F
    by_kind F f g h = by (is_name (out-Term p.old)) refl
      where
        by_name : (n : TypeName) → out-Term p.old ≡ Term-F.Named n → (b : Bool) → of_module (package_at old n.path) ≡ b → F
        by_name n e true m = f (module_pair n e m)
        by_name n e false m = g (std_pair n e m)

        by : (b : Bool) → is_name (out-Term p.old) ≡ b → F
        by true e = let n = is_name_of (out-Term p.old) e in by_name n.0 n.1 (of_module (package_at old n.0.path)) refl
        by false e = h e

    pub of_pair : (t : Term) → Has pairs (pair t (to t)) → Given t
    of_pair t h = inl (pair t (to t), h, refl)

    pub part_pair : (u : Term) → Has (parts (out-Term p.old)) u → Has pairs (pair u (to u))
    part_pair u h = P.part_of old new pairs D.holds D.compatible p k u h

    -- ---- what is underneath

    pub beneath : IsKeptLayer r Given (under T p.old) (under U (to p.old))
    beneath = by_kind (IsKeptLayer r Given (under T p.old) (under U (to p.old)))
        (λ m. subst (λ x. IsKeptLayer r Given x (under U (to p.old))) (sym under_old) (subst (λ y. IsKeptLayer r Given (under S p.old) y) (sym under_new)
        (from_kept r pairs Given of_pair (under S p.old) (under S' p.new) (K.beneath old new pairs D.holds D.compatible D.old_world D.new_world p k m))))
        (λ a. A.beneath T U r std is_open shared fixes Given (λ u h. inr h) p.old a)
        (λ n. subst (λ x. IsKeptLayer r Given x (under U (to p.old))) (sym (plain_under T (out-Term p.old) n)) (from_image r pairs Given of_pair (out-Term p.old) (under U (to p.old)) (image_level n) part_pair))
      where
        image_level : is_name (out-Term p.old) ≡ false → under U (to p.old) ≡ image_of_layer r same_sels (out-Term p.old)
        image_level n =
            let e : out-Term p.new ≡ image_of_layer r same_sels (out-Term p.old) = same_level old new pairs D.holds D.compatible p k n in
            let q : is_name (out-Term p.new) ≡ false = ap is_name e ∙ plain_layer (out-Term p.old) n in
            under_new ∙ plain_under S' (out-Term p.new) q ∙ e
          where
            plain_layer : (l : Layer) → is_name l ≡ false → is_name (image_of_layer r same_sels l) ≡ false
            plain_layer (Term-F.Named x) e = absurd (cc)
            plain_layer (Term-F.Plain b) e = refl
            plain_layer (Term-F.Pointer u) e = refl
            plain_layer (Term-F.Slice u) e = refl
            plain_layer (Term-F.Array m u) e = refl
            plain_layer (Term-F.Map m u) e = refl
            plain_layer (Term-F.Chan d u) e = refl
            plain_layer (Term-F.Func g) e = refl
            plain_layer (Term-F.Struct fs) e = refl
            plain_layer (Term-F.Interface ms) e = refl

    structs : struct_layer (under S p.old) ≡ true → have_structs old new p ≡ true
    structs e =
        let f : struct_layer (under S' p.new) ≡ true = ap struct_layer (sym under_new) ∙ kept_struct_layer r pairs Given of_pair (under T p.old) (under U (to p.old)) beneath (ap struct_layer under_old ∙ e) in
        λ i. both e f i
      where
        both : struct_layer (under S p.old) ≡ true → struct_layer (under S' p.new) ≡ true → (struct_layer (under S p.old) && struct_layer (under S' p.new)) ≡ true
        both a b = (λ i. a i && b i)

    interfaces_are : interface_layer (under S' p.new) ≡ interface_layer (under S p.old)
    interfaces_are = ap interface_layer (sym under_new) ∙ kept_interface_layer r pairs Given of_pair (under T p.old) (under U (to p.old)) beneath ∙ ap interface_layer under_old

    plain_structs : is_name (out-Term p.old) ≡ false → struct_layer (under S p.old) ≡ true → are_structs p ≡ true
    plain_structs n e =
        let a : struct_layer (out-Term p.old) ≡ true = sym (ap struct_layer (plain_under S (out-Term p.old) n)) ∙ e in
        let b : struct_layer (out-Term p.new) ≡ true = ap struct_layer (same_level old new pairs D.holds D.compatible p k n) ∙ struct_image (out-Term p.old) a in
        λ i. a i && b i
      where
        struct_image : (l : Layer) → struct_layer l ≡ true → struct_layer (image_of_layer r same_sels l) ≡ true
        struct_image (Term-F.Struct fs) x = refl
        struct_image (Term-F.Plain c) x = absurd (cc)
        struct_image (Term-F.Named c) x = absurd (cc)
        struct_image (Term-F.Pointer u) x = absurd (cc)
        struct_image (Term-F.Slice u) x = absurd (cc)
        struct_image (Term-F.Array m u) x = absurd (cc)
        struct_image (Term-F.Map m u) x = absurd (cc)
        struct_image (Term-F.Chan d u) x = absurd (cc)
        struct_image (Term-F.Func g) x = absurd (cc)
        struct_image (Term-F.Interface ms) x = absurd (cc)

    members_of_module : are_of_module old new p ≡ true → have_members old new p ≡ true
    members_of_module m = or_left (are_of_module old new p) (are_structs p) m

    members_of_structs : are_structs p ≡ true → have_members old new p ≡ true
    members_of_structs m = or_right (are_of_module old new p) (are_structs p) m

    sets_of_module : are_of_module old new p ≡ true → interface_layer (under S p.old) ≡ false → have_method_sets old new p ≡ true
    sets_of_module m e =
        let f : interface_layer (under S' p.new) ≡ false = interfaces_are ∙ e in
        or_left (are_of_module old new p && not (interface_layer (under S p.old)) && not (interface_layer (under S' p.new))) (are_structs p) (λ i. m i && not (e i) && not (f i))

    sets_of_structs : are_structs p ≡ true → have_method_sets old new p ≡ true
    sets_of_structs m = or_right (are_of_module old new p && not (interface_layer (under S p.old)) && not (interface_layer (under S' p.new))) (are_structs p) m

    have_both : interface_layer (under S p.old) ≡ true → have_interfaces old new p ≡ true
    have_both e = let f : interface_layer (under S' p.new) ≡ true = interfaces_are ∙ e in λ i. e i && f i

    -- ---- fields

    abbrev KeepsField : Field → Type 0
    KeepsField f = (g : Field) × Has (fields_of (under U (to p.old))) g × (field_sel g ≡ field_sel f) × (field_type g ≡ to (field_type f)) × Given (field_type f)

    kept_field : (f : Field) → Has (fields_of (under S p.old)) f → (field_sel f).«package» ≡ [] → have_members old new p ≡ true → KeepsField f
    kept_field f h x m =
        let g = K.field_kept old new pairs D.holds D.compatible D.old_world D.new_world p k m (structs (struct_of_field (under S p.old) f h)) f h x in
        (g.0, subst (λ l. Has (fields_of l) g.0) (sym under_new) g.1, g.2, g.3, of_pair (field_type f) (subst (λ t. Has pairs (pair (field_type f) t)) g.3 g.4))

    pub fields : (f : Field) → Has (fields_of (under T p.old)) f → (field_sel f).«package» ≡ [] → KeepsField f
    fields f h x =
        let i : Has (fields_of (under S p.old)) f = subst (λ l. Has (fields_of l) f) under_old h in
        by_kind (KeepsField f)
        (λ m. kept_field f i x (members_of_module m))
        (λ a. let g = A.fields T U r std is_open shared fixes p.old f a h in (g.0, g.1, g.2, g.3, inr g.4))
        (λ n. kept_field f i x (members_of_structs (plain_structs n (struct_of_field (under S p.old) f i))))

    -- ---- what selectors find

    at_old : (s : Sel) (b : Bool) (d : ℕ) (e : Ending) → IsOnly T s (at_spot b p.old) d e → IsOnly S s (at_spot b p.old) d e
    at_old s b d e o = V.only_back old before T D.old_world D.serves s (at_spot b p.old) d e named_old o

    at_new : (s : Sel) (b : Bool) (d : ℕ) (e : Ending) → IsOnly S' s (at_spot b p.new) d e → IsOnly U s (at_spot b (to p.old)) d e
    at_new s b d e o = subst (λ t. IsOnly U s (at_spot b t) d e) is_new (V.only_in new after U D.new_world D.serves_too s (at_spot b p.new) d e named_new o)

    abbrev KeepsFound : Sel → Bool → Bool → Term → Type 0
    KeepsFound s b q v = (c : ℕ) × (x : Bool) × IsOnly U s (at_spot b (to p.old)) c (end_at x (field (to v))) × (q ≡ true → x ≡ true) × Given v

    kept_found : (s : Sel) (b q : Bool) (d : ℕ) (v : Term) → s.«package» ≡ [] → (IsBlank s → ⊥) → IsOnly S s (at_spot b p.old) d (end_at q (field v)) → have_members old new p ≡ true → KeepsFound s b q v
    kept_found s b q d v x blank o m =
        let f = FF.found_field old new pairs D.holds D.compatible D.old_world D.new_world p k m (structs (found_struct S s (at_spot b p.old) d q v o)) s x blank b q d v o in
        (f.0, f.1, at_new s b f.0 (end_at f.1 (field (to v))) f.2, f.3, of_pair v f.4)

    pub found_field : (s : Sel) (b q : Bool) (d : ℕ) (v : Term) → s.«package» ≡ [] → (IsBlank s → ⊥) → IsOnly T s (at_spot b p.old) d (end_at q (field v)) → KeepsFound s b q v
    found_field s b q d v x blank o =
        let i = at_old s b d (end_at q (field v)) o in
        by_kind (KeepsFound s b q v)
        (λ m. kept_found s b q d v x blank i (members_of_module m))
        (λ a. let f = A.found_field T U r std is_open shared fixes p.old s b q d v a o in (d, q, f.0, (λ e. e), inr f.1))
        (λ n. kept_found s b q d v x blank i (members_of_structs (plain_structs n (found_struct S s (at_spot b p.old) d q v i))))

    abbrev KeepsMethod : Sel → Bool → Bool → Bool → Signature → Type 0
    KeepsMethod s b q a g =
        (c : ℕ) × (x : Bool) × (e : Bool) × (m : Option TypeName) × IsOnly U s (at_spot b (to p.old)) c (end_at x (method m e (image_of_signature r same_sels g))) × (Reaches a q → Reaches e x) × Given (function_type g) × ((n : TypeName) → m ≡ Some n → n.path ≢ client_path)

    -- what is found in the new world is declared for no type of a client
    owner_of : (s : Sel) (b x e : Bool) (c : ℕ) (m : Option TypeName) (g : Signature) → IsOnly S' s (at_spot b p.new) c (end_at x (method m e g)) → (n : TypeName) → m ≡ Some n → n.path ≢ client_path
    owner_of s b x e c m g o n q =
        let f = (R.found_in S' (N.IsNamed new D.new_world) AnySel AnyMethod (N.named new D.new_world S' (λ y h. refl)) s c (at_spot b p.new) (end_at x (method m e g)) named_new o).owner n q in
        N.not_client new D.new_world n (N.named_at new D.new_world f.0 n f.1 f.2)

    signature_named : (s : Sel) (b x e : Bool) (c : ℕ) (m : Option TypeName) (g : Signature) → IsOnly S' s (at_spot b p.new) c (end_at x (method m e g)) → N.IsNamed new D.new_world (function_type g)
    signature_named s b x e c m g o = (R.found_in S' (N.IsNamed new D.new_world) AnySel AnyMethod (N.named new D.new_world S' (λ y h. refl)) s c (at_spot b p.new) (end_at x (method m e g)) named_new o).target

    signature_here : (s : Sel) (b q a : Bool) (d : ℕ) (o : Option TypeName) (g : Signature) → IsOnly S s (at_spot b p.old) d (end_at q (method o a g)) → N.IsNamed old D.old_world (function_type g)
    signature_here s b q a d o g i = (R.found_in S (N.IsNamed old D.old_world) AnySel AnyMethod (N.named old D.old_world S (λ y h. refl)) s d (at_spot b p.old) (end_at q (method o a g)) named_old i).target

    kept_method : (s : Sel) (b q a : Bool) (d : ℕ) (o : Option TypeName) (g : Signature) → FindsMethod new pairs s b p.new a q g → KeepsMethod s b q a g
    kept_method s b q a d o g f =
        (f.0, f.1, f.3, f.2, at_new s b f.0 (end_at f.1 (method f.2 f.3 (image_of_signature r same_sels g))) f.4, f.5, of_pair (function_type g) (subst (λ u. Has pairs (pair (function_type g) u)) (sym (image_roll r same_sels (Term-F.Func g))) f.6), owner_of s b f.1 f.3 f.0 f.2 (image_of_signature r same_sels g) f.4)

    kept_std_method : (s : Sel) (b q a : Bool) (d : ℕ) (o : Option TypeName) (g : Signature) → is_std_sel old s ≡ true → IsOnly S s (at_spot b p.old) d (end_at q (method o a g)) → FindsStdMethod new s b p.new a q g → KeepsMethod s b q a g
    kept_std_method s b q a d o g x i f =
        let of_std : IsOfStd old (function_type g) = (R.found_in S (L.IsLabelled old D.old_world D.stay) (L.IsHome old D.old_world D.stay) (L.IsStdOnly old D.old_world D.stay) (L.labelled old D.old_world D.stay) s d (at_spot b p.old) (end_at q (method o a g)) labelled i).selected.1 x in
        let alike = std_alike (function_type g) (signature_here s b q a d o g i) (signature_named s b f.1 f.3 f.0 f.2 g f.4) of_std in
        let same : image_of_signature r same_sels g ≡ g = signature_stays r g (A.to_stays T U r std is_open shared fixes (function_type g) alike) in
        (f.0, f.1, f.3, f.2, subst (λ h. IsOnly U s (at_spot b (to p.old)) f.0 (end_at f.1 (method f.2 f.3 h))) (sym same) (at_new s b f.0 (end_at f.1 (method f.2 f.3 g)) f.4), f.5, inr alike, owner_of s b f.1 f.3 f.0 f.2 g f.4)

    by_set : (s : Sel) (b q a : Bool) (d : ℕ) (o : Option TypeName) (g : Signature) → (s.«package» ≡ []) ⊎ (is_std_sel old s ≡ true) → IsOnly S s (at_spot b p.old) d (end_at q (method o a g)) → have_method_sets old new p ≡ true → KeepsMethod s b q a g
    by_set s b q a d o g (inl x) i h = kept_method s b q a d o g (FM.found_method old new pairs D.holds D.compatible D.old_world D.new_world p k h s x b q a d o g i)
    by_set s b q a d o g (inr x) i h = kept_std_method s b q a d o g x i (FM.found_std_method old new pairs D.holds D.compatible D.old_world D.new_world p k h s x b q a d o g i)

    by_interface : (s : Sel) (b q a : Bool) (d : ℕ) (o : Option TypeName) (g : Signature) → (s.«package» ≡ []) ⊎ (is_std_sel old s ≡ true) → IsOnly S s (at_spot b p.old) d (end_at q (method o a g)) → are_of_module old new p ≡ true → have_interfaces old new p ≡ true → KeepsMethod s b q a g
    by_interface s b q a d o g (inl x) i m h = kept_method s b q a d o g (IM.found_method old new pairs D.holds D.compatible D.old_world D.new_world p k m h s x b q a d o g i)
    by_interface s b q a d o g (inr x) i m h = kept_std_method s b q a d o g x i (IM.found_std_method old new pairs D.holds D.compatible D.old_world D.new_world p k m h s x b q a d o g i)

    home : (s : Sel) (b q a : Bool) (d : ℕ) (o : Option TypeName) (g : Signature) → is_open s ≡ true → IsOnly S s (at_spot b p.old) d (end_at q (method o a g)) → (s.«package» ≡ []) ⊎ (is_std_sel old s ≡ true)
    home s b q a d o g x i = home_is_std s ((R.found_in S (L.IsLabelled old D.old_world D.stay) (L.IsHome old D.old_world D.stay) (L.IsStdOnly old D.old_world D.stay) (L.labelled old D.old_world D.stay) s d (at_spot b p.old) (end_at q (method o a g)) labelled i).selected.0) x

    of_module_method : (s : Sel) (b q a : Bool) (d : ℕ) (o : Option TypeName) (g : Signature) → (s.«package» ≡ []) ⊎ (is_std_sel old s ≡ true) → IsOnly S s (at_spot b p.old) d (end_at q (method o a g)) → are_of_module old new p ≡ true → KeepsMethod s b q a g
    of_module_method s b q a d o g x i m = by (interface_layer (under S p.old)) refl
      where
        by : (c : Bool) → interface_layer (under S p.old) ≡ c → KeepsMethod s b q a g
        by true e = by_interface s b q a d o g x i m (have_both e)
        by false e = by_set s b q a d o g x i (sets_of_module m e)

    of_plain_method : (s : Sel) (b q a : Bool) (d : ℕ) (o : Option TypeName) (g : Signature) → (s.«package» ≡ []) ⊎ (is_std_sel old s ≡ true) → IsOnly T s (at_spot b p.old) d (end_at q (method o a g)) → is_name (out-Term p.old) ≡ false → KeepsMethod s b q a g
    of_plain_method s b q a d o g x i n = by (struct_layer (out-Term p.old)) refl
      where
        interface_method : struct_layer (out-Term p.old) ≡ false → KeepsMethod s b q a g
        interface_method e =
            let f = plain_method T U r p.old n s b e d q a o g i in
            let part : Has (parts (out-Term p.old)) (function_type g) = subst (λ h. Has (parts (out-Term p.old)) (function_type h)) f.signed (method_stands (out-Term p.old) f.it f.stands) in
            (0, q, a, o, f.only, (λ y. y), of_pair (function_type g) (part_pair (function_type g) part), (λ m h. absurd (N.no_option m (f.owner ∙ h))))
          where
            method_stands : (l : Layer) (m : Method) → Has (methods_of l) m → Has (parts l) (method_type m)
            method_stands (Term-F.Interface ms) m h = in_map method_type ms m h
            method_stands l m h = absurd h

        by : (c : Bool) → struct_layer (out-Term p.old) ≡ c → KeepsMethod s b q a g
        by true e = by_set s b q a d o g x (at_old s b d (end_at q (method o a g)) i) (sets_of_structs (plain_structs n (ap struct_layer (plain_under S (out-Term p.old) n) ∙ e)))
        by false e = interface_method e

    pub found_method : (s : Sel) (b q a : Bool) (d : ℕ) (o : Option TypeName) (g : Signature) → is_open s ≡ true → IsOnly T s (at_spot b p.old) d (end_at q (method o a g)) → KeepsMethod s b q a g
    found_method s b q a d o g x i =
        let j = at_old s b d (end_at q (method o a g)) i in
        let h = home s b q a d o g x j in
        by_kind (KeepsMethod s b q a g)
        (λ m. of_module_method s b q a d o g h j m)
        (λ c. let f = A.found_method T U r std is_open shared fixes p.old s b q a d o g c i in (d, q, a, o, f.0, (λ y. y), inr f.1, f.2))
        (λ n. of_plain_method s b q a d o g h i n)

    pub strange : (s : Sel) (d : ℕ) (b : Bool) → s.«package» ≡ client_path → ends T s d (at_spot b p.old) ≡ []
    strange s d b e =
        sym (V.ends_are old before T D.old_world D.serves s (at_spot b p.old) d named_old)
        ∙ R.none_in S (L.IsLabelled old D.old_world D.stay) (L.IsHome old D.old_world D.stay) (L.IsStdOnly old D.old_world D.stay) (L.labelled old D.old_world D.stay) s d (at_spot b p.old) labelled
        (λ h. L.not_client old D.old_world D.stay s h e) (λ g h. L.not_client old D.old_world D.stay s h.0 e)

    -- ---- entries

    pub has_entry : HasEntry T (out-Term p.old) × HasEntry U (out-Term (to p.old))
    has_entry = (
      (N.entered old D.old_world T (V.same old before T D.old_world D.serves) p.old named_old).0,
      subst (λ t. HasEntry U (out-Term t)) is_new (N.entered new D.new_world U (V.same new after U D.new_world D.serves_too) p.new named_new).0,
    )

    pub on_way : (b : Bool) (x : Spot) → OnWay U (at_spot b (to p.old)) x → HasEntry U (out-Term x.term) × IsForeign (out-Term x.term)
    on_way b x w = N.entered new D.new_world U (V.same new after U D.new_world D.serves_too) x.term
        (R.way_in U (N.IsNamed new D.new_world) AnySel AnyMethod (N.named new D.new_world U (V.same new after U D.new_world D.serves_too)) (subst (λ t. OnWay U (at_spot b t) x) (sym is_new) w) named_new)

    pub leads : (u : Term) → LeadsTo U (to p.old) u → HasEntry U (out-Term u)
    leads u l = (N.entered new D.new_world U (V.same new after U D.new_world D.serves_too) u
        (R.leads_in U (N.IsNamed new D.new_world) AnySel AnyMethod (N.named new D.new_world U (V.same new after U D.new_world D.serves_too)) (subst (λ t. LeadsTo U t u) (sym is_new) l) named_new)).0

    -- ---- comparing, and interfaces

    pub compares : Comparable T p.old → Comparable U (to p.old)
    compares c =
        let f = (P.keeps old new pairs D.holds D.compatible p k).0 in
        subst (Comparable U) is_new (V.comparable_in new after U D.new_world D.serves_too p.new named_new (f.comparable (record { alike = f.types; before = V.comparable_back old before T D.old_world D.serves p.old named_old c })))

    pub interfaces : (n : TypeName) (ms : List Method) → out-Term p.old ≡ Term-F.Named n → under T p.old ≡ Term-F.Interface ms → Once (map method_sel ms) × (declared_methods T (out-Term p.old) ≡ [])
    interfaces n ms e u =
        let b = IM.bare old D.old_world p.old n ms e (sym under_old ∙ u) in
        (b.once, V.declared_is old before T D.old_world D.serves p.old named_old ∙ b.none)

    -- a method of an interface that isn't open seals it
    seals : (s : Sel) → L.IsHome old D.old_world D.stay s → is_open s ≡ false → is_sealing old s ≡ true
    seals s (inl e) x = absurd (no_layer (is_open s) (or_left (bytes_eq s.«package» []) (of_std (package_at before s.«package»)) ((bytes_decides s.«package» []).1 e)) x)
    seals s (inr q) x = ap of_module q.1 ∙ not_std (q.0).from_std (sym (ap of_std (D.serves.holds s.«package» q.0 q.1)) ∙ or_false (bytes_eq s.«package» []) (of_std (package_at before s.«package»)) x)
      where
        or_false : (a b : Bool) → (a || b) ≡ false → b ≡ false
        or_false true b e = absurd (cc)
        or_false false b e = e

        not_std : (b : Bool) → b ≡ false → not b ≡ true
        not_std true e = absurd (cc)
        not_std false e = refl

    pub sealed_pair : (ms : List Method) (m : Method) → under T p.old ≡ Term-F.Interface ms → Has ms m → is_open (method_sel m) ≡ false → IsSealedPair old new p
    sealed_pair ms m e h x =
        let u : under S p.old ≡ Term-F.Interface ms = sym under_old ∙ e in
        let j : Has (methods_of (under S p.old)) m = subst (λ l. Has (methods_of l) m) (sym u) h in
        let g = (R.method_in S (L.IsLabelled old D.old_world D.stay) (L.IsHome old D.old_world D.stay) (L.IsStdOnly old D.old_world D.stay) (L.labelled old D.old_world D.stay) p.old m labelled j).1.0 in
        record { owned = D.holds.owned p k; sealed = (m, j, seals (method_sel m) g x); still = interfaces_are ∙ ap interface_layer u }

    open_means : (s : Sel) → is_open s ≡ true → is_sealing old s ≡ true → ⊥
    open_means s x y = by (package_at old s.«package») refl
      where
        by : (q : Option Package) → package_at old s.«package» ≡ q → ⊥
        by None e = no_layer (is_sealing old s) y (ap of_module e)
        by (Some q) e =
            let f : of_std (package_at before s.«package») ≡ false = ap of_std (D.serves.holds s.«package» q e) ∙ no_std q.from_std (sym (ap of_module e) ∙ y) in
            let g : bytes_eq s.«package» [] ≡ true = or_first (bytes_eq s.«package» []) (of_std (package_at before s.«package»)) x f in
            (N.package_told old D.old_world s.«package» q e).1 ((bytes_decides s.«package» []).0 g)
          where
            no_std : (b : Bool) → not b ≡ true → b ≡ false
            no_std true h = absurd (cc)
            no_std false h = refl

            or_first : (a b : Bool) → (a || b) ≡ true → b ≡ false → a ≡ true
            or_first true b h j = refl
            or_first false b h j = absurd (no_layer b h j)

    abbrev KeepsUnsealed : List Method → Method → Type 0
    KeepsUnsealed ms n = (m : Method) × Has ms m × (n ≡ image_of_method r same_sels m)

    of_module_unsealed : (ms : List Method) → under S p.old ≡ Term-F.Interface ms → Each (λ m. is_open (method_sel m) ≡ true) ms → are_of_module old new p ≡ true → (n : Method) → Has (methods_of (under S' p.new)) n → KeepsUnsealed ms n
    of_module_unsealed ms u x a n h =
        let f = (P.keeps old new pairs D.holds D.compatible p k).0 in
        let i = have_both (ap interface_layer u) in
        let covers : (are_of_module old new p && have_interfaces old new p) ≡ true = λ c. a c && i c in
        let m = f.open_interfaces n (record { interfaces = covers; before = open_old; after = λ z. open_old ((f.sealing covers).not_new z); there = h }) in
        by m.0 m.1 m.2 (home_is_std (method_sel m.0) (home_of m.0 m.1) (each_open m.0 m.1))
      where
        each_open : (m : Method) → Has (methods_of (under S p.old)) m → is_open (method_sel m) ≡ true
        each_open m q = each_has (λ y. is_open (method_sel y) ≡ true) ms m x (subst (λ l. Has (methods_of l) m) u q)

        home_of : (m : Method) → Has (methods_of (under S p.old)) m → L.IsHome old D.old_world D.stay (method_sel m)
        home_of m q = (R.method_in S (L.IsLabelled old D.old_world D.stay) (L.IsHome old D.old_world D.stay) (L.IsStdOnly old D.old_world D.stay) (L.labelled old D.old_world D.stay) p.old m labelled q).1.0

        open_old : IsOpen old p.old
        open_old z = open_means (method_sel z.0) (each_open z.0 z.1) z.2

        interface_too : have_interfaces old new p ≡ true
        interface_too = have_both (ap interface_layer u)

        std_stays : Has (methods_of (under S p.old)) n → is_std_sel old (method_sel n) ≡ true → n ≡ image_of_method r same_sels n
        std_stays q y =
            let only = (R.method_in S (L.IsLabelled old D.old_world D.stay) (L.IsHome old D.old_world D.stay) (L.IsStdOnly old D.old_world D.stay) (L.labelled old D.old_world D.stay) p.old n labelled q).1.1 y in
            let a = (R.method_in S (N.IsNamed old D.old_world) AnySel AnyMethod (N.named old D.old_world S (λ z c. refl)) p.old n named_old q).0 in
            let b = (R.method_in S' (N.IsNamed new D.new_world) AnySel AnyMethod (N.named new D.new_world S' (λ z c. refl)) p.new n named_new h).0 in
            sym (method_stays r n (A.to_stays T U r std is_open shared fixes (method_type n) (std_alike (method_type n) a b only)))

        by : (m : Method) → Has (methods_of (under S p.old)) m → method_sel m ≡ method_sel n → ((method_sel m).«package» ≡ []) ⊎ (is_std_sel old (method_sel m) ≡ true) → KeepsUnsealed ms n
        by m q e (inl y) =
            let g = IM.no_new_method old new pairs D.holds D.compatible D.old_world D.new_world p k a interface_too open_old n h (sym (ap (λ (s : Sel). s.«package») e) ∙ y) in
            (g.0, subst (λ l. Has (methods_of l) g.0) u g.1, g.2)
        by m q e (inr y) =
            let z : is_std_sel old (method_sel n) ≡ true = sym (ap (is_std_sel old) e) ∙ y in
            let g = IM.no_new_std_method old new pairs D.holds D.compatible D.old_world D.new_world p k a interface_too open_old n h z in
            (n, subst (λ l. Has (methods_of l) n) u g, std_stays g z)

    pub unsealed : (ms : List Method) → under T p.old ≡ Term-F.Interface ms → Each (λ m. is_open (method_sel m) ≡ true) ms → (n : Method) → Has (methods_of (under U (to p.old))) n → KeepsUnsealed ms n
    unsealed ms e x n h = by_kind (KeepsUnsealed ms n)
        (λ m. of_module_unsealed ms (sym under_old ∙ e) x m n (subst (λ l. Has (methods_of l) n) under_new h))
        (λ a. A.unsealed T U r std is_open shared fixes p.old ms a e n h)
        (λ q. plain q)
      where
        plain : is_name (out-Term p.old) ≡ false → KeepsUnsealed ms n
        plain q =
            let o : out-Term p.old ≡ Term-F.Interface ms = sym (plain_under T (out-Term p.old) q) ∙ e in
            let y : out-Term (to p.old) ≡ Term-F.Interface (map (image_of_method r same_sels) ms) = out_image r same_sels p.old ∙ ap (image_of_layer r same_sels) o in
            let z : under U (to p.old) ≡ Term-F.Interface (map (image_of_method r same_sels) ms) = ap (under_layer U) y in
            let m = of_map (image_of_method r same_sels) ms n (subst (λ l. Has (methods_of l) n) z h) in
            (m.0, m.1, sym m.2)

    pub new_side : (n : TypeName) → out-Term p.old ≡ Term-F.Named n → are_of_module old new p ≡ true → of_module (package_at new (r n).path) ≡ true
    new_side n e m = sym (ap (module_layer new) (new_level n e)) ∙ (and_both (is_of_module old p.old) (is_of_module new p.new) m).1

    pub imported : (n : TypeName) → out-Term p.old ≡ Term-F.Named n → is_imported n ≡ true → is_imported (r n) ≡ true
    imported n e x = by_kind (is_imported (r n) ≡ true)
        (λ m. of_new (package_at new (r n).path) refl (new_side n e m))
        (λ a. ap is_imported (fixes n (A.name_in T U r std is_open shared fixes p.old n a e)) ∙ x)
        (λ q. absurd (named_plain (out-Term p.old) n e q))
      where
        of_new : (o : Option Package) → package_at new (r n).path ≡ o → of_module (package_at new (r n).path) ≡ true → is_imported (r n) ≡ true
        of_new None f m = absurd (no_layer (of_module (package_at new (r n).path)) m (ap of_module f))
        of_new (Some q) f m = let t = N.package_told new D.new_world (r n).path q f in imported_of (r n) t.1 t.0
