-- A declaration of a client is given on the new side the image of its entry; with it is known where the names of types lead by aliases.
use Rattle.std.proofs.Common.{◌≡◌, ◌⊎◌, inl, inr, ℕ, zero, suc, ◌≤◌, Bool, true, false, List, [], ◌∷◌, length, map, replicate, refl, sym, ap, ◌∙◌, subst, Option, Some, None}
use Rattle.std.specs.Prelude.{slice_get}
use Rattle.go_base.specs.Lists.{Each, Has as HasItem}
use Rattle.go_model.specs.declared.types.names.Sel.{Sel}
use Rattle.go_model.specs.declared.types.names.TypeName.{TypeName}
use Rattle.go_model.specs.declared.types.package.Defined.{Defined}
use Rattle.go_model.specs.declared.types.package.Entity.{Entity}
use Rattle.go_model.specs.declared.types.package.Entity.TheVariants as entity
use Rattle.go_model.specs.declared.types.term.Term.{Term, Term-F, out-Term, roll-Term, out-roll-Term}
use Rattle.go_model.specs.types.Imports.{is_imported}
use Rattle.go_model.specs.types.Terms.{Layer}
use Rattle.go_model.specs.types.Underlying.{entry, under, under_entry, under_layer}
use Rattle.go_rules.specs.Asks.{IsOwnLayer, Meets}
use Rattle.go_rules.specs.Environments.{Env}
use Rattle.go_rules.specs.Expressions.{IsTypeName, OfType}
use Rattle.go_rules.specs.Nodes.{Node, type}
use Rattle.go_rules.proofs.OneName.{none_some, one_some}
use Rattle.go_syntax.specs.declared.declaration.TypeSpec.{TypeSpec}
use Rattle.go_syntax.specs.declared.expression.Expr.{Expr}
use Rattle.go_syntax.specs.declared.name.Name.{Name}
use Rattle.go_syntax.specs.declared.name.QualifiedName.{QualifiedName}
use Rattle.go_syntax.specs.declared.types.«Type».{«Type» as Typ}
use Rattle.go_type_images.specs.Images.{Naming, image, image_of_layer, same_sels}
use Rattle.go_type_images.specs.Levels.{is_structured}
use Rattle.go_type_images.specs.Parts.{parts}
use Rattle.go_type_images.specs.declared.pair.TypePair.{TypePair}
use Rattle.go_type_images.proofs.ImageLevels.{image_roll}
use Rattle.go_typings.specs.DeclarationNodes.{nodes}
use Rattle.go_typings.specs.DeclarationRules.{AreConstants, constants_more, constants_none, Gives, gives_alias, gives_constants, gives_definition, gives_function, gives_method, gives_typed_variables, gives_variables, MayDefine, is_name, is_qualified, is_struct_or_interface}
use Rattle.go_typings.specs.Declarations.{Declaration, Form, alias, declarations, definition}
use Rattle.go_typings.specs.PackageEnvironments.{Entries, Entry, environment, objects, underlying, signed}
use Rattle.go_typings.specs.Receivers.{name_form, written_name}
use Rattle.go_typings.specs.Sources.{PackageSource, Setting}
use Rattle.go_client_types.specs.Keeping.{IsOwnEntry, Keeps}
use Rattle.go_client_types.specs.Reached.{IsMade, IsReached}
use Rattle.go_client_types.proofs.FoundEnds.{made_level, own_kept}
use Rattle.go_client_types.proofs.Own.{own_under}
use Rattle.go_client_types.proofs.Views as V
use Rattle.go_client_types.proofs.Views.{made_under}
use Rattle.go_client_expressions.proofs.Expressions as expressions
use Rattle.go_client_packages.specs.ClientEntries.{EntryReached, entry_image}
use Rattle.go_client_packages.proofs.AliasEnds.{Ends, EndsBy, ends_after}
use Rattle.go_client_packages.proofs.GivenImages.{given_kept}
use Rattle.go_client_packages.proofs.WrittenTypes.{DeclaredAs, Written, type_written}

-- ---- levels

not_structured : (l : Layer) → is_struct_or_interface l ≡ false → is_structured l ≡ false
not_structured (Term-F.Struct fs) e = absurd (cc)
not_structured (Term-F.Interface ms) e = absurd (cc)
not_structured (Term-F.Plain b) e = refl
not_structured (Term-F.Named n) e = refl
not_structured (Term-F.Pointer t) e = refl
not_structured (Term-F.Slice t) e = refl
not_structured (Term-F.Array n t) e = refl
not_structured (Term-F.Map k t) e = refl
not_structured (Term-F.Chan d t) e = refl
not_structured (Term-F.Func g) e = refl

plain_made : (l : Layer) → is_name l ≡ false → is_struct_or_interface l ≡ false → IsMade l
plain_made (Term-F.Struct fs) n e = absurd (cc)
plain_made (Term-F.Interface ms) n e = absurd (cc)
plain_made (Term-F.Named m) n e = absurd (cc)
plain_made (Term-F.Plain b) n e = tt
plain_made (Term-F.Pointer t) n e = tt
plain_made (Term-F.Slice t) n e = tt
plain_made (Term-F.Array k t) n e = tt
plain_made (Term-F.Map k t) n e = tt
plain_made (Term-F.Chan d t) n e = tt
plain_made (Term-F.Func g) n e = tt

image_name : (r : Naming) (l : Layer) → is_name (image_of_layer r same_sels l) ≡ is_name l
image_name r (Term-F.Struct fs) = refl
image_name r (Term-F.Interface ms) = refl
image_name r (Term-F.Named m) = refl
image_name r (Term-F.Plain b) = refl
image_name r (Term-F.Pointer t) = refl
image_name r (Term-F.Slice t) = refl
image_name r (Term-F.Array k t) = refl
image_name r (Term-F.Map k t) = refl
image_name r (Term-F.Chan d t) = refl
image_name r (Term-F.Func g) = refl

image_structured : (r : Naming) (l : Layer) → is_struct_or_interface (image_of_layer r same_sels l) ≡ is_struct_or_interface l
image_structured r (Term-F.Struct fs) = refl
image_structured r (Term-F.Interface ms) = refl
image_structured r (Term-F.Named m) = refl
image_structured r (Term-F.Plain b) = refl
image_structured r (Term-F.Pointer t) = refl
image_structured r (Term-F.Slice t) = refl
image_structured r (Term-F.Array k t) = refl
image_structured r (Term-F.Map k t) = refl
image_structured r (Term-F.Chan d t) = refl
image_structured r (Term-F.Func g) = refl

not_named : (n : TypeName) (l : Layer) → is_name l ≡ false → Term-F.Named n ≡ l → ⊥
not_named n l i e = no_truth (sym (ap is_name e ∙ i))
  where
    no_truth : false ≡ true → ⊥
    no_truth e = absurd (cc)

-- ---- objects that are no types

no_constant : (c : _) (v : _) (t : Term) → entity.Const c v ≡ entity.TypeOf t → ⊥
no_constant c v t e = absurd (cc)

no_variable : (x t : Term) → entity.Var x ≡ entity.TypeOf t → ⊥
no_variable x t e = absurd (cc)

no_function : (g : _) (t : Term) → entity.Function g ≡ entity.TypeOf t → ⊥
no_function g t e = absurd (cc)

pub one_type : (x t : Term) → entity.TypeOf x ≡ entity.TypeOf t → x ≡ t
one_type x t e = cc

one_objects : {xs ys : List Entity} → objects xs ≡ objects ys → xs ≡ ys
one_objects e = cc

no_objects : (g : _) (xs : List Entity) → signed g ≡ objects xs → ⊥
no_objects g xs e = absurd (cc)

-- no type stands in this place
abbrev pub NoType : List Entity → Type 0
NoType xs = (k : ℕ) (v : Term) → slice_get xs k ≡ Some (entity.TypeOf v) → ⊥

constants_no_type : {E : Env} {o : Option Typ} {es : List Expr} {xs : List Entity} → AreConstants E o es xs → NoType xs
constants_no_type constants_none k v e = none_some e
constants_no_type (constants_more {d = d} {v = w} a h x) zero v e = no_constant d w v (one_some e)
constants_no_type (constants_more a h x) (suc k) v e = constants_no_type x k v e

variables_no_type : (ts : List Term) → NoType (map entity.Var ts)
variables_no_type [] k v e = none_some e
variables_no_type (t ∷ ts) zero v e = no_variable t v (one_some e)
variables_no_type (t ∷ ts) (suc k) v e = variables_no_type ts k v e

same_no_type : (n : ℕ) (t : Term) → NoType (replicate n (entity.Var t))
same_no_type zero t k v e = none_some e
same_no_type (suc n) t zero v e = no_variable t v (one_some e)
same_no_type (suc n) t (suc k) v e = same_no_type n t k v e

function_no_type : (g : _) → NoType (entity.Function g ∷ [])
function_no_type g zero v e = no_function g v (one_some e)
function_no_type g (suc k) v e = none_some e

moved : {xs ys : List Entity} → NoType xs → objects xs ≡ objects ys → NoType ys
moved h e = subst NoType (one_objects e) h

-- what is known of the types that a declaration's objects are: an alias stands for a type that the client writes, or leads by so many aliases to a name of another
-- package; a constant, a variable and a function are no types
module _ (ds : List Declaration) (pairs : List TypePair) (std : TypeName → Bool) (is_open : Sel → Bool) (m : ℕ) where
  abbrev pub SettledAs : Form → Entry → Type 0
  SettledAs (alias c) x = (xs : List Entity) → x ≡ objects xs → (k : ℕ) (v : Term) → slice_get xs k ≡ Some (entity.TypeOf v) → Written pairs std is_open v ⊎ EndsBy ds m (written_name (name_form c.type_))
  SettledAs (definition c) x = Unit {0}
  SettledAs f x = (xs : List Entity) → x ≡ objects xs → NoType xs

-- ---- a declaration

module _ (s : Setting) (u : PackageSource) (b : Entries) (d : Declaration) (F G : Env) (r : Naming) (pairs : List TypePair) (std : TypeName → Bool) (is_open : Sel → Bool) (K : Keeps (environment s u b d) F r pairs std is_open)
    (more : (q : QualifiedName) (t : Term) → IsTypeName (environment s u b d) q t → IsTypeName G q t) (barred : G.profile ≡ true) (M : ℕ) (low : M ≤ length (declarations u))
    (own : (name : Name) (v : Term) → DeclaredAs u b name.text (entity.TypeOf v) → Written pairs std is_open v ⊎ Ends (declarations u) M (record { qualifier = None; name = name })) where
  abbrev E : Env
  E = environment s u b d

  abbrev ds : List Declaration
  ds = declarations u

  abbrev to : Term → Term
  to = image r same_sels

  abbrev layer : Layer → Layer
  layer = image_of_layer r same_sels

  abbrev R : Term → Type 0
  R = IsReached pairs std is_open

  abbrev Met : List Node → Type 0
  Met bs = Each (Meets G) bs

  abbrev Settles : Form → Entry → Type 0
  Settles = SettledAs ds pairs std is_open M

  -- ---- what is underneath a defined type

  -- the level is made by the client, and on the new side it is the image
  record Beneath (v : Term) (l : Layer) : Type 0 where
    pub same : under F.table (to v) ≡ layer l
    pub is_made : IsMade l
    pub reached : (w : Term) → HasItem (parts l) w → R w

  own_beneath : (v : Term) (l : Layer) (n : TypeName) (o : Option Defined) → is_imported n ≡ false → entry E.table n ≡ o → under_entry n o ≡ l → is_name l ≡ false → under F.table (to v) ≡ layer l → Beneath v l
  own_beneath v l n None i e f m g = absurd (not_named n l m f)
  own_beneath v l n (Some x) i e f m g =
      let o : IsOwnEntry pairs std is_open x = K.own_entries n x i e in
      record { same = g; is_made = subst IsMade f o.made; reached = λ w k. o.reached w (subst (λ z. HasItem (parts z) w) (sym f) k) }

  written_beneath : (v : Term) (l : Layer) → Written pairs std is_open v → under E.table v ≡ l → is_name l ≡ false → Beneath v l
  written_beneath v l (inl (n, f, i)) e m =
      let layer_own : IsOwnLayer (out-Term v) = subst IsOwnLayer (sym f) i in
      own_beneath v l n (entry E.table n) i refl (sym (ap (under_layer E.table) f) ∙ e) m (own_under E.table F.table r (own_kept E F r pairs std is_open K) (record { name = []; «package» = [] }) v layer_own ∙ ap layer e)
  written_beneath v l (inr (h, k)) e m =
      let f : out-Term v ≡ l = sym (made_under E.table (out-Term v) h) ∙ e in
      record { same = made_level E F r pairs std is_open K v h ∙ ap layer e; is_made = subst IsMade f h; reached = λ w j. k w (subst (λ z. HasItem (parts z) w) (sym f) j) }

  qualified : (o : Option QualifiedName) → EndsBy ds M o → is_qualified ds o ≡ true
  qualified None h = absurd h
  qualified (Some q) h = ends_after ds M (length ds) q low h

  named_beneath : (t : Typ) (v : Term) (l : Layer) → R v → EndsBy ds M (written_name (name_form t)) → under E.table v ≡ l → is_name l ≡ false → MayDefine E ds t l → Beneath v l
  named_beneath t v l h x e m may =
      let n = may K.barred (qualified (written_name (name_form t)) x) in
      let f = V.form_kept E F r pairs std is_open K v l h (not_structured l n) e in
      record { same = f.0; is_made = plain_made l m n; reached = f.1 }

  defined : (c : TypeSpec) (v : Term) (l : Layer) → OfType E c.type_ v → under E.table v ≡ l → is_name l ≡ false → MayDefine E ds c.type_ l → Meets G (type c.type_)
      → Gives F ds (definition c) (entry_image r (underlying (roll-Term l))) × EntryReached pairs std is_open (underlying (roll-Term l))
  defined c v l a e n may m =
      let f = expressions.type_kept E F G r pairs std is_open K more barred a m in
      let w = type_written s u b d F G r pairs std is_open K more barred M own c.type_ v a m in
      let x : Beneath v l = elim w [
        | inl h ↦ written_beneath v l h e n
        | inr h ↦ named_beneath c.type_ v l f.1 h e n may
      ] in (
        subst (λ z. Gives F ds (definition c) (underlying z)) (sym (image_roll r same_sels l)) (gives_definition f.0 x.same (image_name r l ∙ n) (λ p q. image_structured r l ∙ may K.barred q)),
        (subst IsMade (sym (out-roll-Term l)) x.is_made, λ z k. x.reached z (subst (λ y. HasItem (parts y) z) (out-roll-Term l) k)),
      )

  -- ---- each form

  aliased : (c : TypeSpec) (v : Term) → OfType E c.type_ v → Meets G (type c.type_) → Settles (alias c) (objects (entity.TypeOf v ∷ []))
  aliased c v a m xs e zero w q = subst (λ z. Written pairs std is_open z ⊎ EndsBy ds M (written_name (name_form c.type_))) (one_type v w (one_some (subst (λ ys. slice_get ys 0 ≡ Some (entity.TypeOf w)) (sym (one_objects e)) q))) (type_written s u b d F G r pairs std is_open K more barred M own c.type_ v a m)
  aliased c v a m xs e (suc k) w q = absurd (none_some (subst (λ ys. slice_get ys (suc k) ≡ Some (entity.TypeOf w)) (sym (one_objects e)) q))

  abbrev pub KeptHere : Form → Entry → Type 0
  KeptHere f x = Gives F ds f (entry_image r x) × EntryReached pairs std is_open x × Settles f x

  pub all_kept : {f : Form} {x : Entry} → Gives E ds f x → Met (nodes f) → KeptHere f x
  all_kept (gives_constants a e) m = let k = given_kept E F G r pairs std is_open K more barred tt (gives_constants a e) m in (k.0, k.1, λ xs q. moved (constants_no_type a) q)
  all_kept (gives_typed_variables {s = c} {u = v} e a) m = let k = given_kept E F G r pairs std is_open K more barred tt (gives_typed_variables e a) m in (k.0, k.1, λ xs q. moved (same_no_type (length c.names) v) q)
  all_kept (gives_variables {ts = ts} e a h) m = let k = given_kept E F G r pairs std is_open K more barred tt (gives_variables e a h) m in (k.0, k.1, λ xs q. moved (variables_no_type ts) q)
  all_kept (gives_alias {s = c} {u = v} a) m = let k = given_kept E F G r pairs std is_open K more barred tt (gives_alias a) m in (k.0, k.1, aliased c v a m.0)
  all_kept (gives_definition {s = c} {u = v} {l = l} a e n may) m = let k = defined c v l a e n may m.0 in (k.0, k.1, tt)
  all_kept (gives_function {g = g} a e) m = let k = given_kept E F G r pairs std is_open K more barred tt (gives_function a e) m in (k.0, k.1, λ xs q. moved (function_no_type g) q)
  all_kept (gives_method {g = g} a e) m = let k = given_kept E F G r pairs std is_open K more barred tt (gives_method a e) m in (k.0, k.1, λ xs q. absurd (no_objects g xs q))
