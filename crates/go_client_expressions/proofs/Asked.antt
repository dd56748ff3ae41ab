-- What is asked in a tree of a client on both sides, once all is had.
use Rattle.std.proofs.Common.{◌≡◌, Bool, true, false, List, [], ◌∷◌, map, sym, ap, subst}
use Rattle.go_base.specs.Lists.{Each}
use Rattle.go_model.specs.declared.types.names.Sel.{Sel}
use Rattle.go_model.specs.declared.types.names.TypeName.{TypeName}
use Rattle.go_model.specs.declared.types.term.Term.{Term, Term-F, out-Term}
use Rattle.go_model.specs.types.Imports.{is_imported}
use Rattle.go_model.specs.types.Terms.{Layer}
use Rattle.go_model.specs.types.Underlying.{under}
use Rattle.go_rules.specs.Asks.{ElementMeets, EmbedsField, EmbedsInterface, FieldMeets, IsOwnLayer, MayStandUnder, Meets, TypeMeets}
use Rattle.go_rules.specs.Environments.{Env}
use Rattle.go_rules.specs.Nodes.{ElemLayer, FieldLayer, Node, TypeLayer, stands_here, type, type_parts}
use Rattle.go_syntax.specs.declared.name.QualifiedName.{QualifiedName}
use Rattle.go_syntax.specs.declared.types.FieldDecl.{FieldDecl, FieldDecl-F, out-FieldDecl}
use Rattle.go_syntax.specs.declared.types.InterfaceElem.{InterfaceElem, InterfaceElem-F, out-InterfaceElem}
use Rattle.go_syntax.specs.declared.types.«Type».{«Type-F» as Typ-F, «out-Type» as out-Typ}
use Rattle.go_type_images.specs.Images.{Naming, image, image_of_layer, image_of_method, same_sels}
use Rattle.go_type_images.specs.declared.pair.TypePair.{TypePair}
use Rattle.go_type_images.proofs.ImageLevels.{out_image}
use Rattle.go_client_types.specs.Keeping.{Keeps}
use Rattle.go_client_types.proofs.FoundEnds.{own_kept}
use Rattle.go_client_types.proofs.Own.{own_under}
use Rattle.go_client_types.proofs.Relations as relations
use Rattle.go_client_types.proofs.TypeForms.{meets_parts}
use Rattle.go_client_expressions.proofs.Expressions.{type_kept, type_name_kept}
use Rattle.go_client_expressions.proofs.MetParts.{within}

-- what may stand underneath an embedded type may do so in the image
image_stands : (r : Naming) (star : Bool) (l : Layer) → MayStandUnder star l → MayStandUnder star (image_of_layer r same_sels l)
image_stands r true (Term-F.Pointer b) h = absurd h
image_stands r true (Term-F.Interface ms) h = absurd h
image_stands r true l h = tt
image_stands r false (Term-F.Pointer b) h = absurd h
image_stands r false l h = tt

own_image : (r : Naming) → ((n : TypeName) → is_imported n ≡ false → r n ≡ n) → (l : Layer) → IsOwnLayer l → IsOwnLayer (image_of_layer r same_sels l)
own_image r stays (Term-F.Named n) h = subst (λ m. is_imported m ≡ false) (sym (stays n h)) h
own_image r stays (Term-F.Plain b) h = tt
own_image r stays (Term-F.Interface ms) h = ap (map (image_of_method r same_sels)) h
own_image r stays (Term-F.Pointer t) h = absurd h
own_image r stays (Term-F.Slice t) h = absurd h
own_image r stays (Term-F.Array n t) h = absurd h
own_image r stays (Term-F.Map k t) h = absurd h
own_image r stays (Term-F.Chan d t) h = absurd h
own_image r stays (Term-F.Func g) h = absurd h
own_image r stays (Term-F.Struct fs) h = absurd h

module _ (E F : Env) (r : Naming) (pairs : List TypePair) (std : TypeName → Bool) (is_open : Sel → Bool) (K : Keeps E F r pairs std is_open) where
  abbrev to : Term → Term
  to = image r same_sels

  -- ---- what is embedded

  own_stays : (t : Term) → IsOwnLayer (out-Term t) → IsOwnLayer (out-Term (to t))
  own_stays t h = subst IsOwnLayer (sym (out_image r same_sels t)) (own_image r K.types.own (out-Term t) h)

  own_beneath : (t : Term) → IsOwnLayer (out-Term t) → under F.table (to t) ≡ image_of_layer r same_sels (under E.table t)
  own_beneath t h = own_under E.table F.table r (own_kept E F r pairs std is_open K) (record { name = []; «package» = [] }) t h

  field_kept : (star : Bool) (q : QualifiedName) → EmbedsField E star q → EmbedsField F star q
  field_kept star q m =
      let f = type_name_kept E F E r pairs std is_open K (λ x u a. a) K.barred q m.embedded m.names in
      let own = m.permitted K.barred in
      record {
        embedded = to m.embedded;
        names = f.0;
        entered = relations.entered E F r pairs std is_open K m.embedded f.1 m.entered;
        stands = subst (MayStandUnder star) (sym (own_beneath m.embedded own)) (image_stands r star (under E.table m.embedded) m.stands);
        permitted = λ e. own_stays m.embedded own;
      }

  interface_kept : (q : QualifiedName) → EmbedsInterface E q → EmbedsInterface F q
  interface_kept q m =
      let f = type_name_kept E F E r pairs std is_open K (λ x u a. a) K.barred q m.embedded m.names in
      record { embedded = to m.embedded; names = f.0; permitted = λ e. own_stays m.embedded (m.permitted K.barred) }

  field_met : (l : FieldLayer) → FieldMeets E l → FieldMeets F l
  field_met (FieldDecl-F.«FieldDecl::Named» ns t tag) h = tt
  field_met (FieldDecl-F.«FieldDecl::Embedded» star q tag) h = field_kept star q h

  fields_met : (ds : List FieldDecl) → Each (λ d. FieldMeets E (out-FieldDecl d)) ds → Each (λ d. FieldMeets F (out-FieldDecl d)) ds
  fields_met [] h = tt
  fields_met (d ∷ ds) h = (field_met (out-FieldDecl d) h.0, fields_met ds h.1)

  element_met : (l : ElemLayer) → ElementMeets E l → ElementMeets F l
  element_met (InterfaceElem-F.Method n g) h = h
  element_met (InterfaceElem-F.«InterfaceElem::Embedded» q) h = interface_kept q h

  elements_met : (xs : List InterfaceElem) → Each (λ x. ElementMeets E (out-InterfaceElem x)) xs → Each (λ x. ElementMeets F (out-InterfaceElem x)) xs
  elements_met [] h = tt
  elements_met (x ∷ xs) h = (element_met (out-InterfaceElem x) h.0, elements_met xs h.1)

  -- ---- type forms

  level_met : (l : TypeLayer) → TypeMeets E l → Each (Meets E) (type_parts l) → TypeMeets F l
  level_met (Typ-F.Map key t) n h = let f = type_kept E F E r pairs std is_open K (λ x u a. a) K.barred n.1 h.0 in (to n.0, f.0, relations.compares E F r pairs std is_open K n.0 f.1 n.2)
  level_met (Typ-F.Struct ds) n h = (n.0, fields_met ds n.1)
  level_met (Typ-F.Interface xs) n h = (n.0, elements_met xs n.1)
  level_met l n h = tt

  pub meets_kept : (at : Node) → Meets E at → Meets F at
  meets_kept at m = record {
    types = λ t s. let k = within E m s in level_met (out-Typ t) (k.types t stands_here) (meets_parts E (type t) k);
    signatures = λ g s. m.signatures g s;
  }
