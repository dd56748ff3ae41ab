-- What a client's declaration is asked besides what it is given, once all is given, it is asked on the new side as well.
use Rattle.std.proofs.Common.{◌≡◌, inl, inr, ℕ, Bool, false, ◌&&◌, List, [], ◌∷◌, length, map, refl, sym, ap, ◌∙◌, subst, Some}
use Rattle.std.specs.Prelude.{codes}
use Rattle.std.specs.Str.{bytes_eq}
use Rattle.go_base.specs.Lists.{Each, Has as HasItem}
use Rattle.go_model.specs.declared.types.names.Sel.{Sel}
use Rattle.go_model.specs.declared.types.names.TypeName.{TypeName}
use Rattle.go_model.specs.declared.types.term.Field.{Field, out-Field}
use Rattle.go_model.specs.declared.types.term.Term.{Term-F, out-Term}
use Rattle.go_model.specs.types.Terms.{Layer, client_path, error_type, is_error}
use Rattle.go_model.specs.types.Underlying.{entry}
use Rattle.go_model.specs.worlds.Worlds.{bars_methods}
use Rattle.go_rules.specs.Asks.{Meets}
use Rattle.go_rules.specs.Environments.{Env}
use Rattle.go_rules.specs.Nodes.{Node}
use Rattle.go_syntax.specs.declared.declaration.Func.{Func}
use Rattle.go_syntax.specs.declared.types.ParameterDecl.{ParameterDecl}
use Rattle.go_type_images.specs.EntryImages.{defined_to, entry_to}
use Rattle.go_type_images.specs.Images.{Naming, image_of_field, image_of_layer, same_sels}
use Rattle.go_type_images.specs.declared.pair.TypePair.{TypePair}
use Rattle.go_type_images.proofs.ImageLevels.{out_image, out_image_field}
use Rattle.go_typings.proofs.Cells.{if_false}
use Rattle.go_typings.specs.DeclarationAsks.{Asks, FormAsks, IsApart, IsMethod}
use Rattle.go_typings.specs.DeclarationNodes.{nodes}
use Rattle.go_typings.specs.Declarations.{Form, alias, constants, definition, function, method, variables}
use Rattle.go_typings.specs.Sources.{PackageSource}
use Rattle.go_client_types.specs.Keeping.{Keeps}
use Rattle.go_client_expressions.proofs.Asked.{meets_kept}
use Rattle.go_client_statements.proofs.LocalDeclarations as local
use Rattle.go_client_packages.proofs.EntryImages.{is_own}

-- the predeclared `error` is no type of a client
pub client_is_no_error : (n : TypeName) → n.path ≡ client_path → is_error n ≡ false
client_is_no_error n e = ap (λ path. bytes_eq path [] && bytes_eq n.name (codes "error")) e

-- ---- levels

bars_image : (r : Naming) (l : Layer) → bars_methods (image_of_layer r same_sels l) ≡ bars_methods l
bars_image r (Term-F.Plain b) = refl
bars_image r (Term-F.Named n) = refl
bars_image r (Term-F.Pointer e) = refl
bars_image r (Term-F.Slice e) = refl
bars_image r (Term-F.Array n e) = refl
bars_image r (Term-F.Map k e) = refl
bars_image r (Term-F.Chan d e) = refl
bars_image r (Term-F.Func g) = refl
bars_image r (Term-F.Struct fs) = refl
bars_image r (Term-F.Interface ms) = refl

field_of_image : (r : Naming) (fs : List Field) (x : Field) → HasItem (map (image_of_field r same_sels) fs) x → (f : Field) × HasItem fs f × (image_of_field r same_sels f ≡ x)
field_of_image r [] x k = absurd k
field_of_image r (f ∷ fs) x (inl e) = (f, inl refl, e)
field_of_image r (f ∷ fs) x (inr k) = let g = field_of_image r fs x k in (g.0, inr g.1, g.2)

apart_image : (r : Naming) (l : Layer) (name : List ℕ) → IsApart l name → IsApart (image_of_layer r same_sels l) name
apart_image r (Term-F.Struct fs) name h x k =
    let f = field_of_image r fs x k in
    λ e. h f.0 f.1 (ap (λ (z : _). z.sel.name) (sym (out_image_field r same_sels f.0)) ∙ ap (λ (z : Field). (out-Field z).sel.name) f.2 ∙ e)
apart_image r (Term-F.Plain b) name h x k = absurd k
apart_image r (Term-F.Named n) name h x k = absurd k
apart_image r (Term-F.Pointer e) name h x k = absurd k
apart_image r (Term-F.Slice e) name h x k = absurd k
apart_image r (Term-F.Array n e) name h x k = absurd k
apart_image r (Term-F.Map j e) name h x k = absurd k
apart_image r (Term-F.Chan d e) name h x k = absurd k
apart_image r (Term-F.Func g) name h x k = absurd k
apart_image r (Term-F.Interface ms) name h x k = absurd k

module _ (E F : Env) (r : Naming) (pairs : List TypePair) (std : TypeName → Bool) (is_open : Sel → Bool) (K : Keeps E F r pairs std is_open) (u : PackageSource) (client : u.path ≡ client_path) (pathed : (n : TypeName) → n.path ≡ client_path → is_error n ≡ false) where
  method_kept : (number : ℕ) (receiver : ParameterDecl) (f : Func) → IsMethod E u number receiver f → IsMethod F u number receiver f
  method_kept number receiver f m =
      let n : TypeName = record { path = u.path; name = m.type } in
      let other = pathed n client in
      let e = is_own u.path m.type client in
      let was : entry E.table n ≡ Some m.defined = if_false (is_error n) (Some error_type) (E.table n) other ∙ m.entry in
      record {
        type = m.type;
        of = m.of;
        defined = defined_to r m.defined;
        entry = sym (if_false (is_error n) (Some error_type) (F.table n) other) ∙ K.entries n e ∙ ap (entry_to r) was;
        permits_methods = ap bars_methods (out_image r same_sels m.defined.underlying) ∙ bars_image r (out-Term m.defined.underlying) ∙ m.permits_methods;
        only = m.only;
        apart = λ b. subst (λ l. IsApart l f.name.text) (sym (out_image r same_sels m.defined.underlying)) (apart_image r (out-Term m.defined.underlying) f.name.text (m.apart b));
        distinct = m.distinct;
      }

  form_kept : (number : ℕ) (f : Form) → Each (Meets E) (nodes f) → FormAsks E u number f → FormAsks F u number f
  form_kept number (constants s place) m h = h
  form_kept number (variables s) m h = (h.0, local.values_fit E F E r pairs std is_open K (λ q t n. n) K.barred s.type_ (length s.names) s.values m h.1)
  form_kept number (alias s) m h = h
  form_kept number (definition s) m h = h
  form_kept number (function f) m h = h
  form_kept number (method receiver f) m h = method_kept number receiver f h

  all_met : (ns : List Node) → Each (Meets E) ns → Each (Meets F) ns
  all_met [] m = tt
  all_met (n ∷ ns) m = (meets_kept E F r pairs std is_open K n m.0, all_met ns m.1)

  pub asks_kept : (number : ℕ) (f : Form) → Asks E u number f → Asks F u number f
  asks_kept number f a = record { form = form_kept number f a.meets a.form; meets = all_met (nodes f) a.meets }
