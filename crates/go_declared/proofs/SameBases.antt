-- Receivers that are written by one name have one base type.
use Rattle.std.proofs.Common.{◌≡◌, ℕ, true, List, Option, None, Some, is_some, refl, sym, ap, ◌∙◌}
use Rattle.go_rules.proofs.OneName.{none_some}
use Rattle.go_syntax.specs.declared.name.Name.{Name}
use Rattle.go_syntax.specs.declared.name.QualifiedName.{QualifiedName}
use Rattle.go_syntax.specs.declared.types.ParameterDecl.{ParameterDecl}
use Rattle.go_declarations.proofs.go_typings_proofs.Cells.{some_once}
use Rattle.go_declarations.specs.go_typings.Declarations.{declared, Declaration}
use Rattle.go_declarations.specs.go_typings.Receivers.{after_aliases, aliased, bare, base, base_in, defined_name, form_text, named_definition, NameForm, own_aliased, own_definition, receiver_form, receiver_name}
use Rattle.go_declared.proofs.AliasWalks.{after_own, after_qualified, chosen}
use Rattle.go_declared.proofs.BaseTypes.{definition_qualified}
use Rattle.go_declared.specs.AliasEnds.{ended}

module _ (ds : List Declaration) where
  -- ---- no name of the package

  unnamed : (q : QualifiedName) (o : Option Name) → q.qualifier ≡ o → bare o q.name ≡ None → named_definition ds (after_aliases ds q) ≡ None
  unnamed q None h e = absurd (none_some (sym e))
  unnamed q (Some x) h e =
      let k : is_some q.qualifier ≡ true = ap is_some h in
      ap (named_definition ds) (sym (after_qualified ds q k)) ∙ definition_qualified ds q k

  unformed : (f : Option NameForm) → form_text f ≡ None → base_in ds f ≡ None
  unformed None e = refl
  unformed (Some f) e = unnamed f.name f.name.qualifier refl e

  pub base_none : (r : ParameterDecl) → receiver_name r ≡ None → base ds r ≡ None
  base_none r e = unformed (receiver_form r) e

  -- ---- one name

  module _ (text : List ℕ) where
    abbrev by_end : Option QualifiedName → Option (List ℕ)
    by_end None = defined_name (declared ds text)
    by_end (Some end) = named_definition ds end

    abbrev of_text : Option (List ℕ)
    of_text = by_end (ended ds (aliased (declared ds text)))

    written : (q : QualifiedName) (o : Option Name) → q.qualifier ≡ o → bare o q.name ≡ Some text → named_definition ds (after_aliases ds q) ≡ of_text
    written q (Some x) h e = absurd (none_some e)
    written q None h e = ap (named_definition ds) (sym (after_own ds q (aliased (declared ds text)) own)) ∙ at (ended ds (aliased (declared ds text)))
      where
        same : q.name.text ≡ text
        same = some_once q.name.text text e

        own : own_aliased ds q.qualifier q.name ≡ aliased (declared ds text)
        own = ap (λ (o : Option Name). own_aliased ds o q.name) h ∙ ap (λ (n : List ℕ). aliased (declared ds n)) same

        at : (end : Option QualifiedName) → named_definition ds (chosen q end) ≡ by_end end
        at None = ap (λ (o : Option Name). own_definition ds o q.name) h ∙ ap (λ (n : List ℕ). defined_name (declared ds n)) same
        at (Some end) = refl

    formed : (f : Option NameForm) → form_text f ≡ Some text → base_in ds f ≡ of_text
    formed None e = absurd (none_some e)
    formed (Some f) e = written f.name f.name.qualifier refl e

  pub same_base : (r q : ParameterDecl) (text : List ℕ) → receiver_name r ≡ Some text → receiver_name q ≡ Some text → base ds r ≡ base ds q
  same_base r q text e f = formed text (receiver_form r) e ∙ sym (formed text (receiver_form q) f)
