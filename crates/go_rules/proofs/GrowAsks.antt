-- Among more entries an expression and a type form meet what they met.
use Rattle.std.proofs.Common.{◌≡◌, Bool, Some, refl, sym, ◌∙◌, subst}
use Rattle.go_model.specs.declared.types.names.TypeName.{TypeName}
use Rattle.go_model.specs.declared.types.package.Defined.{Defined}
use Rattle.go_model.specs.declared.types.term.Term.{Term}
use Rattle.go_model.specs.types.Underlying.{entry}
use Rattle.go_rules.specs.Asks.{ElementMeets, EmbedsField, EmbedsInterface, FieldMeets, HasOperand, IsType, MayEmbed, MayStandUnder, Meets, TypeMeets}
use Rattle.go_rules.specs.Environments.{Env}
use Rattle.go_rules.specs.Growth.{Grown, Grows, unflagged}
use Rattle.go_rules.specs.Nodes.{Node, TypeLayer, FieldLayer, ElemLayer}
use Rattle.go_rules.specs.declared.operand.Operand.{Operand}
use Rattle.go_rules.proofs.GrowOperand.{has_more, type_more}
use Rattle.go_rules.proofs.GrowRelations.{compares_more}
use Rattle.go_rules.proofs.GrowResults.{each_of, type_name_more}
use Rattle.go_rules.proofs.GrowTypes.{joined, entered_more, under_more}
use Rattle.go_rules.proofs.OneKind.{no_truth}
use Rattle.go_syntax.specs.declared.expression.Expr.{Expr}
use Rattle.go_syntax.specs.declared.name.QualifiedName.{QualifiedName}
use Rattle.go_syntax.specs.declared.types.FieldDecl.{FieldDecl-F, out-FieldDecl}
use Rattle.go_syntax.specs.declared.types.InterfaceElem.{InterfaceElem-F, out-InterfaceElem}
use Rattle.go_syntax.specs.declared.types.«Type».{«Type» as Typ, «Type-F» as Typ-F, «out-Type» as out-Typ}

module _ (E F : Env) (m : Grows E F) where
  abbrev G : Env
  G = joined E F

  embed_more : (t : Term) → MayEmbed E t → MayEmbed G t
  embed_more t h = λ k. h (m.profile k)

  embeds_field_more : {star : Bool} {q : QualifiedName} → EmbedsField E star q → EmbedsField G star q
  embeds_field_more {star = star} {q = q} a = record {
    embedded = a.embedded;
    names = type_name_more E F m q a.embedded a.names;
    entered = entered_more E F m a.embedded a.entered;
    stands = subst (MayStandUnder star) (under_more E F m a.embedded a.entered) a.stands;
    permitted = embed_more a.embedded a.permitted;
  }

  embeds_interface_more : {q : QualifiedName} → EmbedsInterface E q → EmbedsInterface G q
  embeds_interface_more {q = q} a = record { embedded = a.embedded; names = type_name_more E F m q a.embedded a.names; permitted = embed_more a.embedded a.permitted }

  field_meets_more : (l : FieldLayer) → FieldMeets E l → FieldMeets G l
  field_meets_more (FieldDecl-F.«FieldDecl::Named» ns t tag) h = tt
  field_meets_more (FieldDecl-F.«FieldDecl::Embedded» star q tag) h = embeds_field_more h

  element_meets_more : (l : ElemLayer) → ElementMeets E l → ElementMeets G l
  element_meets_more (InterfaceElem-F.Method n g) h = h
  element_meets_more (InterfaceElem-F.«InterfaceElem::Embedded» q) h = embeds_interface_more h

  type_meets_more : (l : TypeLayer) → TypeMeets E l → TypeMeets G l
  type_meets_more (Typ-F.Map key t) (u, a, c) = (u, type_more E F m a, compares_more E F m c)
  type_meets_more (Typ-F.Struct ds) h = (h.0, each_of ds (λ d k. field_meets_more (out-FieldDecl d) k) h.1)
  type_meets_more (Typ-F.Interface xs) h = (h.0, each_of xs (λ x k. element_meets_more (out-InterfaceElem x) k) h.1)
  type_meets_more l h = tt

  pub meets_more : {at : Node} → Meets E at → Meets G at
  meets_more h = record { types = λ t s. type_meets_more (out-Typ t) (h.types t s); signatures = h.signatures }

  pub operand_more : {e : Expr} {o : Operand} → HasOperand E e o → HasOperand G e o
  operand_more h = record { is = has_more E F m h.is; meets = meets_more h.meets }

  pub whole_type_more : {t : Typ} {u : Term} → IsType E t u → IsType G t u
  whole_type_more h = record { stands_for = type_more E F m h.stands_for; meets = meets_more h.meets }

-- ---- growing by nothing, and twice

pub grows_same : (E : Env) → Grows E E
grows_same E = record {
  meaning = λ n s e. e;
  object = λ p n x e. e;
  table = λ n d e. record { grown = d; stored = e; underlying = refl; methods = λ s h. refl; told = λ s h. h };
  path = refl;
  bits = refl;
  profile = λ h. h;
  iota = refl;
}

pub grows_twice : (E F G : Env) → Grows E F → Grows F G → Grows E G
grows_twice E F G a b = record {
  meaning = λ n s e. b.meaning n s (a.meaning n s e);
  object = λ p n x e. b.object p n x (a.object p n x e);
  table = table;
  path = a.path ∙ b.path;
  bits = a.bits ∙ b.bits;
  profile = λ h. a.profile (b.profile h);
  iota = a.iota ∙ b.iota;
}
  where
    table : (n : TypeName) (d : Defined) → entry E.table n ≡ Some d → Grown E G n d
    table n d e =
        let g = a.table n d e in let h = b.table n g.grown g.stored in
        record { grown = h.grown; stored = h.stored; underlying = g.underlying ∙ h.underlying; methods = λ s k. g.methods s k ∙ h.methods s (g.told s k); told = λ s k. h.told s (g.told s k) }

-- an environment without the flag bars nothing more
pub grows_unflagged : (E : Env) → Grows E (unflagged E)
grows_unflagged E = record {
  meaning = λ n s e. e;
  object = λ p n x e. e;
  table = λ n d e. record { grown = d; stored = e; underlying = refl; methods = λ s h. refl; told = λ s h. h };
  path = refl;
  bits = refl;
  profile = λ h. absurd (no_truth (sym h));
  iota = refl;
}
