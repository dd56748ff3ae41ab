-- In a region what an expression and a type form are asked is met as in the whole environment.
use Rattle.std.proofs.Common.{◌≡◌, Bool, true, false, List, [], ◌∷◌, Option, Some, None, refl, sym, subst}
use Rattle.std.specs.Prelude.{if◌then◌else◌}
use Rattle.go_syntax.specs.go_base.Lists.{Each}
use Rattle.go_model.specs.declared.types.package.Defined.{Defined}
use Rattle.go_model.specs.declared.types.term.Signature.{Signature}
use Rattle.go_model.specs.declared.types.term.Term.{Term}
use Rattle.go_model.specs.types.Terms.{error_type, is_error}
use Rattle.go_rules.specs.Asks.{ElementMeets, EmbedsField, EmbedsInterface, FieldMeets, HasOperand, IsType, MayStandUnder, Meets, TypeMeets}
use Rattle.go_rules.specs.Environments.{Env}
use Rattle.go_rules.specs.Expressions.{OfSignature}
use Rattle.go_rules.specs.Growth.{Grows}
use Rattle.go_rules.specs.Nodes.{Node, TypeLayer, FieldLayer, ElemLayer, expression, type, signature as at_signature, optional_result_parts, parameter_parts, type_parts}
use Rattle.go_rules.specs.Regions.{Region, IsClosed, NameIn, RefersIn, SignatureIn, TermIn, cut, elem_fronts, elems_fronts, field_fronts, fields_fronts, type_fronts}
use Rattle.go_rules.specs.declared.operand.Operand.{Operand}
use Rattle.go_rules.proofs.LocalOperand.{has_local, signature_local, stands_within, type_local}
use Rattle.go_rules.proofs.LocalParts.{each_left, each_right, parts_in}
use Rattle.go_rules.proofs.LocalRelations.{OperandIn, compares_local}
use Rattle.go_rules.proofs.LocalResults.{type_name_local}
use Rattle.go_rules.proofs.LocalTypes.{entered_same, under_same}
use Rattle.go_rules.proofs.OneName.{none_some}
use Rattle.go_syntax.specs.declared.expression.Expr.{Expr}
use Rattle.go_syntax.specs.declared.name.QualifiedName.{QualifiedName}
use Rattle.go_syntax.specs.declared.types.FieldDecl.{FieldDecl, FieldDecl-F, out-FieldDecl}
use Rattle.go_syntax.specs.declared.types.InterfaceElem.{InterfaceElem, InterfaceElem-F, out-InterfaceElem}
use Rattle.go_syntax.specs.declared.types.Signature.{Signature as Sig, out-Signature as out-Sig}
use Rattle.go_syntax.specs.declared.types.«Type».{«Type» as Typ, «Type-F» as Typ-F, «out-Type» as out-Typ}

module _ (E : Env) (R : Region) (w : IsClosed E R) where
  abbrev C : Env
  C = cut R E

  embeds_field_local : {star : Bool} {q : QualifiedName} → Each (NameIn R) (field_fronts (FieldDecl-F.«FieldDecl::Embedded» star q None)) → EmbedsField E star q → EmbedsField C star q
  embeds_field_local {star = star} {q = q} n a =
      let f = type_name_local E R w q a.embedded n.0 a.names in
      record { embedded = a.embedded; names = f.0; entered = entered_same E R w a.embedded f.1 a.entered; stands = subst (MayStandUnder star) (sym (under_same E R w a.embedded f.1)) a.stands; permitted = a.permitted }

  embeds_interface_local : {q : QualifiedName} → Each (NameIn R) (elem_fronts (InterfaceElem-F.«InterfaceElem::Embedded» q)) → EmbedsInterface E q → EmbedsInterface C q
  embeds_interface_local {q = q} n a = record { embedded = a.embedded; names = (type_name_local E R w q a.embedded n.0 a.names).0; permitted = a.permitted }

  field_meets_local : (l : FieldLayer) → Each (NameIn R) (field_fronts l) → FieldMeets E l → FieldMeets C l
  field_meets_local (FieldDecl-F.«FieldDecl::Named» ns t tag) n h = tt
  field_meets_local (FieldDecl-F.«FieldDecl::Embedded» star q tag) n h = embeds_field_local n h

  fields_meet_local : (ds : List FieldDecl) → Each (NameIn R) (fields_fronts ds) → Each (λ d. FieldMeets E (out-FieldDecl d)) ds → Each (λ d. FieldMeets C (out-FieldDecl d)) ds
  fields_meet_local [] n h = tt
  fields_meet_local (d ∷ ds) n h = (field_meets_local (out-FieldDecl d) (each_left (NameIn R) (field_fronts (out-FieldDecl d)) (fields_fronts ds) n) h.0, fields_meet_local ds (each_right (NameIn R) (field_fronts (out-FieldDecl d)) (fields_fronts ds) n) h.1)

  element_meets_local : (l : ElemLayer) → Each (NameIn R) (elem_fronts l) → ElementMeets E l → ElementMeets C l
  element_meets_local (InterfaceElem-F.Method name g) n h = h
  element_meets_local (InterfaceElem-F.«InterfaceElem::Embedded» q) n h = embeds_interface_local n h

  elements_meet_local : (xs : List InterfaceElem) → Each (NameIn R) (elems_fronts xs) → Each (λ x. ElementMeets E (out-InterfaceElem x)) xs → Each (λ x. ElementMeets C (out-InterfaceElem x)) xs
  elements_meet_local [] n h = tt
  elements_meet_local (x ∷ xs) n h = (element_meets_local (out-InterfaceElem x) (each_left (NameIn R) (elem_fronts (out-InterfaceElem x)) (elems_fronts xs) n) h.0, elements_meet_local xs (each_right (NameIn R) (elem_fronts (out-InterfaceElem x)) (elems_fronts xs) n) h.1)

  type_meets_local : (l : TypeLayer) → Each (NameIn R) (type_fronts l) → Each (RefersIn R) (type_parts l) → TypeMeets E l → TypeMeets C l
  type_meets_local (Typ-F.Map key t) n h (u, a, c) = let f = type_local E R w a h.0 in (u, f.0, compares_local E R w u f.1 c)
  type_meets_local (Typ-F.Struct ds) n h m = (m.0, fields_meet_local ds n m.1)
  type_meets_local (Typ-F.Interface xs) n h m = (m.0, elements_meet_local xs n m.1)
  type_meets_local l n h m = tt

  pub meets_local : (at : Node) → RefersIn R at → Meets E at → Meets C at
  meets_local at h m = record {
    types = λ t s. type_meets_local (out-Typ t) (h (type t) s) (parts_in R (type t) (λ b i. h b (stands_within s i))) (m.types t s);
    signatures = m.signatures;
  }

  pub operand_local : {e : Expr} {o : Operand} → RefersIn R (expression e) → HasOperand E e o → HasOperand C e o × OperandIn R o
  operand_local {e = e} h a = let f = has_local E R w a.is h in (record { is = f.0; meets = meets_local (expression e) h a.meets }, f.1)

  pub whole_type_local : {t : Typ} {u : Term} → RefersIn R (type t) → IsType E t u → IsType C t u × TermIn R u
  whole_type_local {t = t} h a = let f = type_local E R w a.stands_for h in (record { stands_for = f.0; meets = meets_local (type t) h a.meets }, f.1)

  pub whole_signature_local : (g : Sig) {k : Signature} → RefersIn R (at_signature g) → OfSignature E (out-Sig g).parameters (out-Sig g).result k → OfSignature C (out-Sig g).parameters (out-Sig g).result k × SignatureIn R k
  whole_signature_local g h a =
      let p = parts_in R (at_signature g) h in
      signature_local E R w a (each_left (RefersIn R) (parameter_parts (out-Sig g).parameters) (optional_result_parts (out-Sig g).result) p) (each_right (RefersIn R) (parameter_parts (out-Sig g).parameters) (optional_result_parts (out-Sig g).result) p)

-- ---- the environment has more than what is cut from it

had : {A : Type 0} (b : Bool) (x : Option A) (y : A) → (if b then x else None) ≡ Some y → x ≡ Some y
had true x y e = e
had false x y e = absurd (none_some e)

had_entry : (a b : Bool) (x : Option Defined) (y : Defined) → (if a then Some error_type else (if b then x else None)) ≡ Some y → (if a then Some error_type else x) ≡ Some y
had_entry true b x y e = e
had_entry false b x y e = had b x y e

pub grows_whole : (E : Env) (R : Region) → Grows (cut R E) E
grows_whole E R = record {
  meaning = λ n s e. had (R.names n) (E.meaning n) s e;
  object = λ p n x e. had (R.packages p) (E.object p n) x e;
  table = λ n d e. record { grown = d; stored = had_entry (is_error n) (R.types n) (E.table n) d e; underlying = refl; methods = λ s h. refl; told = λ s h. h };
  path = refl;
  bits = refl;
  profile = λ h. h;
  iota = refl;
}
