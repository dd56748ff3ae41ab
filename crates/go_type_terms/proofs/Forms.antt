-- What the parts of a type form stand for.
use Rattle.std.proofs.Common.{◌≡◌, ℕ, List, refl, sym, ap, ◌∙◌, subst, Bool, Result}
use mathlib.Core.Bool.{true≢false}
use Rattle.std.specs.Prelude.{pos, true, false, ◌↔◌}
use Rattle.go_model.specs.constants.Constants.{is_representable}
use Rattle.go_model.specs.declared.constants.value.Basic.TheVariants as basic
use Rattle.go_model.specs.declared.constants.value.Value.TheVariants as value
use Rattle.go_model.specs.declared.types.package.ConstTerm.{ConstTerm}
use Rattle.go_model.specs.declared.types.term.Direction.{Direction}
use Rattle.go_model.specs.declared.types.term.Direction.TheVariants as direction
use Rattle.go_model.specs.declared.types.term.Field.{Field}
use Rattle.go_model.specs.declared.types.term.Signature.{Signature}
use Rattle.go_model.specs.declared.types.term.Term.{Term, roll-Term, roll-out-Term}
use Rattle.go_model.specs.declared.types.term.Term.TheVariants as term
use Rattle.go_model.specs.declared.types.term.Term.TheVariants.{outs-Array, outs-Chan, outs-Func, outs-Map, outs-Pointer, outs-Slice, outs-Struct}
use Rattle.go_model.specs.types.Bounds.{IsWithinBounds}
use Rattle.go_syntax.specs.declared.expression.Expr.{Expr}
use Rattle.go_syntax.specs.declared.name.QualifiedName.{QualifiedName}
use Rattle.go_syntax.specs.declared.types.FieldDecl.{FieldDecl}
use Rattle.go_syntax.specs.declared.types.Signature.{Signature as Sig, out-Signature as out-Sig}
use Rattle.go_syntax.specs.declared.types.«Type».{«Type» as Typ, «Type-F» as Typ-F, «out-Type» as out-Typ}
use Rattle.go_rules.specs.Environments.{Env}
use Rattle.go_model.specs.types.Terms.{slice_of}
use Rattle.go_rules.specs.Expressions.{Has, IsTypeName, OfFields, OfForm, OfSignature, OfType, of_type, of_name, of_paren, of_pointer, of_slice, of_array, of_map, of_channel, of_send_channel, of_receive_channel, of_function, of_struct, channel_of}
use Rattle.go_rules.specs.Nodes.{TypeLayer, type_parts}
use Rattle.go_rules.specs.Operands.{constant_of}
use Rattle.go_rules.proofs.OneOperand.{of_once}
use Rattle.go_type_terms.specs.Answers.{Types}
use Rattle.go_type_terms.specs.Results.{IsChannelOf}
use Rattle.go_type_terms.specs.declared.error.ExprError.{ExprError}

module _ {E : Env} where
  pub in_type : {t : Typ} {u : Term} → OfType E t u → OfForm E (out-Typ t) u × IsWithinBounds u
  in_type (of_type f w) = (f, w)

  -- a type beyond the bounds is no form's
  pub beyond : (t : Typ) (u : Term) (within : Bool) → OfForm E (out-Typ t) u → ((within ≡ true) ↔ IsWithinBounds u) → within ≡ false → (v : Term) → OfType E t v → ⊥
  beyond t u within h d e v k = true≢false (sym (d.1 (subst IsWithinBounds (of_once E (in_type k).0 h) (in_type k).1)) ∙ e)

  pub in_name : {q : QualifiedName} {u : Term} → OfForm E (Typ-F.«Type::Named» q) u → IsTypeName E q u
  in_name (of_name h) = h

  pub in_paren : {t : Typ} {u : Term} → OfForm E (Typ-F.«Type::Paren» t) u → OfType E t u
  in_paren (of_paren h) = h

  pub in_pointer : {t : Typ} {u : Term} → OfForm E (Typ-F.Pointer t) u → (v : Term) × OfType E t v
  in_pointer (of_pointer h) = (_, h)

  pub in_slice : {t : Typ} {u : Term} → OfForm E (Typ-F.«Type::Slice» t) u → (v : Term) × OfType E t v
  in_slice (of_slice h) = (_, h)

  pub in_length : {e : Expr} {t : Typ} {u : Term} → OfForm E (Typ-F.Array e t) u
      → (c : ConstTerm) × (n : ℕ) × Has E e (constant_of c (value.Int (pos n))) × (is_representable (value.Int (pos n)) basic.Int E.bits ≡ true)
  in_length (of_array h i j) = (_, _, h, i)

  pub in_array : {e : Expr} {t : Typ} {u : Term} → OfForm E (Typ-F.Array e t) u → (v : Term) × OfType E t v
  in_array (of_array h i j) = (_, j)

  pub in_key : {k t : Typ} {u : Term} → OfForm E (Typ-F.Map k t) u → (v : Term) × OfType E k v
  in_key (of_map h i) = (_, h)

  pub in_element : {k t : Typ} {u : Term} → OfForm E (Typ-F.Map k t) u → (v : Term) × OfType E t v
  in_element (of_map h i) = (_, i)

  -- the types that are built of those of the parts
  pub to_pointer : {t : Typ} (u : Term) → OfType E t u → OfForm E (Typ-F.Pointer t) (term.Pointer u)
  to_pointer {t = t} u h = subst (λ (w : Term). OfForm E (Typ-F.Pointer t) w) (ap roll-Term (sym (outs-Pointer u)) ∙ roll-out-Term (term.Pointer u)) (of_pointer h)

  pub to_slice : {t : Typ} (u : Term) → OfType E t u → OfForm E (Typ-F.«Type::Slice» t) (term.Slice u)
  to_slice {t = t} u h = subst (λ (w : Term). OfForm E (Typ-F.«Type::Slice» t) w) (ap roll-Term (sym (outs-Slice u)) ∙ roll-out-Term (term.Slice u)) (of_slice h)

  pub to_function : {g : Sig} (h : Signature) → OfSignature E (out-Sig g).parameters (out-Sig g).result h → OfForm E (Typ-F.Func g) (term.Func h)
  to_function {g = g} h o = subst (λ (w : Term). OfForm E (Typ-F.Func g) w) (ap roll-Term (sym (outs-Func h)) ∙ roll-out-Term (term.Func h)) (of_function o)

  pub to_struct : {ds : List FieldDecl} (fs : List Field) → OfFields E ds fs → OfForm E (Typ-F.Struct ds) (term.Struct fs)
  to_struct {ds = ds} fs h = subst (λ (w : Term). OfForm E (Typ-F.Struct ds) w) (ap roll-Term (sym (outs-Struct fs)) ∙ roll-out-Term (term.Struct fs)) (of_struct h)

  pub to_map : {k t : Typ} (u v : Term) → OfType E k u → OfType E t v → OfForm E (Typ-F.Map k t) (term.Map u v)
  to_map {k = k} {t = t} u v h i = subst (λ (w : Term). OfForm E (Typ-F.Map k t) w) (ap roll-Term (sym (outs-Map u v)) ∙ roll-out-Term (term.Map u v)) (of_map h i)

  pub to_array : {e : Expr} {t : Typ} (c : ConstTerm) (n : ℕ) (u : Term) → Has E e (constant_of c (value.Int (pos n))) → is_representable (value.Int (pos n)) basic.Int E.bits ≡ true → OfType E t u → OfForm E (Typ-F.Array e t) (term.Array n u)
  to_array {e = e} {t = t} c n u h i j = subst (λ (w : Term). OfForm E (Typ-F.Array e t) w) (ap roll-Term (sym (outs-Array n u)) ∙ roll-out-Term (term.Array n u)) (of_array h i j)

  pub in_function : {g : Sig} {u : Term} → OfForm E (Typ-F.Func g) u → (h : Signature) × OfSignature E (out-Sig g).parameters (out-Sig g).result h
  in_function (of_function h) = (_, h)

  pub in_struct : {ds : List FieldDecl} {u : Term} → OfForm E (Typ-F.Struct ds) u → (fs : List Field) × OfFields E ds fs
  in_struct (of_struct h) = (_, h)

  -- the three forms of channel types
  pub both : {t : Typ} (u : Term) → IsChannelOf E direction.Both t u → OfForm E (Typ-F.Chan t) u
  both {t = t} u h = subst (λ (v : Term). OfForm E (Typ-F.Chan t) v) (sym h.2) (of_channel h.1)

  pub in_both : {t : Typ} (u : Term) → OfForm E (Typ-F.Chan t) u → IsChannelOf E direction.Both t u
  in_both u (of_channel h) = (_, h, refl)

  pub send : {t : Typ} (u : Term) → IsChannelOf E direction.SendOnly t u → OfForm E (Typ-F.SendChan t) u
  send {t = t} u h = subst (λ (v : Term). OfForm E (Typ-F.SendChan t) v) (sym h.2) (of_send_channel h.1)

  pub in_send : {t : Typ} (u : Term) → OfForm E (Typ-F.SendChan t) u → IsChannelOf E direction.SendOnly t u
  in_send u (of_send_channel h) = (_, h, refl)

  pub receive : {t : Typ} (u : Term) → IsChannelOf E direction.ReceiveOnly t u → OfForm E (Typ-F.ReceiveChan t) u
  receive {t = t} u h = subst (λ (v : Term). OfForm E (Typ-F.ReceiveChan t) v) (sym h.2) (of_receive_channel h.1)

  pub in_receive : {t : Typ} (u : Term) → OfForm E (Typ-F.ReceiveChan t) u → IsChannelOf E direction.ReceiveOnly t u
  in_receive u (of_receive_channel h) = (_, h, refl)

-- a type form, by its form
pub by_form : (E : Env) (l k : TypeLayer) (r : Result (Term × Bool) ExprError) → l ≡ k → Types {A = Term} E (OfForm E k) (type_parts k) r → Types {A = Term} E (OfForm E l) (type_parts l) r
by_form E l k r e t = subst (λ (f : TypeLayer). Types {A = Term} E (OfForm E f) (type_parts f) r) (sym e) t

-- the types of levels as the code makes them
pub as_slice : (u : Term) → slice_of u ≡ term.Slice u
as_slice u = ap roll-Term (sym (outs-Slice u)) ∙ roll-out-Term (term.Slice u)

pub as_channel : (d : Direction) (u : Term) → channel_of d u ≡ term.Chan d u
as_channel d u = ap roll-Term (sym (outs-Chan d u)) ∙ roll-out-Term (term.Chan d u)
