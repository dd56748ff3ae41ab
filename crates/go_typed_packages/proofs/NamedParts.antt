-- In the parts of a tree whose members are named well the members are named well.
use Rattle.std.proofs.Common.{◌≡◌, Bool, false, List, [], ◌∷◌, map, sym, subst}
use Rattle.go_base.proofs.Members.{each_has}
use Rattle.go_base.specs.Lists.{Each}
use Rattle.go_rules.proofs.LocalParts.{each_both, each_left, each_right}
use Rattle.go_rules.proofs.LocalTypes.{each_made}
use Rattle.go_rules.specs.Asks.{ElementMeets, Meets, TypeMeets, method_names, methods_names}
use Rattle.go_rules.specs.Environments.{Env}
use Rattle.go_rules.specs.Expressions.{IsCall, call, call_receive_type, is_blank}
use Rattle.go_rules.specs.Nodes.{ElemLayer, Node, PostLayer, Stands, TypeLayer, expression, expression_parts, optional_result_parts, parameter_parts, parts, post, post_parts, signature, stands_here, stands_in, type, type_parts, value}
use Rattle.go_syntax.specs.declared.expression.Expr.{Expr}
use Rattle.go_syntax.specs.declared.expression.Expr.TheVariants as expr
use Rattle.go_syntax.specs.declared.expression.Expr.TheVariants.{outs-Type as expr_type}
use Rattle.go_syntax.specs.declared.types.InterfaceElem.{InterfaceElem, InterfaceElem-F, out-InterfaceElem}
use Rattle.go_syntax.specs.declared.types.Signature.{Signature as Sig, out-Signature as out-Sig}
use Rattle.go_syntax.specs.declared.types.«Type».{«Type» as Typ, «Type-F» as Typ-F, «out-Type» as out-Typ}
use Rattle.go_syntax.specs.declared.types.«Type».TheVariants as typ
use Rattle.go_syntax.specs.declared.types.«Type».TheVariants.{outs-ReceiveChan as receive_type}
use Rattle.go_typed_packages.specs.inner.NamedMembers.{AreNamed, NamesMembers, NodeNamed}

pub parts_named : (at : Node) → AreNamed at → Each AreNamed (parts at)
parts_named at h = each_made (parts at) (λ b i c s. h c (stands_in i s))

made : (at b : Node) → NodeNamed at → Each AreNamed (parts at) → Stands at b → NodeNamed b
made at b h k stands_here = h
made at b h k (stands_in {b = c} i s) = each_has AreNamed (parts at) c k i b s

-- the operand type of a call that begins with `<-chan`
receive_named : (t : Typ) → AreNamed (type t) → AreNamed (expression (expr.Type (typ.ReceiveChan t)))
receive_named t h =
    let inner : AreNamed (type (typ.ReceiveChan t)) = λ b s. made (type (typ.ReceiveChan t)) b (subst NamesMembers (sym (receive_type t)) tt) (subst (λ l. Each AreNamed (type_parts l)) (sym (receive_type t)) (h, tt)) s in
    λ b s. made (expression (expr.Type (typ.ReceiveChan t))) b tt (subst (λ l. Each AreNamed (expression_parts l)) (sym (expr_type (typ.ReceiveChan t))) (inner, tt)) s

-- the arguments of a call
pub call_named : {l : PostLayer} {es : List Expr} {dots : Bool} → IsCall l es dots → Each AreNamed (post_parts l) → Each AreNamed (map expression es)
call_named call h = h
call_named (call_receive_type {t = t}) h = (receive_named t h.0, h.1)

-- the parameters and the result of a signature
pub parameters_named : (g : Sig) → AreNamed (signature g) → Each AreNamed (parameter_parts (out-Sig g).parameters)
parameters_named g h = each_left AreNamed (parameter_parts (out-Sig g).parameters) (optional_result_parts (out-Sig g).result) (parts_named (signature g) h)

pub result_named : (g : Sig) → AreNamed (signature g) → Each AreNamed (optional_result_parts (out-Sig g).result)
result_named g h = each_right AreNamed (parameter_parts (out-Sig g).parameters) (optional_result_parts (out-Sig g).result) (parts_named (signature g) h)

-- ---- what is asked of a tree names its members well

module _ (E : Env) where
  element_named : (l : ElemLayer) → ElementMeets E l → Each (λ n. is_blank n ≡ false) (method_names l)
  element_named (InterfaceElem-F.Method n g) h = (h, tt)
  element_named (InterfaceElem-F.«InterfaceElem::Embedded» q) h = tt

  elements_named : (xs : List InterfaceElem) → Each (λ x. ElementMeets E (out-InterfaceElem x)) xs → Each (λ n. is_blank n ≡ false) (methods_names xs)
  elements_named [] h = tt
  elements_named (x ∷ xs) h = each_both (λ n. is_blank n ≡ false) (method_names (out-InterfaceElem x)) (methods_names xs) (element_named (out-InterfaceElem x) h.0) (elements_named xs h.1)

  layer_named : (l : TypeLayer) → TypeMeets E l → NamesMembers l
  layer_named (Typ-F.Struct ds) h = h.0
  layer_named (Typ-F.Interface xs) h = elements_named xs h.1
  layer_named l h = tt

  pub meets_named : (at : Node) → Meets E at → AreNamed at
  meets_named at m (type t) s = layer_named (out-Typ t) (m.types t s)
  meets_named at m (expression e) s = tt
  meets_named at m (post q) s = tt
  meets_named at m (value v) s = tt
  meets_named at m (signature g) s = tt

  pub all_named : (xs : List Node) → Each (Meets E) xs → Each AreNamed xs
  all_named [] h = tt
  all_named (x ∷ xs) h = (meets_named x h.0, all_named xs h.1)
