-- What is typed in an environment is typed in one that has more, and so without the flag of the profile.
use Rattle.std.proofs.Common.{List, [], Option, refl}
use Rattle.go_model.specs.declared.types.term.Term.{Term, Term-F}
use Rattle.go_typings.specs.go_rules.Environments.{Env}
use Rattle.go_typings.specs.go_rules.Nodes.{Node}
use Rattle.go_typings.specs.go_rules.declared.operand.Operand.{Operand}
use Rattle.go_statement_rules.specs.Bodies.{AreTypedOutside, IsTypedBody, no_body, typed_body}
use Rattle.go_statement_rules.specs.Functions.{Enclosing, EntersBody, EntersFunction, OfReceiver, Run, enters_body, enters_function, no_receiver, receiver}
use Rattle.go_statement_rules.specs.Scopes.{Scopes, within}
use Rattle.go_statement_rules.specs.Statements.{AreCases, AreDeclared, AreMet, AreSelectCases, AreTypeCases, AreTyped, Begins, LiteralsAreTyped, IsTypedBlock, IsCondition, IsTypedFunction, KindLayer, Leaves, MayStand, IsOperand}
use Rattle.go_statement_rules.specs.Statements.{begins_alone, begins_with, typed_block, cases_default, cases_none, cases_values, condition, declared_more, declared_none, typed_function, literals_typed, may_be, may_lack, met_more, met_none, no_condition, select_cases_more, select_cases_none, is_operand, type_cases_more, type_cases_none, typed_more, typed_none}
use Rattle.go_statement_rules.specs.Statements.{leaves_assignment, leaves_break, leaves_call, leaves_constants_declared, leaves_continue, leaves_defer, leaves_definition, leaves_empty, leaves_fallthrough, leaves_for, leaves_go, leaves_goto, leaves_if_then, leaves_inner_block, leaves_labeled, leaves_operation, leaves_range, leaves_range_assigned, leaves_range_defined, leaves_receive_alone, leaves_return, leaves_select, leaves_send, leaves_step, leaves_switch, leaves_type_switch, leaves_variables_declared, leaves_while}
use Rattle.go_syntax.specs.declared.body.BodyRange.{BodyRange}
use Rattle.go_syntax.specs.declared.declaration.Func.{Func}
use Rattle.go_syntax.specs.declared.expression.Expr.{Expr}
use Rattle.go_syntax.specs.declared.name.Name.{Name}
use Rattle.go_syntax.specs.declared.statement.Case.{Case}
use Rattle.go_syntax.specs.declared.statement.LiteralBlock.{LiteralBlock}
use Rattle.go_syntax.specs.declared.statement.SelectCase.{SelectCase}
use Rattle.go_syntax.specs.declared.statement.Stmt.{Stmt}
use Rattle.go_syntax.specs.declared.statement.TypeCase.{TypeCase, out-TypeCase}
use Rattle.go_syntax.specs.declared.types.ParameterDecl.{ParameterDecl}
use Rattle.go_syntax.specs.declared.types.Signature.{Signature as Sig}
use Rattle.go_typings.specs.go_rules.Growth.{Grows}
use Rattle.go_typings.proofs.go_rules_proofs.GrowTypes.{form_more}
use Rattle.go_statement_rules.proofs.GrowLocals.{assigned_f, call_f, case_f, clauses_f, computes_f, defined_f, fits_f, form_env_more, initialize_f, listed_f, meets_f, operand_f, operates_f, ranges_f, returns_f, signature_f, tag_f, truth_f, type_f, usable_f, within_more}
use Rattle.go_statement_rules.specs.Statements.{form_env}
use Rattle.go_typings.proofs.GrowRules.{gives_more}
use Rattle.go_typings.specs.Declarations.{Form}

module _ (E F : Env) (blocks : List LiteralBlock) (m : Grows E F) where
  deep : (s : Scopes) → Grows (within E s) (within F s)
  deep s = within_more E F s m

  enters_more : {r : Enclosing} {s : Scopes} {g : Sig} {c : BodyRange} {w : Run} → EntersFunction E blocks r s g c w → EntersFunction F blocks r s g c w
  enters_more {s = s} (enters_function i g d h) = enters_function i (signature_f (within E s) (within F s) (deep s) g) d h

  mutual
    more_operand : {r : Enclosing} {s : Scopes} {e : Expr} {o : Operand} → IsOperand E blocks r s e o → IsOperand F blocks r s e o
    more_operand {s = s} (is_operand x y) = is_operand (operand_f (within E s) (within F s) (deep s) x) (more_literals y)

    more_literals : {r : Enclosing} {s : Scopes} {n : Node} → LiteralsAreTyped E blocks r s n → LiteralsAreTyped F blocks r s n
    more_literals (literals_typed f) = literals_typed (λ x g c st eq. more_function (f x g c st eq))

    more_met : {r : Enclosing} {G H : Env} {s : Scopes} {ns : List Node} (g : Grows G H) → AreMet E blocks r G s ns → AreMet F blocks r H s ns
    more_met g met_none = met_none
    more_met {G = G} {H = H} g (met_more x y z) = met_more (meets_f G H g x) (more_literals y) (more_met g z)

    more_function : {r : Enclosing} {s : Scopes} {g : Sig} {c : BodyRange} → IsTypedFunction E blocks r s g c → IsTypedFunction F blocks r s g c
    more_function (typed_function x y) = typed_function (enters_more x) (more_typed y)

    more_typed : {r : Enclosing} {s t : Scopes} {ss : List Stmt} → AreTyped E blocks r s ss t → AreTyped F blocks r s ss t
    more_typed typed_none = typed_none
    more_typed (typed_more x y) = typed_more (more_leaves x) (more_typed y)

    more_block : {r : Enclosing} {s : Scopes} {ss : List Stmt} → IsTypedBlock E blocks r s ss → IsTypedBlock F blocks r s ss
    more_block (typed_block x) = typed_block (more_typed x)

    more_begins : {r : Enclosing} {s t : Scopes} {x : Option Stmt} → Begins E blocks r s x t → Begins F blocks r s x t
    more_begins begins_alone = begins_alone
    more_begins (begins_with x) = begins_with (more_leaves x)

    more_stand : {r : Enclosing} {s : Scopes} {x : Option Stmt} → MayStand E blocks r s x → MayStand F blocks r s x
    more_stand may_lack = may_lack
    more_stand (may_be x) = may_be (more_leaves x)

    more_condition : {r : Enclosing} {s : Scopes} {e : Option Expr} → IsCondition E blocks r s e → IsCondition F blocks r s e
    more_condition no_condition = no_condition
    more_condition {s = s} (condition x y) = condition (more_operand x) (truth_f (within E s) (within F s) (deep s) y)

    more_declared : {r : Enclosing} {s t : Scopes} {fs : List Form} → AreDeclared E blocks r s fs t → AreDeclared F blocks r s fs t
    more_declared declared_none = declared_none
    more_declared {s = s} (declared_more {f = f} x y z w v) = let g = form_env_more (within E s) (within F s) f (deep s) in declared_more (gives_more (form_env (within E s) f) (form_env (within F s) f) g x) (fits_f (within E s) (within F s) (deep s) f y) (more_met g z) w (more_declared v)

    more_cases : {r : Enclosing} {s : Scopes} {t : Term} {cs : List Case} → AreCases E blocks r s t cs → AreCases F blocks r s t cs
    more_cases cases_none = cases_none
    more_cases (cases_default x y z) = cases_default x (more_block y) (more_cases z)
    more_cases {s = s} {t = t} (cases_values {es = es} x y z w v) = cases_values x (case_f (within E s) (within F s) (deep s) t es y) (more_met (deep s) z) (more_block w) (more_cases v)

    more_type_cases : {r : Enclosing} {s : Scopes} {n : Option Name} {t : Term} {cs : List TypeCase} → AreTypeCases E blocks r s n t cs → AreTypeCases F blocks r s n t cs
    more_type_cases type_cases_none = type_cases_none
    more_type_cases {s = s} {t = t} (type_cases_more {c = c} xs x y z w v) = type_cases_more xs (listed_f (within E s) (within F s) (deep s) t (out-TypeCase c).types xs x) (more_met (deep s) y) z (more_typed w) (more_type_cases v)

    more_select_cases : {r : Enclosing} {s : Scopes} {cs : List SelectCase} → AreSelectCases E blocks r s cs → AreSelectCases F blocks r s cs
    more_select_cases select_cases_none = select_cases_none
    more_select_cases (select_cases_more x y z) = select_cases_more (more_begins x) (more_typed y) (more_select_cases z)

    more_leaves : {r : Enclosing} {s t : Scopes} {k : KindLayer} → Leaves E blocks r s k t → Leaves F blocks r s k t
    more_leaves leaves_empty = leaves_empty
    more_leaves {s = s} (leaves_call x y) = leaves_call (more_operand x) (call_f (within E s) (within F s) (deep s) y)
    more_leaves (leaves_receive_alone x y) = leaves_receive_alone (more_operand x) y
    more_leaves {s = s} (leaves_send {t = t} {u = k} {d = d} x y z w v u) = leaves_send (more_operand x) y (form_more E F m t (Term-F.Chan d k) refl z) w (more_operand v) (usable_f (within E s) (within F s) (deep s) u)
    more_leaves {s = s} (leaves_step x y z w) = leaves_step (more_operand x) y (computes_f (within E s) (within F s) (deep s) z) (usable_f (within E s) (within F s) (deep s) w)
    more_leaves {s = s} (leaves_operation {op = op} {l = l} {o = o} {q = q} x y z w v) = leaves_operation (more_operand x) y (more_operand z) (operates_f (within E s) (within F s) (deep s) op l o q w) (usable_f (within E s) (within F s) (deep s) v)
    more_leaves {s = s} (leaves_assignment x y z) = leaves_assignment (initialize_f (within E s) (within F s) (deep s) x) (assigned_f (within E s) (within F s) (deep s) y) (more_met (deep s) z)
    more_leaves {s = s} (leaves_definition x y z w v u) = leaves_definition x (initialize_f (within E s) (within F s) (deep s) y) (defined_f (within E s) (within F s) (deep s) z) w (more_met (deep s) v) u
    more_leaves (leaves_constants_declared x) = leaves_constants_declared (more_declared x)
    more_leaves (leaves_variables_declared x) = leaves_variables_declared (more_declared x)
    more_leaves (leaves_labeled x) = leaves_labeled (more_leaves x)
    more_leaves {s = s} (leaves_go x y) = leaves_go (more_operand x) (call_f (within E s) (within F s) (deep s) y)
    more_leaves {s = s} (leaves_defer x y) = leaves_defer (more_operand x) (call_f (within E s) (within F s) (deep s) y)
    more_leaves {s = s} (leaves_return x y) = leaves_return (returns_f (within E s) (within F s) (deep s) x) (more_met (deep s) y)
    more_leaves leaves_break = leaves_break
    more_leaves leaves_continue = leaves_continue
    more_leaves leaves_goto = leaves_goto
    more_leaves leaves_fallthrough = leaves_fallthrough
    more_leaves (leaves_inner_block x) = leaves_inner_block (more_block x)
    more_leaves (leaves_if_then x y z w) = leaves_if_then (more_begins x) (more_condition y) (more_block z) (more_stand w)
    more_leaves (leaves_switch {t = t} x y z w) = leaves_switch (more_begins x) (tag_f (within E t) (within F t) (deep t) y) (more_met (deep t) z) (more_cases w)
    more_leaves (leaves_type_switch {t = t} {u = k} {ms = ms} x y z w v u q p) = leaves_type_switch (more_begins x) y (more_operand z) w (form_more E F m k (Term-F.Interface ms) refl v) (clauses_f (within E t) (within F t) (deep t) u) q (more_type_cases p)
    more_leaves (leaves_select x) = leaves_select (more_select_cases x)
    more_leaves (leaves_for x y p z w) = leaves_for (more_begins x) (more_condition y) p (more_stand z) (more_block w)
    more_leaves (leaves_while x y) = leaves_while (more_condition x) (more_block y)
    more_leaves {s = s} (leaves_range x y z) = leaves_range (more_operand x) (ranges_f (within E s) (within F s) (deep s) y) (more_block z)
    more_leaves {s = s} (leaves_range_assigned x y z w v u) = leaves_range_assigned (more_operand x) (ranges_f (within E s) (within F s) (deep s) y) z (assigned_f (within E s) (within F s) (deep s) w) (more_met (deep s) v) (more_block u)
    more_leaves {s = s} (leaves_range_defined x y z w v u) = leaves_range_defined (more_operand x) (ranges_f (within E s) (within F s) (deep s) y) z w v (more_block u)

pub typed_among_more : (E F : Env) (blocks : List LiteralBlock) (r : Enclosing) (s t : Scopes) (ss : List Stmt) → Grows E F → AreTyped E blocks r s ss t → AreTyped F blocks r s ss t
typed_among_more E F blocks r s t ss m x = more_typed E F blocks m x

receiver_more : (E F : Env) → Grows E F → {r : Option ParameterDecl} {ts : List Term} → OfReceiver E r ts → OfReceiver F r ts
receiver_more E F m no_receiver = no_receiver
receiver_more E F m (receiver a) = receiver (type_f E F m a)

enters_body_more : (E F : Env) (blocks : List LiteralBlock) → Grows E F → {f : Func} {w : Run} → EntersBody E blocks f w → EntersBody F blocks f w
enters_body_more E F blocks m (enters_body e r g d h) =
    let w = within_more E F [] m in
    enters_body e (receiver_more (within E []) (within F []) w r) (signature_f (within E []) (within F []) w g) d h

pub body_among_more : (E F : Env) (blocks : List LiteralBlock) (f : Func) → Grows E F → IsTypedBody E blocks f → IsTypedBody F blocks f
body_among_more E F blocks f m (no_body e) = no_body e
body_among_more E F blocks f m (typed_body x y) = typed_body (enters_body_more E F blocks m x) (y.0, more_typed E F blocks m y.1)

pub outside_among_more : (E F : Env) (blocks : List LiteralBlock) (at : Node) → Grows E F → AreTypedOutside E blocks at → AreTypedOutside F blocks at
outside_among_more E F blocks at m x = more_literals E F blocks m x
