-- What is typed with the blocks of a list is typed with those of one that has them too: a recursion on the derivation, through function literals.
use Rattle.std.proofs.Common.{ℕ, List, Option}
use Rattle.go_model.specs.declared.types.term.Term.{Term}
use Rattle.go_typings.specs.go_rules.Environments.{Env}
use Rattle.go_typings.specs.go_rules.Nodes.{Node}
use Rattle.go_typings.specs.go_rules.declared.operand.Operand.{Operand}
use Rattle.go_statement_rules.specs.Bodies.{AreTypedOutside, IsTypedBody, no_body, typed_body}
use Rattle.go_statement_rules.specs.Functions.{Enclosing, EntersBody, EntersFunction, IsBlockAt, Run, enters_body, enters_function}
use Rattle.go_statement_rules.specs.Scopes.{Scopes}
use Rattle.go_statement_rules.specs.Statements.{AreCases, AreDeclared, AreMet, AreSelectCases, AreTypeCases, AreTyped, Begins, LiteralsAreTyped, IsTypedBlock, IsCondition, IsTypedFunction, KindLayer, Leaves, MayStand, IsOperand}
use Rattle.go_statement_rules.specs.Statements.{begins_alone, begins_with, typed_block, cases_default, cases_none, cases_values, condition, declared_more, declared_none, typed_function, literals_typed, may_be, may_lack, met_more, met_none, no_condition, select_cases_more, select_cases_none, is_operand, type_cases_more, type_cases_none, typed_more, typed_none}
use Rattle.go_statement_rules.specs.Statements.{leaves_assignment, leaves_break, leaves_call, leaves_constants_declared, leaves_continue, leaves_defer, leaves_definition, leaves_empty, leaves_fallthrough, leaves_for, leaves_go, leaves_goto, leaves_if_then, leaves_inner_block, leaves_labeled, leaves_operation, leaves_range, leaves_range_assigned, leaves_range_defined, leaves_receive_alone, leaves_return, leaves_select, leaves_send, leaves_step, leaves_switch, leaves_type_switch, leaves_variables_declared, leaves_while}
use Rattle.go_syntax.specs.declared.body.BodyRange.{BodyRange}
use Rattle.go_syntax.specs.declared.declaration.Func.{Func}
use Rattle.go_syntax.specs.declared.expression.Expr.{Expr}
use Rattle.go_syntax.specs.declared.name.Name.{Name}
use Rattle.go_syntax.specs.declared.statement.Case.{Case}
use Rattle.go_syntax.specs.declared.statement.LiteralBlock.{LiteralBlock}
use Rattle.go_syntax.specs.declared.statement.SelectCase.{SelectCase}
use Rattle.go_syntax.specs.declared.statement.Stmt.{Stmt}
use Rattle.go_syntax.specs.declared.statement.TypeCase.{TypeCase}
use Rattle.go_syntax.specs.declared.types.Signature.{Signature as Sig}
use Rattle.go_typings.specs.Declarations.{Form}

module _ (E : Env) (a b : List LiteralBlock) (has : (start : ℕ) (ss : List Stmt) → IsBlockAt a start ss → IsBlockAt b start ss) where
  enters_more : {r : Enclosing} {s : Scopes} {g : Sig} {c : BodyRange} {w : Run} → EntersFunction E a r s g c w → EntersFunction E b r s g c w
  enters_more (enters_function i g d h) = enters_function i g d (has _ _ h)

  enters_body_more : {f : Func} {w : Run} → EntersBody E a f w → EntersBody E b f w
  enters_body_more (enters_body e r g d h) = enters_body e r g d (has _ _ h)

  mutual
    more_operand : {r : Enclosing} {s : Scopes} {e : Expr} {o : Operand} → IsOperand E a r s e o → IsOperand E b r s e o
    more_operand (is_operand x y) = is_operand x (more_literals y)

    more_literals : {r : Enclosing} {s : Scopes} {n : Node} → LiteralsAreTyped E a r s n → LiteralsAreTyped E b r s n
    more_literals (literals_typed f) = literals_typed (λ x g c st eq. more_function (f x g c st eq))

    more_met : {r : Enclosing} {F : Env} {s : Scopes} {ns : List Node} → AreMet E a r F s ns → AreMet E b r F s ns
    more_met met_none = met_none
    more_met (met_more x y z) = met_more x (more_literals y) (more_met z)

    more_function : {r : Enclosing} {s : Scopes} {g : Sig} {c : BodyRange} → IsTypedFunction E a r s g c → IsTypedFunction E b r s g c
    more_function (typed_function x y) = typed_function (enters_more x) (more_typed y)

    more_typed : {r : Enclosing} {s t : Scopes} {ss : List Stmt} → AreTyped E a r s ss t → AreTyped E b r s ss t
    more_typed typed_none = typed_none
    more_typed (typed_more x y) = typed_more (more_leaves x) (more_typed y)

    more_block : {r : Enclosing} {s : Scopes} {ss : List Stmt} → IsTypedBlock E a r s ss → IsTypedBlock E b r s ss
    more_block (typed_block x) = typed_block (more_typed x)

    more_begins : {r : Enclosing} {s t : Scopes} {x : Option Stmt} → Begins E a r s x t → Begins E b r s x t
    more_begins begins_alone = begins_alone
    more_begins (begins_with x) = begins_with (more_leaves x)

    more_stand : {r : Enclosing} {s : Scopes} {x : Option Stmt} → MayStand E a r s x → MayStand E b r s x
    more_stand may_lack = may_lack
    more_stand (may_be x) = may_be (more_leaves x)

    more_condition : {r : Enclosing} {s : Scopes} {e : Option Expr} → IsCondition E a r s e → IsCondition E b r s e
    more_condition no_condition = no_condition
    more_condition (condition x y) = condition (more_operand x) y

    more_declared : {r : Enclosing} {s t : Scopes} {fs : List Form} → AreDeclared E a r s fs t → AreDeclared E b r s fs t
    more_declared declared_none = declared_none
    more_declared (declared_more x y z w v) = declared_more x y (more_met z) w (more_declared v)

    more_cases : {r : Enclosing} {s : Scopes} {t : Term} {cs : List Case} → AreCases E a r s t cs → AreCases E b r s t cs
    more_cases cases_none = cases_none
    more_cases (cases_default x y z) = cases_default x (more_block y) (more_cases z)
    more_cases (cases_values x y z w v) = cases_values x y (more_met z) (more_block w) (more_cases v)

    more_type_cases : {r : Enclosing} {s : Scopes} {n : Option Name} {t : Term} {cs : List TypeCase} → AreTypeCases E a r s n t cs → AreTypeCases E b r s n t cs
    more_type_cases type_cases_none = type_cases_none
    more_type_cases (type_cases_more xs x y z w v) = type_cases_more xs x (more_met y) z (more_typed w) (more_type_cases v)

    more_select_cases : {r : Enclosing} {s : Scopes} {cs : List SelectCase} → AreSelectCases E a r s cs → AreSelectCases E b r s cs
    more_select_cases select_cases_none = select_cases_none
    more_select_cases (select_cases_more x y z) = select_cases_more (more_begins x) (more_typed y) (more_select_cases z)

    more_leaves : {r : Enclosing} {s t : Scopes} {k : KindLayer} → Leaves E a r s k t → Leaves E b r s k t
    more_leaves leaves_empty = leaves_empty
    more_leaves (leaves_call x y) = leaves_call (more_operand x) y
    more_leaves (leaves_receive_alone x y) = leaves_receive_alone (more_operand x) y
    more_leaves (leaves_send x y z w v u) = leaves_send (more_operand x) y z w (more_operand v) u
    more_leaves (leaves_step x y z w) = leaves_step (more_operand x) y z w
    more_leaves (leaves_operation x y z w v) = leaves_operation (more_operand x) y (more_operand z) w v
    more_leaves (leaves_assignment x y z) = leaves_assignment x y (more_met z)
    more_leaves (leaves_definition x y z w v u) = leaves_definition x y z w (more_met v) u
    more_leaves (leaves_constants_declared x) = leaves_constants_declared (more_declared x)
    more_leaves (leaves_variables_declared x) = leaves_variables_declared (more_declared x)
    more_leaves (leaves_labeled x) = leaves_labeled (more_leaves x)
    more_leaves (leaves_go x y) = leaves_go (more_operand x) y
    more_leaves (leaves_defer x y) = leaves_defer (more_operand x) y
    more_leaves (leaves_return x y) = leaves_return x (more_met y)
    more_leaves leaves_break = leaves_break
    more_leaves leaves_continue = leaves_continue
    more_leaves leaves_goto = leaves_goto
    more_leaves leaves_fallthrough = leaves_fallthrough
    more_leaves (leaves_inner_block x) = leaves_inner_block (more_block x)
    more_leaves (leaves_if_then x y z w) = leaves_if_then (more_begins x) (more_condition y) (more_block z) (more_stand w)
    more_leaves (leaves_switch x y z w) = leaves_switch (more_begins x) y (more_met z) (more_cases w)
    more_leaves (leaves_type_switch x y z w v u q p) = leaves_type_switch (more_begins x) y (more_operand z) w v u q (more_type_cases p)
    more_leaves (leaves_select x) = leaves_select (more_select_cases x)
    more_leaves (leaves_for x y p z w) = leaves_for (more_begins x) (more_condition y) p (more_stand z) (more_block w)
    more_leaves (leaves_while x y) = leaves_while (more_condition x) (more_block y)
    more_leaves (leaves_range x y z) = leaves_range (more_operand x) y (more_block z)
    more_leaves (leaves_range_assigned x y z w v u) = leaves_range_assigned (more_operand x) y z w (more_met v) (more_block u)
    more_leaves (leaves_range_defined x y z w v u) = leaves_range_defined (more_operand x) y z w v (more_block u)

pub typed_with_more : (E : Env) (a b : List LiteralBlock) (r : Enclosing) (s t : Scopes) (ss : List Stmt) → ((start : ℕ) (xs : List Stmt) → IsBlockAt a start xs → IsBlockAt b start xs) → AreTyped E a r s ss t → AreTyped E b r s ss t
typed_with_more E a b r s t ss has x = more_typed E a b has x

pub body_with_more : (E : Env) (a b : List LiteralBlock) (f : Func) → ((start : ℕ) (xs : List Stmt) → IsBlockAt a start xs → IsBlockAt b start xs) → IsTypedBody E a f → IsTypedBody E b f
body_with_more E a b f has (no_body e) = no_body e
body_with_more E a b f has (typed_body x y) = typed_body (enters_body_more E a b has x) (y.0, more_typed E a b has y.1)

pub outside_with_more : (E : Env) (a b : List LiteralBlock) (at : Node) → ((start : ℕ) (xs : List Stmt) → IsBlockAt a start xs → IsBlockAt b start xs) → AreTypedOutside E a at → AreTypedOutside E b at
outside_with_more E a b at has x = more_literals E a b has x
