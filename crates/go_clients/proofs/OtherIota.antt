-- The bodies in a declaration are typed alike, and untyped at the same places, whatever value `iota` has round them: in functions it has none.
use Rattle.std.proofs.Common.{ℕ, List, [], ◌∷◌, Option, None, Some}
use Rattle.go_base.specs.Lists.{Each}
use Rattle.go_client_typings.specs.Bodies.{AreTypedBodies, HasBody, HasUntyped, IsTypedFunc, func_in, has_literal, has_own, untyped_itself, untyped_statement}
use Rattle.go_model.specs.declared.types.term.Term.{Term}
use Rattle.go_rules.specs.Environments.{Env}
use Rattle.go_rules.specs.Nodes.{Node}
use Rattle.go_rules.specs.declared.operand.Operand.{Operand}
use Rattle.go_statement_rules.specs.Bodies.{AreTypedOutside, IsTypedBody, no_body, typed_body}
use Rattle.go_statement_rules.specs.Contexts.{Decides, decides, InContext, in_context, in_context_inside, Inside, StandsAmong, stands_among, StandsIn, Switches, switches, SwitchesTypes, switches_types}
use Rattle.go_statement_rules.specs.Contexts.{inside_block, inside_case, inside_communication, inside_else, inside_for, inside_init, inside_label, inside_literal, inside_post, inside_range, inside_range_assigned, inside_range_defined, inside_select_case, inside_then, inside_type_case, inside_while}
use Rattle.go_statement_rules.specs.Contexts.{stands_in_case, stands_in_header, stands_in_spec, stands_in_type_case, stands_itself}
use Rattle.go_statement_rules.specs.Functions.{Enclosing, EntersBody, EntersFunction, Run, Spot, enters_body, enters_function}
use Rattle.go_statement_rules.specs.Places.{Fails, FailsItself, IsUntypedPlace}
use Rattle.go_statement_rules.specs.Scopes.{Scopes}
use Rattle.go_statement_rules.specs.Statements.{AreCases, AreDeclared, AreMet, AreSelectCases, AreTypeCases, AreTyped, Begins, LiteralsAreTyped, IsTypedBlock, IsCondition, IsTypedFunction, KindLayer, Leaves, MayStand, IsOperand}
use Rattle.go_statement_rules.specs.Statements.{begins_alone, begins_with, typed_block, cases_default, cases_none, cases_values, condition, declared_more, declared_none, typed_function, literals_typed, may_be, may_lack, met_more, met_none, no_condition, select_cases_more, select_cases_none, is_operand, type_cases_more, type_cases_none, typed_more, typed_none}
use Rattle.go_statement_rules.specs.Statements.{leaves_assignment, leaves_break, leaves_call, leaves_constants_declared, leaves_continue, leaves_defer, leaves_definition, leaves_empty, leaves_fallthrough, leaves_for, leaves_go, leaves_goto, leaves_if_then, leaves_inner_block, leaves_labeled, leaves_operation, leaves_range, leaves_range_assigned, leaves_range_defined, leaves_receive_alone, leaves_return, leaves_select, leaves_send, leaves_step, leaves_switch, leaves_type_switch, leaves_variables_declared, leaves_while}
use Rattle.go_syntax.specs.declared.body.BodyRange.{BodyRange}
use Rattle.go_syntax.specs.declared.declaration.Func.{Func}
use Rattle.go_syntax.specs.declared.expression.Expr.{Expr}
use Rattle.go_syntax.specs.declared.name.Name.{Name}
use Rattle.go_syntax.specs.declared.statement.Case.{Case}
use Rattle.go_syntax.specs.declared.statement.LiteralBlock.{LiteralBlock}
use Rattle.go_syntax.specs.declared.statement.SelectCase.{SelectCase}
use Rattle.go_syntax.specs.declared.statement.Stmt.{Stmt}
use Rattle.go_syntax.specs.declared.statement.TypeCase.{TypeCase}
use Rattle.go_syntax.specs.declared.types.Signature.{Signature as Sig}
use Rattle.go_typings.specs.DeclarationNodes.{nodes}
use Rattle.go_typings.specs.Declarations.{Form}

-- the environment where `iota` has this value, or none
abbrev pub with_iota : Env → Option ℕ → Env
with_iota E i = record { meaning = E.meaning; object = E.object; table = E.table; missing = E.missing; path = E.path; bits = E.bits; profile = E.profile; iota = i }

module _ (E : Env) (i : Option ℕ) (blocks : List LiteralBlock) where
  abbrev F : Env
  F = with_iota E i

  -- ---- what is typed

  enters : {r : Enclosing} {s : Scopes} {g : Sig} {c : BodyRange} {w : Run} → EntersFunction E blocks r s g c w → EntersFunction F blocks r s g c w
  enters (enters_function k g d h) = enters_function k g d h

  enters_own : {f : Func} {w : Run} → EntersBody E blocks f w → EntersBody F blocks f w
  enters_own (enters_body e r g d h) = enters_body e r g d h

  mutual
    operand : {r : Enclosing} {s : Scopes} {e : Expr} {o : Operand} → IsOperand E blocks r s e o → IsOperand F blocks r s e o
    operand (is_operand x y) = is_operand x (literals y)

    literals : {r : Enclosing} {s : Scopes} {n : Node} → LiteralsAreTyped E blocks r s n → LiteralsAreTyped F blocks r s n
    literals (literals_typed f) = literals_typed (λ x g c st eq. function (f x g c st eq))

    met : {r : Enclosing} {G : Env} {s : Scopes} {ns : List Node} → AreMet E blocks r G s ns → AreMet F blocks r G s ns
    met met_none = met_none
    met (met_more x y z) = met_more x (literals y) (met z)

    function : {r : Enclosing} {s : Scopes} {g : Sig} {c : BodyRange} → IsTypedFunction E blocks r s g c → IsTypedFunction F blocks r s g c
    function (typed_function x y) = typed_function (enters x) (typed y)

    typed : {r : Enclosing} {s t : Scopes} {ss : List Stmt} → AreTyped E blocks r s ss t → AreTyped F blocks r s ss t
    typed typed_none = typed_none
    typed (typed_more x y) = typed_more (leaves x) (typed y)

    block : {r : Enclosing} {s : Scopes} {ss : List Stmt} → IsTypedBlock E blocks r s ss → IsTypedBlock F blocks r s ss
    block (typed_block x) = typed_block (typed x)

    begins : {r : Enclosing} {s t : Scopes} {x : Option Stmt} → Begins E blocks r s x t → Begins F blocks r s x t
    begins begins_alone = begins_alone
    begins (begins_with x) = begins_with (leaves x)

    stand : {r : Enclosing} {s : Scopes} {x : Option Stmt} → MayStand E blocks r s x → MayStand F blocks r s x
    stand may_lack = may_lack
    stand (may_be x) = may_be (leaves x)

    conditional : {r : Enclosing} {s : Scopes} {e : Option Expr} → IsCondition E blocks r s e → IsCondition F blocks r s e
    conditional no_condition = no_condition
    conditional (condition x y) = condition (operand x) y

    declared : {r : Enclosing} {s t : Scopes} {fs : List Form} → AreDeclared E blocks r s fs t → AreDeclared F blocks r s fs t
    declared declared_none = declared_none
    declared (declared_more x y z w v) = declared_more x y (met z) w (declared v)

    cases : {r : Enclosing} {s : Scopes} {t : Term} {cs : List Case} → AreCases E blocks r s t cs → AreCases F blocks r s t cs
    cases cases_none = cases_none
    cases (cases_default x y z) = cases_default x (block y) (cases z)
    cases (cases_values x y z w v) = cases_values x y (met z) (block w) (cases v)

    type_cases : {r : Enclosing} {s : Scopes} {n : Option Name} {t : Term} {cs : List TypeCase} → AreTypeCases E blocks r s n t cs → AreTypeCases F blocks r s n t cs
    type_cases type_cases_none = type_cases_none
    type_cases (type_cases_more xs x y z w v) = type_cases_more xs x (met y) z (typed w) (type_cases v)

    select_cases : {r : Enclosing} {s : Scopes} {cs : List SelectCase} → AreSelectCases E blocks r s cs → AreSelectCases F blocks r s cs
    select_cases select_cases_none = select_cases_none
    select_cases (select_cases_more x y z) = select_cases_more (begins x) (typed y) (select_cases z)

    leaves : {r : Enclosing} {s t : Scopes} {k : KindLayer} → Leaves E blocks r s k t → Leaves F blocks r s k t
    leaves leaves_empty = leaves_empty
    leaves (leaves_call x y) = leaves_call (operand x) y
    leaves (leaves_receive_alone x y) = leaves_receive_alone (operand x) y
    leaves (leaves_send x y z w v u) = leaves_send (operand x) y z w (operand v) u
    leaves (leaves_step x y z w) = leaves_step (operand x) y z w
    leaves (leaves_operation x y z w v) = leaves_operation (operand x) y (operand z) w v
    leaves (leaves_assignment x y z) = leaves_assignment x y (met z)
    leaves (leaves_definition x y z w v u) = leaves_definition x y z w (met v) u
    leaves (leaves_constants_declared x) = leaves_constants_declared (declared x)
    leaves (leaves_variables_declared x) = leaves_variables_declared (declared x)
    leaves (leaves_labeled x) = leaves_labeled (leaves x)
    leaves (leaves_go x y) = leaves_go (operand x) y
    leaves (leaves_defer x y) = leaves_defer (operand x) y
    leaves (leaves_return x y) = leaves_return x (met y)
    leaves leaves_break = leaves_break
    leaves leaves_continue = leaves_continue
    leaves leaves_goto = leaves_goto
    leaves leaves_fallthrough = leaves_fallthrough
    leaves (leaves_inner_block x) = leaves_inner_block (block x)
    leaves (leaves_if_then x y z w) = leaves_if_then (begins x) (conditional y) (block z) (stand w)
    leaves (leaves_switch x y z w) = leaves_switch (begins x) y (met z) (cases w)
    leaves (leaves_type_switch x y z w v u q p) = leaves_type_switch (begins x) y (operand z) w v u q (type_cases p)
    leaves (leaves_select x) = leaves_select (select_cases x)
    leaves (leaves_for x y p z w) = leaves_for (begins x) (conditional y) p (stand z) (block w)
    leaves (leaves_while x y) = leaves_while (conditional x) (block y)
    leaves (leaves_range x y z) = leaves_range (operand x) y (block z)
    leaves (leaves_range_assigned x y z w v u) = leaves_range_assigned (operand x) y z w (met v) (block u)
    leaves (leaves_range_defined x y z w v u) = leaves_range_defined (operand x) y z w v (block u)

  func : (f : Option Func) → IsTypedFunc E blocks f → IsTypedFunc F blocks f
  func None h = tt
  func (Some f) h = own h
    where
      own : {f : Func} → IsTypedBody E blocks f → IsTypedBody F blocks f
      own (no_body e) = no_body e
      own (typed_body x y) = typed_body (enters_own x) (y.0, typed y.1)

  each : (ns : List Node) → Each (AreTypedOutside E blocks) ns → Each (AreTypedOutside F blocks) ns
  each [] h = tt
  each (n ∷ ns) h = (literals h.0, each ns h.1)

  pub bodies_alike : (f : Form) → AreTypedBodies E blocks f → AreTypedBodies F blocks f
  bodies_alike f h = record { body = func (func_in f) h.body; literals = each (nodes f) h.literals }

  -- ---- where statements stand

  switched : {r : Enclosing} {s t : Scopes} {init : Option Stmt} {e : Option Expr} → Switches E blocks r s init e t → Switches F blocks r s init e t
  switched (switches x y z) = switches (begins x) y (met z)

  types_switched : {r : Enclosing} {s t : Scopes} {init : Option Stmt} {n : Option Name} {e : Expr} {u : Term} → SwitchesTypes E blocks r s init n e t u → SwitchesTypes F blocks r s init n e t u
  types_switched (switches_types x y z w v) = switches_types (begins x) y (operand z) w v

  decided : {r : Enclosing} {s t : Scopes} {init : Option Stmt} {e : Option Expr} → Decides E blocks r s init e t → Decides F blocks r s init e t
  decided (decides x y) = decides (begins x) (conditional y)

  standing : {r : Enclosing} {s t : Scopes} {k : KindLayer} {n : Node} → StandsIn E blocks r s k t n → StandsIn F blocks r s k t n
  standing (stands_itself j) = stands_itself j
  standing (stands_in_spec before after f e d j) = stands_in_spec before after f e (declared d) j
  standing (stands_in_header b j) = stands_in_header (begins b) j
  standing (stands_in_case c k w j v l) = stands_in_case c k (switched w) j v l
  standing (stands_in_type_case c k w j l) = stands_in_type_case c k (types_switched w) j l

  inside : {r : Enclosing} {s : Scopes} {k : KindLayer} {v : Run} → Inside E blocks r s k v → Inside F blocks r s k v
  inside (inside_label e) = inside_label e
  inside (inside_block e) = inside_block e
  inside (inside_init e) = inside_init e
  inside (inside_then e d) = inside_then e (decided d)
  inside (inside_else e d) = inside_else e (decided d)
  inside (inside_case c e w j) = inside_case c e (switched w) j
  inside (inside_type_case c xs e w j l h b) = inside_type_case c xs e (types_switched w) j l (met h) b
  inside (inside_communication c e j l) = inside_communication c e j l
  inside (inside_select_case c e j b) = inside_select_case c e j (begins b)
  inside (inside_post e d) = inside_post e (decided d)
  inside (inside_for e d p h) = inside_for e (decided d) p (stand h)
  inside (inside_while e c) = inside_while e (conditional c)
  inside (inside_range e x y) = inside_range e (operand x) y
  inside (inside_range_assigned e x y z w v) = inside_range_assigned e (operand x) y z w (met v)
  inside (inside_range_defined e x y z w v) = inside_range_defined e (operand x) y z w v
  inside (inside_literal j l e h) = inside_literal (standing j) l e (enters h)

  among : {w : Run} {c : Spot} → StandsAmong E blocks w c → StandsAmong F blocks w c
  among (stands_among before after e h) = stands_among before after e (typed h)

  context : {w : Run} {c : Spot} → InContext E blocks w c → InContext F blocks w c
  context (in_context h) = in_context (among h)
  context (in_context_inside h j k) = in_context_inside (among h) (inside j) (context k)

  body_in : {f : Form} {w : Run} → HasBody E blocks f w → HasBody F blocks f w
  body_in (has_own e h) = has_own e (enters_own h)
  body_in (has_literal j l e h) = has_literal j l e (enters h)

-- ---- what isn't typed

fails_alike : (E : Env) (i : Option ℕ) (blocks : List LiteralBlock) (w : Run) (c : Spot) → Fails E blocks w c → Fails (with_iota E i) blocks w c
fails_alike E i blocks w c h = record { stands = context E i blocks h.stands; untyped = λ t l. h.untyped t (leaves (with_iota E i) E.iota blocks l) }

itself_alike : (E : Env) (i : Option ℕ) (blocks : List LiteralBlock) (w : Run) (c : Spot) → FailsItself E blocks w c → FailsItself (with_iota E i) blocks w c
itself_alike E i blocks w c h = record {
  fails = fails_alike E i blocks w c h.fails;
  holds_none = λ v d k f. h.holds_none v d (inside (with_iota E i) E.iota blocks k) (fails_alike (with_iota E i) E.iota blocks v d f);
}

place_alike : (E : Env) (i : Option ℕ) (blocks : List LiteralBlock) (w : Run) (p : ℕ) → IsUntypedPlace E blocks w p → IsUntypedPlace (with_iota E i) blocks w p
place_alike E i blocks w p h = record { spot = h.spot; fails = itself_alike E i blocks w h.spot h.fails; starts = h.starts; least = λ c k. h.least c (itself_alike (with_iota E i) E.iota blocks w c k) }

pub untyped_alike : (E : Env) (i : Option ℕ) (blocks : List LiteralBlock) (f : Form) (p : ℕ) → HasUntyped E blocks f p → HasUntyped (with_iota E i) blocks f p
untyped_alike E i blocks f p (untyped_statement {w = w} h k) = untyped_statement (body_in E i blocks h) (place_alike E i blocks w p k)
untyped_alike E i blocks f p (untyped_itself h k) = untyped_itself (λ t. h (bodies_alike (with_iota E i) E.iota blocks f t)) (λ w q b u. k w q (body_in (with_iota E i) E.iota blocks b) (place_alike (with_iota E i) E.iota blocks w q u))
