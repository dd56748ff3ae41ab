-- What stands in context in an environment does in one that has more.
use Rattle.std.proofs.Common.{List, [], ◌∷◌, Option, refl}
use Rattle.go_model.specs.declared.types.term.Term.{Term, Term-F}
use Rattle.go_rules.specs.Environments.{Env}
use Rattle.go_rules.specs.Growth.{Grows}
use Rattle.go_rules.specs.Nodes.{Node}
use Rattle.go_rules.specs.declared.operand.Operand.{Operand}
use Rattle.go_rules.proofs.GrowTypes.{form_more}
use Rattle.go_statement_rules.specs.Contexts.{Decides, decides, InContext, in_context, in_context_inside, Inside, StandsAmong, stands_among, StandsIn, Switches, switches, SwitchesTypes, switches_types}
use Rattle.go_statement_rules.specs.Contexts.{inside_block, inside_case, inside_communication, inside_else, inside_for, inside_init, inside_label, inside_literal, inside_post, inside_range, inside_range_assigned, inside_range_defined, inside_select_case, inside_then, inside_type_case, inside_while}
use Rattle.go_statement_rules.specs.Contexts.{stands_in_case, stands_in_header, stands_in_spec, stands_in_type_case, stands_itself}
use Rattle.go_statement_rules.specs.Functions.{Enclosing, EntersBody, EntersFunction, OfReceiver, Run, Spot, enters_body, enters_function, no_receiver, receiver}
use Rattle.go_statement_rules.specs.Scopes.{Scopes, within}
use Rattle.go_statement_rules.specs.Statements.{AreDeclared, AreMet, AreTyped, Begins, IsCondition, IsOperand, IsTypedFunction, KindLayer, Leaves, LiteralsAreTyped, MayStand, form_env, kind_of}
use Rattle.go_statement_rules.specs.Statements.{begins_alone, begins_with, condition, declared_more, declared_none, is_operand, literals_typed, may_be, may_lack, met_more, met_none, no_condition, typed_function, typed_more, typed_none}
use Rattle.go_statement_rules.proofs.GrowLocals.{assigned_f, fits_f, form_env_more, listed_f, meets_f, operand_f, ranges_f, signature_f, tag_f, truth_f, type_f, within_more}
use Rattle.go_statement_rules.proofs.GrowStatements.{typed_among_more}
use Rattle.go_syntax.specs.declared.body.BodyRange.{BodyRange}
use Rattle.go_syntax.specs.declared.declaration.Func.{Func}
use Rattle.go_syntax.specs.declared.expression.Expr.{Expr}
use Rattle.go_syntax.specs.declared.name.Name.{Name}
use Rattle.go_syntax.specs.declared.statement.LiteralBlock.{LiteralBlock}
use Rattle.go_syntax.specs.declared.statement.Stmt.{Stmt}
use Rattle.go_syntax.specs.declared.statement.TypeCase.{out-TypeCase}
use Rattle.go_syntax.specs.declared.types.ParameterDecl.{ParameterDecl}
use Rattle.go_syntax.specs.declared.types.Signature.{Signature as Sig}
use Rattle.go_typings.proofs.GrowRules.{gives_more}
use Rattle.go_typings.specs.Declarations.{Form}

module _ (E F : Env) (blocks : List LiteralBlock) (m : Grows E F) where
  deep : (s : Scopes) → Grows (within E s) (within F s)
  deep s = within_more E F s m

  pub enters_f : {r : Enclosing} {s : Scopes} {g : Sig} {c : BodyRange} {w : Run} → EntersFunction E blocks r s g c w → EntersFunction F blocks r s g c w
  enters_f {s = s} (enters_function i g d h) = enters_function i (signature_f (within E s) (within F s) (deep s) g) d h

  receiver_f : {r : Option ParameterDecl} {ts : List Term} → OfReceiver (within E []) r ts → OfReceiver (within F []) r ts
  receiver_f no_receiver = no_receiver
  receiver_f (receiver a) = receiver (type_f (within E []) (within F []) (deep []) a)

  pub enters_body_f : {f : Func} {w : Run} → EntersBody E blocks f w → EntersBody F blocks f w
  enters_body_f (enters_body e r g d h) = enters_body e (receiver_f r) (signature_f (within E []) (within F []) (deep []) g) d h

  typed_f : {r : Enclosing} {s t : Scopes} {ss : List Stmt} → AreTyped E blocks r s ss t → AreTyped F blocks r s ss t
  typed_f {r = r} {s = s} {t = t} {ss = ss} x = typed_among_more E F blocks r s t ss m x

  only_one : {r : Enclosing} {s t : Scopes} {x : Stmt} → AreTyped F blocks r s (x ∷ []) t → Leaves F blocks r s (kind_of x) t
  only_one (typed_more h typed_none) = h

  pub leaves_f : {r : Enclosing} {s t : Scopes} (x : Stmt) → Leaves E blocks r s (kind_of x) t → Leaves F blocks r s (kind_of x) t
  leaves_f x h = only_one {x = x} (typed_f (typed_more {x = x} h typed_none))

  function_f : {r : Enclosing} {s : Scopes} {g : Sig} {c : BodyRange} → IsTypedFunction E blocks r s g c → IsTypedFunction F blocks r s g c
  function_f (typed_function x y) = typed_function (enters_f x) (typed_f y)

  literals_f : {r : Enclosing} {s : Scopes} {n : Node} → LiteralsAreTyped E blocks r s n → LiteralsAreTyped F blocks r s n
  literals_f (literals_typed f) = literals_typed (λ x g c st eq. function_f (f x g c st eq))

  operand_in_f : {r : Enclosing} {s : Scopes} {e : Expr} {o : Operand} → IsOperand E blocks r s e o → IsOperand F blocks r s e o
  operand_in_f {s = s} (is_operand x y) = is_operand (operand_f (within E s) (within F s) (deep s) x) (literals_f y)

  met_f : {r : Enclosing} {G H : Env} {s : Scopes} {ns : List Node} (g : Grows G H) → AreMet E blocks r G s ns → AreMet F blocks r H s ns
  met_f g met_none = met_none
  met_f {G = G} {H = H} g (met_more x y z) = met_more (meets_f G H g x) (literals_f y) (met_f g z)

  begins_f : {r : Enclosing} {s t : Scopes} {x : Option Stmt} → Begins E blocks r s x t → Begins F blocks r s x t
  begins_f begins_alone = begins_alone
  begins_f (begins_with {x = x} h) = begins_with {x = x} (leaves_f x h)

  stand_f : {r : Enclosing} {s : Scopes} {x : Option Stmt} → MayStand E blocks r s x → MayStand F blocks r s x
  stand_f may_lack = may_lack
  stand_f (may_be {x = x} h) = may_be {x = x} (leaves_f x h)

  condition_f : {r : Enclosing} {s : Scopes} {e : Option Expr} → IsCondition E blocks r s e → IsCondition F blocks r s e
  condition_f no_condition = no_condition
  condition_f {s = s} (condition x y) = condition (operand_in_f x) (truth_f (within E s) (within F s) (deep s) y)

  declared_f : {r : Enclosing} {s t : Scopes} {fs : List Form} → AreDeclared E blocks r s fs t → AreDeclared F blocks r s fs t
  declared_f declared_none = declared_none
  declared_f {s = s} (declared_more {f = f} x y z w v) = let g = form_env_more (within E s) (within F s) f (deep s) in declared_more (gives_more (form_env (within E s) f) (form_env (within F s) f) g x) (fits_f (within E s) (within F s) (deep s) f y) (met_f g z) w (declared_f v)

  -- ---- behind headers

  switches_f : {r : Enclosing} {s t : Scopes} {init : Option Stmt} {e : Option Expr} → Switches E blocks r s init e t → Switches F blocks r s init e t
  switches_f {t = t} (switches x y z) = switches (begins_f x) (tag_f (within E t) (within F t) (deep t) y) (met_f (deep t) z)

  types_f : {r : Enclosing} {s t : Scopes} {init : Option Stmt} {n : Option Name} {e : Expr} {u : Term} → SwitchesTypes E blocks r s init n e t u → SwitchesTypes F blocks r s init n e t u
  types_f {u = u} (switches_types {ms = ms} x y z w v) = switches_types (begins_f x) y (operand_in_f z) w (form_more E F m u (Term-F.Interface ms) refl v)

  decides_f : {r : Enclosing} {s t : Scopes} {init : Option Stmt} {e : Option Expr} → Decides E blocks r s init e t → Decides F blocks r s init e t
  decides_f (decides x y) = decides (begins_f x) (condition_f y)

  stands_f : {r : Enclosing} {s t : Scopes} {k : KindLayer} {n : Node} → StandsIn E blocks r s k t n → StandsIn F blocks r s k t n
  stands_f (stands_itself i) = stands_itself i
  stands_f (stands_in_spec before after f e d i) = stands_in_spec before after f e (declared_f d) i
  stands_f (stands_in_header b i) = stands_in_header (begins_f b) i
  stands_f (stands_in_case c k w i v j) = stands_in_case c k (switches_f w) i v j
  stands_f (stands_in_type_case c k w i j) = stands_in_type_case c k (types_f w) i j

  pub inside_f : {r : Enclosing} {s : Scopes} {k : KindLayer} {v : Run} → Inside E blocks r s k v → Inside F blocks r s k v
  inside_f (inside_label e) = inside_label e
  inside_f (inside_block e) = inside_block e
  inside_f (inside_init e) = inside_init e
  inside_f (inside_then e d) = inside_then e (decides_f d)
  inside_f (inside_else e d) = inside_else e (decides_f d)
  inside_f (inside_case c e w i) = inside_case c e (switches_f w) i
  inside_f (inside_type_case {t = t} {v = v} c xs e w i l h b) = inside_type_case c xs e (types_f w) i (listed_f (within E t) (within F t) (deep t) v (out-TypeCase c).types xs l) (met_f (deep t) h) b
  inside_f (inside_communication c e i j) = inside_communication c e i j
  inside_f (inside_select_case c e i b) = inside_select_case c e i (begins_f b)
  inside_f (inside_post e d) = inside_post e (decides_f d)
  inside_f (inside_for e d p h) = inside_for e (decides_f d) p (stand_f h)
  inside_f (inside_while e c) = inside_while e (condition_f c)
  inside_f {s = s} (inside_range e x y) = inside_range e (operand_in_f x) (ranges_f (within E s) (within F s) (deep s) y)
  inside_f {s = s} (inside_range_assigned e x y z w v) = inside_range_assigned e (operand_in_f x) (ranges_f (within E s) (within F s) (deep s) y) z (assigned_f (within E s) (within F s) (deep s) w) (met_f (deep s) v)
  inside_f {s = s} (inside_range_defined e x y z w v) = inside_range_defined e (operand_in_f x) (ranges_f (within E s) (within F s) (deep s) y) z w v
  inside_f (inside_literal i j e h) = inside_literal (stands_f i) j e (enters_f h)

  among_f : {w : Run} {c : Spot} → StandsAmong E blocks w c → StandsAmong F blocks w c
  among_f (stands_among before after e h) = stands_among before after e (typed_f h)

  pub context_f : {w : Run} {c : Spot} → InContext E blocks w c → InContext F blocks w c
  context_f (in_context h) = in_context (among_f h)
  context_f (in_context_inside h i k) = in_context_inside (among_f h) (inside_f i) (context_f k)
