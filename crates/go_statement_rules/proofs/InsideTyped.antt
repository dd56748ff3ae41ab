-- What stands in context in typed statements is typed.
use Rattle.std.proofs.Common.{inl, inr, ◌≡◌, List, [], ◌∷◌, ◌++◌, map, take, length, Option, Some, sym, ap, ◌∙◌, subst}
use Rattle.go_base.specs.Lists.{Has as In}
use Rattle.go_model.specs.declared.types.term.Term.{Term}
use Rattle.go_typings.specs.go_rules.Environments.{Env}
use Rattle.go_typings.specs.go_rules.Nodes.{Node, Stands, expression}
use Rattle.go_typings.specs.go_rules.Operands.{IsTyped}
use Rattle.go_typings.proofs.go_rules_proofs.OneKind.{one_type}
use Rattle.go_typings.proofs.go_rules_proofs.OneName.{none_some, one_some}
use Rattle.go_typings.specs.go_rules.declared.operand.Operand.{Operand}
use Rattle.go_statement_rules.specs.Bodies.{IsTypedRun}
use Rattle.go_statement_rules.specs.Clauses.{Ranges, bound_type}
use Rattle.go_statement_rules.specs.Contexts.{decides, InContext, in_context, in_context_inside, Inside, StandsAmong, stands_among, StandsIn, Switches, switches, SwitchesTypes, switches_types, forms_of, header_nodes, init_of, own_nodes}
use Rattle.go_statement_rules.specs.Contexts.{inside_block, inside_case, inside_communication, inside_else, inside_for, inside_init, inside_label, inside_literal, inside_post, inside_range, inside_range_assigned, inside_range_defined, inside_select_case, inside_then, inside_type_case, inside_while, stands_in_case, stands_in_header, stands_in_spec, stands_in_type_case, stands_itself}
use Rattle.go_statement_rules.specs.Functions.{Enclosing, EntersFunction, Run, Spot}
use Rattle.go_statement_rules.specs.Scopes.{Scopes, Declares, locals, opened, within}
use Rattle.go_statement_rules.specs.Statements.{AreCases, AreDeclared, AreListed, AreMet, AreSelectCases, AreTypeCases, AreTyped, Begins, LiteralsAreTyped, IsTypedBlock, IsCondition, IsTypedFunction, KindLayer, Leaves, MayStand, IsOperand, bound, kind_of, listed_nodes, some_names, tag_nodes}
use Rattle.go_statement_rules.specs.Statements.{begins_with, typed_block, cases_default, cases_none, cases_values, condition, declared_more, declared_none, typed_function, literals_typed, may_be, met_more, met_none, no_condition, select_cases_more, select_cases_none, is_operand, type_cases_more, type_cases_none, typed_more, typed_none}
use Rattle.go_statement_rules.specs.Statements.{leaves_assignment, leaves_call, leaves_constants_declared, leaves_defer, leaves_definition, leaves_for, leaves_go, leaves_if_then, leaves_inner_block, leaves_labeled, leaves_operation, leaves_range, leaves_range_assigned, leaves_range_defined, leaves_receive_alone, leaves_return, leaves_select, leaves_send, leaves_step, leaves_switch, leaves_type_switch, leaves_variables_declared, leaves_while}
use Rattle.go_statement_rules.proofs.OneRun.{begins_once, bound_once, enters_once, listed_once, operand_once, ranges_once}
use Rattle.go_statement_rules.proofs.OneScope.{declared_once, declares_once, leaves_once}
use Rattle.go_syntax.specs.declared.body.BodyRange.{BodyRange}
use Rattle.go_syntax.specs.declared.expression.Expr.{Expr, Expr-F, out-Expr}
use Rattle.go_syntax.specs.declared.name.Name.{Name}
use Rattle.go_syntax.specs.declared.statement.Case.{Case, out-Case}
use Rattle.go_syntax.specs.declared.statement.LiteralBlock.{LiteralBlock}
use Rattle.go_syntax.specs.declared.statement.SelectCase.{SelectCase, out-SelectCase}
use Rattle.go_syntax.specs.declared.statement.Stmt.{Stmt}
use Rattle.go_syntax.specs.declared.statement.StmtKind.{StmtKind-F}
use Rattle.go_syntax.specs.declared.statement.TypeCase.{TypeCase, out-TypeCase}
use Rattle.go_syntax.specs.declared.types.Signature.{Signature as Sig}
use Rattle.go_typings.specs.Declarations.{Form}
use Rattle.go_typings.specs.DeclarationNodes.{nodes}

module _ (E : Env) (blocks : List LiteralBlock) where
  abbrev T : Run → Type 0
  T w = IsTypedRun E blocks w

  one_typed : {r : Enclosing} {s t : Scopes} {x : Stmt} → Leaves E blocks r s (kind_of x) t → (u : Scopes) × AreTyped E blocks r s (x ∷ []) u
  one_typed {t = t} a = (t, typed_more a typed_none)

  of_block : {r : Enclosing} {s : Scopes} {ss : List Stmt} → IsTypedBlock E blocks r s ss → (u : Scopes) × AreTyped E blocks r (opened s) ss u
  of_block (typed_block {t = t} a) = (t, a)

  -- ---- literals

  in_met : {r : Enclosing} {F : Env} {s : Scopes} {ns : List Node} {n : Node} → AreMet E blocks r F s ns → In ns n → LiteralsAreTyped E blocks r s n
  in_met met_none h = absurd h
  in_met {r = r} {s = s} (met_more a b c) (inl e) = subst (LiteralsAreTyped E blocks r s) e b
  in_met (met_more a b c) (inr h) = in_met c h

  in_one : {r : Enclosing} {s : Scopes} {e : Expr} {o : Operand} {n : Node} → IsOperand E blocks r s e o → In (expression e ∷ []) n → LiteralsAreTyped E blocks r s n
  in_one {r = r} {s = s} (is_operand a b) (inl e) = subst (LiteralsAreTyped E blocks r s) e b
  in_one x (inr h) = absurd h

  in_two : {r : Enclosing} {s : Scopes} {e f : Expr} {o p : Operand} {n : Node} → IsOperand E blocks r s e o → IsOperand E blocks r s f p → In (expression e ∷ expression f ∷ []) n → LiteralsAreTyped E blocks r s n
  in_two {r = r} {s = s} (is_operand a b) y (inl e) = subst (LiteralsAreTyped E blocks r s) e b
  in_two x y (inr h) = in_one y h

  in_condition : {r : Enclosing} {s : Scopes} {e : Option Expr} {n : Node} → IsCondition E blocks r s e → In (tag_nodes e) n → LiteralsAreTyped E blocks r s n
  in_condition no_condition h = absurd h
  in_condition (condition a b) h = in_one a h

  own_literals : {r : Enclosing} {s t : Scopes} {k : KindLayer} {n : Node} → Leaves E blocks r s k t → In (own_nodes k) n → LiteralsAreTyped E blocks r s n
  own_literals (leaves_call a b) h = in_one a h
  own_literals (leaves_receive_alone a b) h = in_one a h
  own_literals (leaves_send a b c d e f) h = in_two a e h
  own_literals (leaves_step a b c d) h = in_one a h
  own_literals (leaves_operation a b c d e) h = in_two a c h
  own_literals (leaves_assignment a b c) h = in_met c h
  own_literals (leaves_definition a b c d e f) h = in_met e h
  own_literals (leaves_go a b) h = in_one a h
  own_literals (leaves_defer a b) h = in_one a h
  own_literals (leaves_return a b) h = in_met b h
  own_literals (leaves_while a b) h = in_condition a h
  own_literals (leaves_range a b c) h = in_one a h
  own_literals {r = r} {s = s} (leaves_range_assigned (is_operand x y) b c d e f) (inl i) = subst (LiteralsAreTyped E blocks r s) i y
  own_literals (leaves_range_assigned a b c d e f) (inr h) = in_met e h
  own_literals (leaves_range_defined a b c d e f) h = in_one a h
  own_literals x h = absurd h

  no_spec_here : (f : Form) (before after : List Form) → [] ≡ before ++ f ∷ after → ⊥
  no_spec_here f [] after e = absurd (cc)
  no_spec_here f (b ∷ before) after e = absurd (cc)

  head_form : {f g : Form} {fs gs : List Form} → f ∷ fs ≡ g ∷ gs → f ≡ g
  head_form e = cc

  tail_form : {f g : Form} {fs gs : List Form} → f ∷ fs ≡ g ∷ gs → fs ≡ gs
  tail_form e = cc

  -- the literals of a spec, where those before it leave these scopes
  spec_literals : {r : Enclosing} {s t u : Scopes} {fs : List Form} {n : Node} (before after : List Form) (f : Form) → fs ≡ before ++ f ∷ after → AreDeclared E blocks r s fs u → AreDeclared E blocks r s before t → In (nodes f) n → LiteralsAreTyped E blocks r t n
  spec_literals [] after f e declared_none d h = absurd (no_spec_here f [] after e)
  spec_literals (b ∷ before) after f e declared_none d h = absurd (no_spec_here f (b ∷ before) after e)
  spec_literals {n = n} [] after f e (declared_more g i m d rest) declared_none h = in_met m (subst (λ z. In (nodes z) n) (sym (head_form e)) h)
  spec_literals {r = r} {s = s} {t = t} (b ∷ before) after f e (declared_more {t = p} {f = c} {fs = fs} g i m d rest) (declared_more {t = q} {xs = xs} k l o z2 other) h =
      let same = head_form e in
      let w = declared_once E blocks (declared_more g i m d declared_none) (subst (λ z. AreDeclared E blocks r s (z ∷ []) q) (sym same) (declared_more {xs = xs} k l o z2 declared_none)) in
      spec_literals before after f (tail_form e) rest (subst (λ z. AreDeclared E blocks r z before t) (sym w) other) h

  forms_literals : {r : Enclosing} {s t u : Scopes} {k : KindLayer} {n : Node} (before after : List Form) (f : Form) → Leaves E blocks r s k u → forms_of k ≡ before ++ f ∷ after → AreDeclared E blocks r s before t → In (nodes f) n
      → LiteralsAreTyped E blocks r t n
  forms_literals before after f (leaves_constants_declared a) e d h = spec_literals before after f e a d h
  forms_literals before after f (leaves_variables_declared a) e d h = spec_literals before after f e a d h
  forms_literals before after f x e d h = absurd (no_spec_here f before after e)

  to_scopes : {r : Enclosing} {s t u : Scopes} {x : Option Stmt} {n : Node} → Begins E blocks r s x t → Begins E blocks r s x u → LiteralsAreTyped E blocks r t n → LiteralsAreTyped E blocks r u n
  to_scopes {r = r} {n = n} a b h = subst (λ z. LiteralsAreTyped E blocks r z n) (begins_once E blocks a b) h

  header_literals : {r : Enclosing} {s t u : Scopes} {k : KindLayer} {n : Node} → Leaves E blocks r s k u → Begins E blocks r s (init_of k) t → In (header_nodes k) n → LiteralsAreTyped E blocks r t n
  header_literals (leaves_if_then a b c d) g h = to_scopes a g (in_condition b h)
  header_literals (leaves_switch a b c d) g h = to_scopes a g (in_met c h)
  header_literals (leaves_type_switch a0 a1 a2 a3 a4 a5 a6 a7) g h = to_scopes a0 g (in_one a2 h)
  header_literals (leaves_for a b c d e) g h = to_scopes a g (in_condition b h)
  header_literals x g h = absurd h

  values_in : {r : Enclosing} {s : Scopes} {u : Term} {cs : List Case} {es : List Expr} {n : Node} (c : Case) → AreCases E blocks r s u cs → In cs c → (out-Case c).values ≡ Some es → In (map expression es) n → LiteralsAreTyped E blocks r s n
  values_in c cases_none i e h = absurd i
  values_in c (cases_default a b rest) (inl i) e h = absurd (none_some (sym a ∙ ap (λ (z : Case). (out-Case z).values) i ∙ e))
  values_in {n = n} c (cases_values a b m d rest) (inl i) e h = in_met m (subst (λ z. In (map expression z) n) (sym (one_some (sym a ∙ ap (λ (z : Case). (out-Case z).values) i ∙ e))) h)
  values_in c (cases_default a b rest) (inr i) e h = values_in c rest i e h
  values_in c (cases_values a b m d rest) (inr i) e h = values_in c rest i e h

  case_literals : {r : Enclosing} {s t u : Scopes} {init : Option Stmt} {e : Option Expr} {cs : List Case} {es : List Expr} {n : Node} (c : Case) → Leaves E blocks r s (StmtKind-F.Switch init e cs) u → Switches E blocks r s init e t → In cs c
      → (out-Case c).values ≡ Some es → In (map expression es) n → LiteralsAreTyped E blocks r t n
  case_literals c (leaves_switch a b m d) (switches g i k) h v w = to_scopes a g (values_in c d h v w)

  types_in : {r : Enclosing} {s : Scopes} {m : Option Name} {u : Term} {cs : List TypeCase} {n : Node} (c : TypeCase) → AreTypeCases E blocks r s m u cs → In cs c → In (listed_nodes (out-TypeCase c).types) n → LiteralsAreTyped E blocks r s n
  types_in c type_cases_none i h = absurd i
  types_in {n = n} c (type_cases_more xs a m d b rest) (inl i) h = in_met m (subst (λ (z : TypeCase). In (listed_nodes (out-TypeCase z).types) n) (sym i) h)
  types_in c (type_cases_more xs a m d b rest) (inr i) h = types_in c rest i h

  type_case_literals : {r : Enclosing} {s t u : Scopes} {init : Option Stmt} {m : Option Name} {e : Expr} {cs : List TypeCase} {v : Term} {n : Node} (c : TypeCase) → Leaves E blocks r s (StmtKind-F.TypeSwitch init m e cs) u
      → SwitchesTypes E blocks r s init m e t v → In cs c → In (listed_nodes (out-TypeCase c).types) n → LiteralsAreTyped E blocks r t n
  type_case_literals c (leaves_type_switch a0 a1 a2 a3 a4 a5 a6 a7) (switches_types g b o d f) h i = to_scopes a0 g (types_in c a7 h i)

  literals_in : {r : Enclosing} {s t u : Scopes} {k : KindLayer} {n : Node} → Leaves E blocks r s k u → StandsIn E blocks r s k t n → LiteralsAreTyped E blocks r t n
  literals_in x (stands_itself h) = own_literals x h
  literals_in x (stands_in_spec before after f e d h) = forms_literals before after f x e d h
  literals_in x (stands_in_header g h) = header_literals x g h
  literals_in {r = r} {s = s} {u = u} x (stands_in_case c e g h v i) = case_literals c (subst (λ z. Leaves E blocks r s z u) e x) g h v i
  literals_in {r = r} {s = s} {u = u} x (stands_in_type_case c e g h i) = type_case_literals c (subst (λ z. Leaves E blocks r s z u) e x) g h i

  of_literal : {r : Enclosing} {s : Scopes} {n : Node} {x : Expr} {g : Sig} {b : BodyRange} {w : Run} → LiteralsAreTyped E blocks r s n → Stands n (expression x) → out-Expr x ≡ Expr-F.FuncLit g b → EntersFunction E blocks r s g b w → T w
  of_literal (literals_typed f) i e a = of_function (f _ _ _ i e) a
    where
      of_function : {r : Enclosing} {s : Scopes} {g : Sig} {b : BodyRange} {w : Run} → IsTypedFunction E blocks r s g b → EntersFunction E blocks r s g b w → T w
      of_function (typed_function {last = last} y z) a = subst T (enters_once E blocks y a) (last, z)

  -- ---- statements

  begun : {r : Enclosing} {t u : Scopes} {ss : List Stmt} → t ≡ u → (v : Scopes) × AreTyped E blocks r t ss v → (v : Scopes) × AreTyped E blocks r u ss v
  begun {r = r} {ss = ss} e x = subst (λ z. (v : Scopes) × AreTyped E blocks r z ss v) e x

  case_in : {r : Enclosing} {s : Scopes} {u : Term} {cs : List Case} (c : Case) → AreCases E blocks r s u cs → In cs c → IsTypedBlock E blocks r s (out-Case c).body
  case_in c cases_none i = absurd i
  case_in {r = r} {s = s} c (cases_default a b rest) (inl i) = subst (λ (z : Case). IsTypedBlock E blocks r s (out-Case z).body) i b
  case_in {r = r} {s = s} c (cases_values a b m d rest) (inl i) = subst (λ (z : Case). IsTypedBlock E blocks r s (out-Case z).body) i d
  case_in c (cases_default a b rest) (inr i) = case_in c rest i
  case_in c (cases_values a b m d rest) (inr i) = case_in c rest i

  type_case_in : {r : Enclosing} {s w : Scopes} {m : Option Name} {u : Term} {cs : List TypeCase} (c : TypeCase) (ys : List (Option Term)) → AreTypeCases E blocks r s m u cs → In cs c → AreListed (within E s) u (out-TypeCase c).types ys
      → bound m (bound_type u ys) s w → (v : Scopes) × AreTyped E blocks r w (out-TypeCase c).body v
  type_case_in c ys type_cases_none i l b = absurd i
  type_case_in c ys (type_cases_more xs a m d b rest) (inr i) l k = type_case_in c ys rest i l k
  type_case_in {r = r} {s = s} {w = w} {m = m} {u = u} c ys (type_cases_more {u = there} {last = last} xs a n d b rest) (inl i) l k =
      let same = listed_once (within E s) u (out-TypeCase c).types (subst (λ (z : TypeCase). AreListed (within E s) u (out-TypeCase z).types xs) i a) l in
      let reached = bound_once m (bound_type u ys) s (subst (λ z. bound m (bound_type u z) s there) same d) k in
      begun reached (last, subst (λ (z : TypeCase). AreTyped E blocks r there (out-TypeCase z).body last) i b)

  select_case_in : {r : Enclosing} {s t : Scopes} {cs : List SelectCase} (c : SelectCase) → AreSelectCases E blocks r s cs → In cs c → Begins E blocks r s (out-SelectCase c).communication t → (v : Scopes) × AreTyped E blocks r t (out-SelectCase c).body v
  select_case_in c select_cases_none i g = absurd i
  select_case_in c (select_cases_more a b rest) (inr i) g = select_case_in c rest i g
  select_case_in {r = r} {s = s} c (select_cases_more {t = t} {last = last} a b rest) (inl i) g =
      begun (begins_once E blocks (subst (λ (z : SelectCase). Begins E blocks r s (out-SelectCase z).communication t) i a) g) (last, subst (λ (z : SelectCase). AreTyped E blocks r t (out-SelectCase z).body last) i b)

  init_typed : {r : Enclosing} {s t : Scopes} {x : Stmt} → Begins E blocks r s (Some x) t → (v : Scopes) × AreTyped E blocks r (opened s) (x ∷ []) v
  init_typed (begins_with a) = one_typed a

  stand_typed : {r : Enclosing} {s : Scopes} {x : Stmt} → MayStand E blocks r s (Some x) → (v : Scopes) × AreTyped E blocks r s (x ∷ []) v
  stand_typed (may_be a) = one_typed a

  communication_in : {r : Enclosing} {s : Scopes} {cs : List SelectCase} {x : Stmt} (c : SelectCase) → AreSelectCases E blocks r s cs → In cs c → (out-SelectCase c).communication ≡ Some x → (v : Scopes) × AreTyped E blocks r (opened s) (x ∷ []) v
  communication_in c select_cases_none i e = absurd i
  communication_in c (select_cases_more a b rest) (inr i) e = communication_in c rest i e
  communication_in {r = r} {s = s} c (select_cases_more {t = t} a b rest) (inl i) e = init_typed (subst (λ z. Begins E blocks r s z t) (ap (λ (z : SelectCase). (out-SelectCase z).communication) i ∙ e) a)

  inits : {r : Enclosing} {s u : Scopes} {k : KindLayer} {x : Stmt} → Leaves E blocks r s k u → init_of k ≡ Some x → (v : Scopes) × AreTyped E blocks r (opened s) (x ∷ []) v
  inits {r = r} {s = s} (leaves_if_then {t = t} a b c d) e = init_typed (subst (λ z. Begins E blocks r s z t) e a)
  inits {r = r} {s = s} (leaves_switch {t = t} a b c d) e = init_typed (subst (λ z. Begins E blocks r s z t) e a)
  inits {r = r} {s = s} (leaves_type_switch {t = t} a0 a1 a2 a3 a4 a5 a6 a7) e = init_typed (subst (λ z. Begins E blocks r s z t) e a0)
  inits {r = r} {s = s} (leaves_for {t = t} a b c d f) e = init_typed (subst (λ z. Begins E blocks r s z t) e a)
  inits x e = absurd (none_some e)

  at_label : {r : Enclosing} {s u : Scopes} {n : Name} {x : Stmt} → Leaves E blocks r s (StmtKind-F.Labeled n x) u → (v : Scopes) × AreTyped E blocks r s (x ∷ []) v
  at_label (leaves_labeled a) = one_typed a

  at_block : {r : Enclosing} {s u : Scopes} {ss : List Stmt} → Leaves E blocks r s (StmtKind-F.Block ss) u → (v : Scopes) × AreTyped E blocks r (opened s) ss v
  at_block (leaves_inner_block a) = of_block a

  at_then : {r : Enclosing} {s t u : Scopes} {init other : Option Stmt} {e : Expr} {ss : List Stmt} → Leaves E blocks r s (StmtKind-F.If init e ss other) u → Begins E blocks r s init t → (v : Scopes) × AreTyped E blocks r (opened t) ss v
  at_then (leaves_if_then a b c d) g = begun (ap opened (begins_once E blocks a g)) (of_block c)

  at_else : {r : Enclosing} {s t u : Scopes} {init : Option Stmt} {x : Stmt} {e : Expr} {ss : List Stmt} → Leaves E blocks r s (StmtKind-F.If init e ss (Some x)) u → Begins E blocks r s init t → (v : Scopes) × AreTyped E blocks r t (x ∷ []) v
  at_else (leaves_if_then a b c d) g = begun (begins_once E blocks a g) (stand_typed d)

  at_case : {r : Enclosing} {s t u : Scopes} {init : Option Stmt} {e : Option Expr} {cs : List Case} (c : Case) → Leaves E blocks r s (StmtKind-F.Switch init e cs) u → Begins E blocks r s init t → In cs c → (v : Scopes) × AreTyped E blocks r (opened t) (out-Case c).body v
  at_case c (leaves_switch a b m d) g h = begun (ap opened (begins_once E blocks a g)) (of_block (case_in c d h))

  at_type_case : {r : Enclosing} {s t u w : Scopes} {init : Option Stmt} {m : Option Name} {e : Expr} {cs : List TypeCase} {v : Term} (x : TypeCase) (xs : List (Option Term)) → Leaves E blocks r s (StmtKind-F.TypeSwitch init m e cs) u
      → SwitchesTypes E blocks r s init m e t v → In cs x → AreListed (within E t) v (out-TypeCase x).types xs → bound m (bound_type v xs) t w → (v : Scopes) × AreTyped E blocks r w (out-TypeCase x).body v
  at_type_case {r = r} {t = t} {m = m} {e = e} {cs = cs} x xs (leaves_type_switch {t = p} {o = o} {u = k} a0 a1 a2 a3 a4 a5 a6 a7) (switches_types {o = q} g b c d f) h l bd =
      let there = begins_once E blocks a0 g in
      let same = operand_once E blocks (subst (λ z. IsOperand E blocks r z e o) there a2) c in
      let kind = one_type (subst (λ z. IsTyped z k) same a3) d in
      type_case_in x xs (subst (λ z. AreTypeCases E blocks r t m z cs) kind (subst (λ z. AreTypeCases E blocks r z m k cs) there a7)) h l bd

  at_select : {r : Enclosing} {s t u : Scopes} {cs : List SelectCase} (c : SelectCase) → Leaves E blocks r s (StmtKind-F.Select cs) u → In cs c → Begins E blocks r s (out-SelectCase c).communication t → (v : Scopes) × AreTyped E blocks r t (out-SelectCase c).body v
  at_select c (leaves_select a) h g = select_case_in c a h g

  at_communication : {r : Enclosing} {s u : Scopes} {cs : List SelectCase} {x : Stmt} (c : SelectCase) → Leaves E blocks r s (StmtKind-F.Select cs) u → In cs c → (out-SelectCase c).communication ≡ Some x → (v : Scopes) × AreTyped E blocks r (opened s) (x ∷ []) v
  at_communication c (leaves_select a) h e = communication_in c a h e

  at_post : {r : Enclosing} {s t u : Scopes} {init : Option Stmt} {e : Option Expr} {x : Stmt} {ss : List Stmt} → Leaves E blocks r s (StmtKind-F.For init e (Some x) ss) u → Begins E blocks r s init t → (v : Scopes) × AreTyped E blocks r t (x ∷ []) v
  at_post (leaves_for a b c d e) g = begun (begins_once E blocks a g) (stand_typed d)

  at_for : {r : Enclosing} {s t u : Scopes} {init post : Option Stmt} {e : Option Expr} {ss : List Stmt} → Leaves E blocks r s (StmtKind-F.For init e post ss) u → Begins E blocks r s init t → (v : Scopes) × AreTyped E blocks r (opened t) ss v
  at_for (leaves_for a b c d e) g = begun (ap opened (begins_once E blocks a g)) (of_block e)

  at_while : {r : Enclosing} {s u : Scopes} {e : Option Expr} {ss : List Stmt} → Leaves E blocks r s (StmtKind-F.While e ss) u → (v : Scopes) × AreTyped E blocks r (opened s) ss v
  at_while (leaves_while a b) = of_block b

  at_range : {r : Enclosing} {s u : Scopes} {e : Expr} {ss : List Stmt} → Leaves E blocks r s (StmtKind-F.Range e ss) u → (v : Scopes) × AreTyped E blocks r (opened s) ss v
  at_range (leaves_range a b c) = of_block c

  at_range_assigned : {r : Enclosing} {s u : Scopes} {es : List Expr} {e : Expr} {ss : List Stmt} → Leaves E blocks r s (StmtKind-F.RangeAssign es e ss) u → (v : Scopes) × AreTyped E blocks r (opened s) ss v
  at_range_assigned (leaves_range_assigned a b c d e f) = of_block f

  at_range_defined : {r : Enclosing} {s t u : Scopes} {ns : List Name} {e : Expr} {o : Operand} {ts : List Term} {ss : List Stmt} → Leaves E blocks r s (StmtKind-F.RangeDefine ns e ss) u → IsOperand E blocks r s e o → Ranges (within E s) o ts
      → Declares (opened s) (some_names ns) (locals (take (length ns) ts)) t → (v : Scopes) × AreTyped E blocks r (opened t) ss v
  at_range_defined {s = s} {ns = ns} (leaves_range_defined {t = p} {o = q} {ts = us} a b c d e f) i k g =
      let same = ranges_once (subst (λ z. Ranges (within E s) z us) (operand_once E blocks a i) b) k in
      begun (ap opened (declares_once (subst (λ z. Declares (opened s) (some_names ns) (locals (take (length ns) z)) p) same e) g)) (of_block f)

  -- what stands in a typed statement is typed
  pub inside_typed : {r : Enclosing} {s u : Scopes} {k : KindLayer} {w : Run} → Leaves E blocks r s k u → Inside E blocks r s k w → T w
  inside_typed {r = r} {s = s} {u = u} x (inside_label e) = at_label (subst (λ z. Leaves E blocks r s z u) e x)
  inside_typed {r = r} {s = s} {u = u} x (inside_block e) = at_block (subst (λ z. Leaves E blocks r s z u) e x)
  inside_typed x (inside_init e) = inits x e
  inside_typed {r = r} {s = s} {u = u} x (inside_then e (decides g c)) = at_then (subst (λ z. Leaves E blocks r s z u) e x) g
  inside_typed {r = r} {s = s} {u = u} x (inside_else e (decides g c)) = at_else (subst (λ z. Leaves E blocks r s z u) e x) g
  inside_typed {r = r} {s = s} {u = u} x (inside_case c e (switches g i m) h) = at_case c (subst (λ z. Leaves E blocks r s z u) e x) g h
  inside_typed {r = r} {s = s} {u = u} x (inside_type_case c xs e g h l m b) = at_type_case c xs (subst (λ z. Leaves E blocks r s z u) e x) g h l b
  inside_typed {r = r} {s = s} {u = u} x (inside_communication c e h i) = at_communication c (subst (λ z. Leaves E blocks r s z u) e x) h i
  inside_typed {r = r} {s = s} {u = u} x (inside_select_case c e h g) = at_select c (subst (λ z. Leaves E blocks r s z u) e x) h g
  inside_typed {r = r} {s = s} {u = u} x (inside_post e (decides g c)) = at_post (subst (λ z. Leaves E blocks r s z u) e x) g
  inside_typed {r = r} {s = s} {u = u} x (inside_for e (decides g c) p m) = at_for (subst (λ z. Leaves E blocks r s z u) e x) g
  inside_typed {r = r} {s = s} {u = u} x (inside_while e c) = at_while (subst (λ z. Leaves E blocks r s z u) e x)
  inside_typed {r = r} {s = s} {u = u} x (inside_range e a b) = at_range (subst (λ z. Leaves E blocks r s z u) e x)
  inside_typed {r = r} {s = s} {u = u} x (inside_range_assigned e a b c d m) = at_range_assigned (subst (λ z. Leaves E blocks r s z u) e x)
  inside_typed {r = r} {s = s} {u = u} x (inside_range_defined e a b c i d) = at_range_defined (subst (λ z. Leaves E blocks r s z u) e x) a b d
  inside_typed x (inside_literal i k e a) = of_literal (literals_in x i) k e a

  -- ---- context

  no_stmt : (x : Stmt) (before after : List Stmt) → [] ≡ before ++ x ∷ after → ⊥
  no_stmt x [] after e = absurd (cc)
  no_stmt x (b ∷ before) after e = absurd (cc)

  head_stmt : {x y : Stmt} {xs ys : List Stmt} → x ∷ xs ≡ y ∷ ys → x ≡ y
  head_stmt e = cc

  tail_stmt : {x y : Stmt} {xs ys : List Stmt} → x ∷ xs ≡ y ∷ ys → xs ≡ ys
  tail_stmt e = cc

  from_before : {r : Enclosing} {s t u : Scopes} {ss : List Stmt} (before after : List Stmt) (x : Stmt) → ss ≡ before ++ x ∷ after → AreTyped E blocks r s ss u → AreTyped E blocks r s before t → (v : Scopes) × Leaves E blocks r t (kind_of x) v
  from_before [] after x e typed_none typed_none = absurd (no_stmt x [] after e)
  from_before (b ∷ before) after x e typed_none d = absurd (no_stmt x (b ∷ before) after e)
  from_before {r = r} {s = s} [] after x e (typed_more {t = t} a rest) typed_none = (t, subst (λ z. Leaves E blocks r s (kind_of z) t) (head_stmt e) a)
  from_before {r = r} {s = s} {t = t} (b ∷ before) after x e (typed_more {t = p} a rest) (typed_more {t = q} d other) =
      let w = leaves_once E blocks (subst (λ z. Leaves E blocks r s (kind_of z) p) (head_stmt e) a) d in
      from_before before after x (tail_stmt e) rest (subst (λ z. AreTyped E blocks r z before t) (sym w) other)

  pub among_typed : {w : Run} {c : Spot} → T w → StandsAmong E blocks w c → (v : Scopes) × Leaves E blocks c.function c.scopes (kind_of c.statement) v
  among_typed x (stands_among before after {x = y} e d) = from_before before after y e x.1 d

  pub context_typed : {w : Run} {c : Spot} → T w → InContext E blocks w c → (v : Scopes) × Leaves E blocks c.function c.scopes (kind_of c.statement) v
  context_typed x (in_context i) = among_typed x i
  context_typed x (in_context_inside i k h) = context_typed (inside_typed (among_typed x i).1 k) h
