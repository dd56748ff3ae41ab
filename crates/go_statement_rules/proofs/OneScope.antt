-- A statement leaves one list of scopes.
use Rattle.std.proofs.Common.{◌≡◌, Bool, true, false, List, ◌∷◌, Option, Some, None, map, refl, sym, ap, ◌∙◌, subst}
use Rattle.go_model.specs.declared.types.package.ConstTerm.{ConstTerm}
use Rattle.go_model.specs.declared.types.package.ConstTerm.TheVariants as constant
use Rattle.go_model.specs.declared.types.package.Entity.{Entity}
use Rattle.go_model.specs.declared.types.term.Term.{Term}
use Rattle.go_typings.specs.go_rules.Environments.{Env}
use Rattle.go_typings.specs.go_rules.Names.{Named}
use Rattle.go_typings.specs.go_rules.Operands.{default_type}
use Rattle.go_typings.specs.go_rules.declared.operand.Operand.{Operand}
use Rattle.go_typings.specs.go_rules.declared.seen.Seen.{Seen}
use Rattle.go_typings.specs.go_rules.declared.seen.Seen.TheVariants as seen
use Rattle.go_typings.proofs.go_rules_proofs.OneKind.{const_in, typed}
use Rattle.go_statement_rules.specs.Assignments.{AreDefined, defined_blank, defined_new, defined_none, defined_old}
use Rattle.go_statement_rules.specs.Functions.{Enclosing}
use Rattle.go_statement_rules.specs.Scopes.{Scopes, Declares, declares_blank, declares_name, declares_none, declares_nothing, local_of, within}
use Rattle.go_statement_rules.specs.Statements.{AreDeclared, declared_more, declared_none, AreTyped, typed_more, typed_none, KindLayer, Leaves, form_env, some_names}
use Rattle.go_statement_rules.specs.Statements.{leaves_assignment, leaves_break, leaves_call, leaves_constants_declared, leaves_continue, leaves_defer, leaves_definition, leaves_empty, leaves_fallthrough, leaves_for, leaves_go, leaves_goto, leaves_if_then, leaves_inner_block, leaves_labeled, leaves_operation, leaves_range, leaves_range_assigned, leaves_range_defined, leaves_receive_alone, leaves_return, leaves_select, leaves_send, leaves_step, leaves_switch, leaves_type_switch, leaves_variables_declared, leaves_while}
use Rattle.go_syntax.specs.declared.name.Name.{Name}
use Rattle.go_syntax.specs.declared.statement.LiteralBlock.{LiteralBlock}
use Rattle.go_syntax.specs.declared.statement.Stmt.{Stmt}
use Rattle.go_typings.specs.Declarations.{Form, names_of}
use Rattle.go_typings.specs.Initializers.{TypeOfValue, default_of_constant, default_of_truth, own_type}
use Rattle.go_typings.specs.PackageEnvironments.{objects}
use Rattle.go_typings.proofs.OneEntry.{gives_once, initialize_once}

abbrev of_const : ConstTerm → Term
of_const (constant.OfTerm t) = t
of_const (constant.OfKind k) = default_type k

typed_in : {E : Env} {o : Operand} {t : Term} → TypeOfValue E o t → of_const (const_in o.shape) ≡ t
typed_in (own_type h) = ap of_const (typed h)
typed_in (default_of_constant h) = refl
typed_in default_of_truth = refl

value_once : {E : Env} {o p : Operand} {t u : Term} → o ≡ p → TypeOfValue E o t → TypeOfValue E p u → t ≡ u
value_once {o = o} {p = p} e a b = sym (typed_in a) ∙ ap (λ (z : Operand). of_const (const_in z.shape)) e ∙ typed_in b

none_some : {A : Type 0} {x : Option A} {y : A} → x ≡ None → x ≡ Some y → ⊥
none_some h k = absurd (cc)

truth_lie : {b : Bool} → b ≡ true → b ≡ false → ⊥
truth_lie h k = absurd (cc)

head_same : {A : Type 0} {x y : A} {xs ys : List A} → x ∷ xs ≡ y ∷ ys → x ≡ y
head_same e = cc

tail_same : {A : Type 0} {x y : A} {xs ys : List A} → x ∷ xs ≡ y ∷ ys → xs ≡ ys
tail_same e = cc

objects_same : {xs ys : List Entity} → objects xs ≡ objects ys → xs ≡ ys
objects_same e = cc

pub declares_once : {s t u : Scopes} {ns : List (Option Name)} {ms : List Seen} → Declares s ns ms t → Declares s ns ms u → t ≡ u
declares_once declares_none declares_none = refl
declares_once (declares_nothing a) (declares_nothing b) = declares_once a b
declares_once (declares_blank i a) (declares_blank k b) = declares_once a b
declares_once (declares_blank i a) (declares_name k e b) = absurd (truth_lie i k)
declares_once (declares_name k e b) (declares_blank i a) = absurd (truth_lie i k)
declares_once (declares_name i e a) (declares_name k f b) = declares_once a b

defined_once : {E : Env} {scope : Named Seen} {ns : List Name} {os ps : List Operand} {xs ys : List (Option Name)} {ms ks : List Seen} → AreDefined E scope ns os xs ms → AreDefined E scope ns ps ys ks → os ≡ ps → (xs ≡ ys) × (ms ≡ ks)
defined_once defined_none defined_none e = (refl, refl)
defined_once (defined_blank i t a) (defined_blank k u b) e = defined_once a b (tail_same e)
defined_once (defined_blank i t a) (defined_old k u b) e = defined_once a b (tail_same e)
defined_once (defined_blank i t a) (defined_new k f u b) e = absurd (truth_lie i k)
defined_once (defined_old i t a) (defined_blank k u b) e = defined_once a b (tail_same e)
defined_once (defined_old i t a) (defined_old k u b) e = defined_once a b (tail_same e)
defined_once (defined_old i t a) (defined_new k f u b) e = absurd (none_some f i)
defined_once (defined_new k f u b) (defined_blank i t a) e = absurd (truth_lie i k)
defined_once (defined_new k f u b) (defined_old i t a) e = absurd (none_some f i)
defined_once (defined_new {n = n} {ms = ms} i f t a) (defined_new {t = z} k g u b) e =
    let r = defined_once a b (tail_same e) in
    let v = value_once (head_same e) t u in
    (ap (λ x. Some n ∷ x) r.0, ap (λ x. seen.Local x ∷ ms) v ∙ ap (λ x. seen.Local z ∷ x) r.1)

module _ (E : Env) (blocks : List LiteralBlock) where
  pub declared_once : {r : Enclosing} {s t u : Scopes} {fs : List Form} → AreDeclared E blocks r s fs t → AreDeclared E blocks r s fs u → t ≡ u
  declared_once declared_none declared_none = refl
  declared_once {r = r} {s = s} {u = u} (declared_more {t = t} {f = f} {fs = fs} g h i d rest) (declared_more k l m e q) =
      let x = objects_same (gives_once (form_env (within E s) f) g k) in
      let w = declares_once (subst (λ z. Declares s (some_names (names_of f)) (map local_of z) t) x d) e in
      declared_once rest (subst (λ z. AreDeclared E blocks r z fs u) (sym w) q)

  pub leaves_once : {r : Enclosing} {s t u : Scopes} {k : KindLayer} → Leaves E blocks r s k t → Leaves E blocks r s k u → t ≡ u
  leaves_once leaves_empty leaves_empty = refl
  leaves_once (leaves_call x y) (leaves_call z w) = refl
  leaves_once (leaves_call x y) (leaves_receive_alone z w) = refl
  leaves_once (leaves_receive_alone x y) (leaves_call z w) = refl
  leaves_once (leaves_receive_alone x y) (leaves_receive_alone z w) = refl
  leaves_once (leaves_send a0 a1 a2 a3 a4 a5) (leaves_send b0 b1 b2 b3 b4 b5) = refl
  leaves_once (leaves_step a0 a1 a2 a3) (leaves_step b0 b1 b2 b3) = refl
  leaves_once (leaves_operation a0 a1 a2 a3 a4) (leaves_operation b0 b1 b2 b3 b4) = refl
  leaves_once (leaves_assignment a0 a1 a2) (leaves_assignment b0 b1 b2) = refl
  leaves_once (leaves_go a0 a1) (leaves_go b0 b1) = refl
  leaves_once (leaves_defer a0 a1) (leaves_defer b0 b1) = refl
  leaves_once (leaves_return a0 a1) (leaves_return b0 b1) = refl
  leaves_once leaves_break leaves_break = refl
  leaves_once leaves_continue leaves_continue = refl
  leaves_once leaves_goto leaves_goto = refl
  leaves_once leaves_fallthrough leaves_fallthrough = refl
  leaves_once (leaves_inner_block a0) (leaves_inner_block b0) = refl
  leaves_once (leaves_if_then a0 a1 a2 a3) (leaves_if_then b0 b1 b2 b3) = refl
  leaves_once (leaves_switch a0 a1 a2 a3) (leaves_switch b0 b1 b2 b3) = refl
  leaves_once (leaves_type_switch a0 a1 a2 a3 a4 a5 a6 a7) (leaves_type_switch b0 b1 b2 b3 b4 b5 b6 b7) = refl
  leaves_once (leaves_select a0) (leaves_select b0) = refl
  leaves_once (leaves_for a0 a1 a2 a3 a4) (leaves_for b0 b1 b2 b3 b4) = refl
  leaves_once (leaves_while a0 a1) (leaves_while b0 b1) = refl
  leaves_once (leaves_range a0 a1 a2) (leaves_range b0 b1 b2) = refl
  leaves_once (leaves_range_assigned a0 a1 a2 a3 a4 a5) (leaves_range_assigned b0 b1 b2 b3 b4 b5) = refl
  leaves_once (leaves_range_defined a0 a1 a2 a3 a4 a5) (leaves_range_defined b0 b1 b2 b3 b4 b5) = refl
  leaves_once (leaves_labeled a) (leaves_labeled b) = leaves_once a b
  leaves_once (leaves_constants_declared a) (leaves_constants_declared b) = declared_once a b
  leaves_once (leaves_variables_declared a) (leaves_variables_declared b) = declared_once a b
  leaves_once {u = u} (leaves_definition {scope = scope} {outer = outer} {t = t} {ns = ns} {new = old} a0 a1 a2 a3 a4 a5) (leaves_definition {new = new} {ms = ms} b0 b1 b2 b3 b4 b5) =
      let e = defined_once a2 b2 (initialize_once (within E (scope ∷ outer)) a1 b1) in
      declares_once (subst (λ z. Declares (scope ∷ outer) z ms t) e.0 (subst (λ z. Declares (scope ∷ outer) old z t) e.1 a5)) b5

  pub typed_once : {r : Enclosing} {s t u : Scopes} {ss : List Stmt} → AreTyped E blocks r s ss t → AreTyped E blocks r s ss u → t ≡ u
  typed_once typed_none typed_none = refl
  typed_once {r = r} {u = u} (typed_more {xs = xs} a b) (typed_more c d) = typed_once b (subst (λ z. AreTyped E blocks r z xs u) (sym (leaves_once a c)) d)
