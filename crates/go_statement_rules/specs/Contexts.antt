-- Where a statement stands in context: what stands before it in its block, and the headers round it, are typed.
-- Public source: Go specification, "Blocks", "Declarations and scope" and, of each statement with a block, its own section. Own: which parts of a statement don't hide what stands in its
-- blocks. The blocks and branches of a statement stand in context behind its headers: the statement before a condition, the condition, the tag, the guard, the range clause, the statement
-- behind a condition. They don't wait for the values or types of other clauses, nor for one another.
use Rattle.std.specs.Prelude.{◌≡◌, ◌≤◌, List, [], ◌∷◌, ◌++◌, map, take, length, Option, None, Some}
use Rattle.go_base.specs.Lists.{Has as In}
use Rattle.go_model.specs.declared.types.term.Method.{Method}
use Rattle.go_model.specs.declared.types.term.Term.{Term, Term-F}
use Rattle.go_model.specs.types.Underlying.{under}
use Rattle.go_typings.specs.go_rules.Environments.{Env}
use Rattle.go_typings.specs.go_rules.Nodes.{Node, Stands, expression}
use Rattle.go_typings.specs.go_rules.Operands.{IsTyped, plain}
use Rattle.go_typings.specs.go_rules.declared.operand.Operand.{Operand}
use Rattle.go_statement_rules.specs.Assignments.{AreAssigned}
use Rattle.go_statement_rules.specs.Clauses.{IsTag, Ranges, bound_type}
use Rattle.go_statement_rules.specs.Functions.{Enclosing, EntersFunction, Run, Spot, run, spot}
use Rattle.go_statement_rules.specs.Scopes.{Scopes, Declares, locals, opened, within}
use Rattle.go_statement_rules.specs.Statements.{AreDeclared, AreListed, AreMet, AreTyped, Begins, IsCondition, IsNew, IsOperand, IsPost, KindLayer, MayStand, NamesSomething, bound, kind_of, listed_nodes, some_names, tag_nodes}
use Rattle.go_syntax.specs.declared.body.BodyRange.{BodyRange}
use Rattle.go_syntax.specs.declared.expression.Expr.{Expr, Expr-F, out-Expr}
use Rattle.go_syntax.specs.declared.name.Name.{Name}
use Rattle.go_syntax.specs.declared.statement.Case.{Case, out-Case}
use Rattle.go_syntax.specs.declared.statement.LiteralBlock.{LiteralBlock}
use Rattle.go_syntax.specs.declared.statement.SelectCase.{SelectCase, out-SelectCase}
use Rattle.go_syntax.specs.declared.statement.Stmt.{Stmt}
use Rattle.go_syntax.specs.declared.statement.StmtKind.{StmtKind-F}
use Rattle.go_syntax.specs.declared.statement.TypeCase.{TypeCase, out-TypeCase}
use Rattle.go_syntax.specs.declared.types.Signature.{Signature as Sig}
use Rattle.go_typings.specs.DeclarationNodes.{nodes}
use Rattle.go_typings.specs.Declarations.{Form, constants_from, no_spec, variables}

-- the expressions of a statement that stand in the scopes of the statement itself
abbrev pub own_nodes : KindLayer → List Node
own_nodes (StmtKind-F.Expr e) = expression e ∷ []
own_nodes (StmtKind-F.Send e x) = expression e ∷ expression x ∷ []
own_nodes (StmtKind-F.Step e op) = expression e ∷ []
own_nodes (StmtKind-F.Assign es xs) = map expression (es ++ xs)
own_nodes (StmtKind-F.AssignOp e op x) = expression e ∷ expression x ∷ []
own_nodes (StmtKind-F.Define ns xs) = map expression xs
own_nodes (StmtKind-F.Go e) = expression e ∷ []
own_nodes (StmtKind-F.Defer e) = expression e ∷ []
own_nodes (StmtKind-F.Return es) = map expression es
own_nodes (StmtKind-F.While e ss) = tag_nodes e
own_nodes (StmtKind-F.Range e ss) = expression e ∷ []
own_nodes (StmtKind-F.RangeAssign es e ss) = expression e ∷ map expression es
own_nodes (StmtKind-F.RangeDefine ns e ss) = expression e ∷ []
own_nodes k = []

-- the specs of a declaration in a function
abbrev pub forms_of : KindLayer → List Form
forms_of (StmtKind-F.Const specs) = constants_from no_spec 0 specs
forms_of (StmtKind-F.Var specs) = map variables specs
forms_of k = []

-- the statement of a header
abbrev pub init_of : KindLayer → Option Stmt
init_of (StmtKind-F.If init e ss other) = init
init_of (StmtKind-F.Switch init e cs) = init
init_of (StmtKind-F.TypeSwitch init n e cs) = init
init_of (StmtKind-F.For init e post ss) = init
init_of k = None

-- the expressions of a header behind its statement
abbrev pub header_nodes : KindLayer → List Node
header_nodes (StmtKind-F.If init e ss other) = expression e ∷ []
header_nodes (StmtKind-F.Switch init e cs) = tag_nodes e
header_nodes (StmtKind-F.TypeSwitch init n e cs) = expression e ∷ []
header_nodes (StmtKind-F.For init e post ss) = tag_nodes e
header_nodes k = []

module _ (E : Env) (blocks : List LiteralBlock) where
  -- a switch over values of this type, behind its header
  pub data Switches (r : Enclosing) (s : Scopes) (init : Option Stmt) (e : Option Expr) (t : Scopes) : Type 0 where
    switches : {u : Term} → Begins E blocks r s init t → IsTag (within E t) e u → AreMet E blocks r (within E t) t (tag_nodes e) → Switches r s init e t

  -- a type switch over an operand of this interface type, behind its header
  pub data SwitchesTypes (r : Enclosing) (s : Scopes) (init : Option Stmt) (n : Option Name) (e : Expr) (t : Scopes) (u : Term) : Type 0 where
    switches_types : {o : Operand} {ms : List Method} → Begins E blocks r s init t → NamesSomething n → IsOperand E blocks r t e o → IsTyped o u → under E.table u ≡ Term-F.Interface ms → SwitchesTypes r s init n e t u

  -- a condition behind the statement of its header
  pub data Decides (r : Enclosing) (s : Scopes) (init : Option Stmt) (e : Option Expr) (t : Scopes) : Type 0 where
    decides : Begins E blocks r s init t → IsCondition E blocks r t e → Decides r s init e t

  -- the tree stands in a statement of this kind, outside of the statements in it, and what stands there is typed in the last scopes
  pub data StandsIn (r : Enclosing) (s : Scopes) (k : KindLayer) : Scopes → Node → Type 0 where
    stands_itself : {n : Node} → In (own_nodes k) n → StandsIn r s k s n
    stands_in_spec : {t : Scopes} (before after : List Form) (f : Form) {n : Node} → forms_of k ≡ before ++ f ∷ after → AreDeclared E blocks r s before t → In (nodes f) n → StandsIn r s k t n
    stands_in_header : {t : Scopes} {n : Node} → Begins E blocks r s (init_of k) t → In (header_nodes k) n → StandsIn r s k t n
    stands_in_case : {t : Scopes} {init : Option Stmt} {e : Option Expr} {cs : List Case} (c : Case) {es : List Expr} {n : Node} → k ≡ StmtKind-F.Switch init e cs → Switches r s init e t → In cs c
        → (out-Case c).values ≡ Some es → In (map expression es) n → StandsIn r s k t n
    stands_in_type_case : {t : Scopes} {init : Option Stmt} {m : Option Name} {e : Expr} {cs : List TypeCase} (c : TypeCase) {u : Term} {n : Node} → k ≡ StmtKind-F.TypeSwitch init m e cs → SwitchesTypes r s init m e t u
        → In cs c → In (listed_nodes (out-TypeCase c).types) n → StandsIn r s k t n

  -- the statements stand in a statement of this kind, behind its headers, or in a function literal that stands in it
  pub data Inside (r : Enclosing) (s : Scopes) (k : KindLayer) : Run → Type 0 where
    inside_label : {n : Name} {x : Stmt} → k ≡ StmtKind-F.Labeled n x → Inside r s k (run r s (x ∷ []))
    inside_block : {ss : List Stmt} → k ≡ StmtKind-F.Block ss → Inside r s k (run r (opened s) ss)
    inside_init : {x : Stmt} → init_of k ≡ Some x → Inside r s k (run r (opened s) (x ∷ []))
    inside_then : {t : Scopes} {init other : Option Stmt} {e : Expr} {ss : List Stmt} → k ≡ StmtKind-F.If init e ss other → Decides r s init (Some e) t → Inside r s k (run r (opened t) ss)
    inside_else : {t : Scopes} {init : Option Stmt} {x : Stmt} {e : Expr} {ss : List Stmt} → k ≡ StmtKind-F.If init e ss (Some x) → Decides r s init (Some e) t → Inside r s k (run r t (x ∷ []))
    inside_case : {t : Scopes} {init : Option Stmt} {e : Option Expr} {cs : List Case} (c : Case) → k ≡ StmtKind-F.Switch init e cs → Switches r s init e t → In cs c → Inside r s k (run r (opened t) (out-Case c).body)
    inside_type_case : {t u : Scopes} {init : Option Stmt} {n : Option Name} {e : Expr} {cs : List TypeCase} {v : Term} (c : TypeCase) (xs : List (Option Term)) → k ≡ StmtKind-F.TypeSwitch init n e cs
        → SwitchesTypes r s init n e t v → In cs c → AreListed (within E t) v (out-TypeCase c).types xs → AreMet E blocks r (within E t) t (listed_nodes (out-TypeCase c).types) → bound n (bound_type v xs) t u
        → Inside r s k (run r u (out-TypeCase c).body)
    inside_communication : {cs : List SelectCase} (c : SelectCase) {x : Stmt} → k ≡ StmtKind-F.Select cs → In cs c → (out-SelectCase c).communication ≡ Some x → Inside r s k (run r (opened s) (x ∷ []))
    inside_select_case : {t : Scopes} {cs : List SelectCase} (c : SelectCase) → k ≡ StmtKind-F.Select cs → In cs c → Begins E blocks r s (out-SelectCase c).communication t → Inside r s k (run r t (out-SelectCase c).body)
    inside_post : {t : Scopes} {init : Option Stmt} {e : Option Expr} {x : Stmt} {ss : List Stmt} → k ≡ StmtKind-F.For init e (Some x) ss → Decides r s init e t → Inside r s k (run r t (x ∷ []))
    inside_for : {t : Scopes} {init post : Option Stmt} {e : Option Expr} {ss : List Stmt} → k ≡ StmtKind-F.For init e post ss → Decides r s init e t → IsPost post → MayStand E blocks r t post → Inside r s k (run r (opened t) ss)
    inside_while : {e : Option Expr} {ss : List Stmt} → k ≡ StmtKind-F.While e ss → IsCondition E blocks r s e → Inside r s k (run r (opened s) ss)
    inside_range : {e : Expr} {o : Operand} {ts : List Term} {ss : List Stmt} → k ≡ StmtKind-F.Range e ss → IsOperand E blocks r s e o → Ranges (within E s) o ts → Inside r s k (run r (opened s) ss)
    inside_range_assigned : {es : List Expr} {e : Expr} {o : Operand} {ts : List Term} {ss : List Stmt} → k ≡ StmtKind-F.RangeAssign es e ss → IsOperand E blocks r s e o → Ranges (within E s) o ts → length es ≤ length ts
        → AreAssigned (within E s) es (map plain (take (length es) ts)) → AreMet E blocks r (within E s) s (map expression es) → Inside r s k (run r (opened s) ss)
    inside_range_defined : {t : Scopes} {ns : List Name} {e : Expr} {o : Operand} {ts : List Term} {ss : List Stmt} → k ≡ StmtKind-F.RangeDefine ns e ss → IsOperand E blocks r s e o → Ranges (within E s) o ts → length ns ≤ length ts
        → IsNew ns → Declares (opened s) (some_names ns) (locals (take (length ns) ts)) t → Inside r s k (run r (opened t) ss)
    inside_literal : {t : Scopes} {n : Node} {x : Expr} {g : Sig} {b : BodyRange} {w : Run} → StandsIn r s k t n → Stands n (expression x) → out-Expr x ≡ Expr-F.FuncLit g b → EntersFunction E blocks r t g b w → Inside r s k w

  -- it stands among the statements, behind typed ones
  pub data StandsAmong (w : Run) : Spot → Type 0 where
    stands_among : {t : Scopes} (before after : List Stmt) {x : Stmt} → w.statements ≡ before ++ x ∷ after → AreTyped E blocks w.function w.scopes before t → StandsAmong w (spot w.function t x)

  -- it stands in context: among the statements, or so inside of one that stands there
  pub data InContext : Run → Spot → Type 0 where
    in_context : {w : Run} {c : Spot} → StandsAmong w c → InContext w c
    in_context_inside : {w v : Run} {a c : Spot} → StandsAmong w a → Inside a.function a.scopes (kind_of a.statement) v → InContext v c → InContext w c
