-- The runs inside of a statement, by its kind: what stands in its blocks, branches and headers, and in the function literals in its trees.
-- Public source: Go specification, "Statements", "Blocks" and "Function literals"; that what stands behind a header waits for it is own.
use Rattle.std.specs.Prelude.{◌≡◌, ◌⊎◌, ◌≤◌, List, [], ◌∷◌, ◌++◌, map, take, length, Option, Some}
use Rattle.go_base.specs.Lists.{Has as In}
use Rattle.go_rules.specs.go_model.declared.types.term.Term.{Term}
use Rattle.go_rules.specs.Environments.{Env}
use Rattle.go_rules.specs.Nodes.{Node, expression}
use Rattle.go_rules.specs.Operands.{plain}
use Rattle.go_rules.specs.declared.operand.Operand.{Operand}
use Rattle.go_statement_rules.specs.Assignments.{AreAssigned}
use Rattle.go_statement_rules.specs.Clauses.{Ranges, bound_type}
use Rattle.go_statement_rules.specs.Contexts.{Decides, Switches, SwitchesTypes, own_nodes}
use Rattle.go_statement_rules.specs.Functions.{Enclosing, Run, run}
use Rattle.go_statement_rules.specs.Scopes.{Scopes, Declares, locals, opened, within}
use Rattle.go_statement_rules.specs.Statements.{AreDeclared, AreListed, AreMet, Begins, IsCondition, IsNew, IsOperand, IsPost, KindLayer, MayStand, bound, listed_nodes, some_names, tag_nodes}
use Rattle.go_syntax.specs.declared.expression.Expr.{Expr}
use Rattle.go_syntax.specs.declared.name.Name.{Name}
use Rattle.go_syntax.specs.declared.statement.Case.{Case, out-Case}
use Rattle.go_syntax.specs.declared.statement.LiteralBlock.{LiteralBlock}
use Rattle.go_syntax.specs.declared.statement.SelectCase.{SelectCase, out-SelectCase}
use Rattle.go_syntax.specs.declared.statement.Stmt.{Stmt}
use Rattle.go_syntax.specs.declared.statement.StmtKind.{StmtKind-F}
use Rattle.go_syntax.specs.declared.statement.TypeCase.{TypeCase, out-TypeCase}
use Rattle.go_statement_rules.specs.go_typings.DeclarationNodes.{nodes}
use Rattle.go_statement_rules.specs.go_typings.Declarations.{Form, constants_from, no_spec, variables}
use Rattle.go_untyped_places.specs.LiteralRuns.{IsLiteralRun}

module _ (E : Env) (blocks : List LiteralBlock) (r : Enclosing) where
  -- one statement that may be left out, in these scopes
  abbrev pub IsLone : Scopes → Option Stmt → Run → Type 0
  IsLone s x v = (y : Stmt) × (x ≡ Some y) × (v ≡ run r s (y ∷ []))

  -- a function literal in the trees of a header, behind its statement
  abbrev pub InHeader : Scopes → Option Stmt → List Node → Run → Type 0
  InHeader s init ns v = (t : Scopes) × Begins E blocks r s init t × IsLiteralRun E blocks r t ns v

  -- the branches of an `if`
  abbrev pub InBranches : Scopes → Option Stmt → Expr → List Stmt → Option Stmt → Run → Type 0
  InBranches s init e ss other v = (t : Scopes) × Decides E blocks r s init (Some e) t × ((v ≡ run r (opened t) ss) ⊎ IsLone t other v)

  -- a clause of a switch
  abbrev pub InCase : Scopes → Case → Run → Type 0
  InCase t c v = ((es : List Expr) × ((out-Case c).values ≡ Some es) × IsLiteralRun E blocks r t (map expression es) v) ⊎ (v ≡ run r (opened t) (out-Case c).body)

  abbrev pub InCases : Scopes → Option Stmt → Option Expr → List Case → Run → Type 0
  InCases s init e cs v = (t : Scopes) × Switches E blocks r s init e t × (c : Case) × In cs c × InCase t c v

  -- the body of a clause of a type switch
  abbrev pub IsBound : Scopes → Option Name → Term → TypeCase → Run → Type 0
  IsBound t n i c v = (xs : List (Option Term)) × (u : Scopes) × AreListed (within E t) i (out-TypeCase c).types xs × AreMet E blocks r (within E t) t (listed_nodes (out-TypeCase c).types) × bound n (bound_type i xs) t u × (v ≡ run r u (out-TypeCase c).body)

  abbrev pub InTypeCases : Scopes → Option Stmt → Option Name → Expr → List TypeCase → Run → Type 0
  InTypeCases s init n e cs v = (t : Scopes) × (i : Term) × SwitchesTypes E blocks r s init n e t i × (c : TypeCase) × In cs c × (IsLiteralRun E blocks r t (listed_nodes (out-TypeCase c).types) v ⊎ IsBound t n i c v)

  -- a clause of a select
  abbrev pub InSelect : Scopes → List SelectCase → Run → Type 0
  InSelect s cs v = (c : SelectCase) × In cs c × (IsLone (opened s) (out-SelectCase c).communication v ⊎ ((t : Scopes) × Begins E blocks r s (out-SelectCase c).communication t × (v ≡ run r t (out-SelectCase c).body)))

  -- what stands behind the condition of a `for`
  abbrev pub InFor : Scopes → Option Stmt → Option Expr → Option Stmt → List Stmt → Run → Type 0
  InFor s init e post ss v = (t : Scopes) × Decides E blocks r s init e t × (IsLone t post v ⊎ (IsPost post × MayStand E blocks r t post × (v ≡ run r (opened t) ss)))

  -- the body of a range
  abbrev pub InRange : Scopes → Expr → List Stmt → Run → Type 0
  InRange s e ss v = (o : Operand) × (ts : List Term) × IsOperand E blocks r s e o × Ranges (within E s) o ts × (v ≡ run r (opened s) ss)

  abbrev pub InRangeAssigned : Scopes → List Expr → Expr → List Stmt → Run → Type 0
  InRangeAssigned s es e ss v = (o : Operand) × (ts : List Term) × IsOperand E blocks r s e o × Ranges (within E s) o ts × (length es ≤ length ts) × AreAssigned (within E s) es (map plain (take (length es) ts))
      × AreMet E blocks r (within E s) s (map expression es) × (v ≡ run r (opened s) ss)

  abbrev pub InRangeDefined : Scopes → List Name → Expr → List Stmt → Run → Type 0
  InRangeDefined s ns e ss v = (o : Operand) × (ts : List Term) × (t : Scopes) × IsOperand E blocks r s e o × Ranges (within E s) o ts × (length ns ≤ length ts) × IsNew ns
      × Declares (opened s) (some_names ns) (locals (take (length ns) ts)) t × (v ≡ run r (opened t) ss)

  -- a function literal in a spec of a declaration
  abbrev pub InSpecs : Scopes → List Form → Run → Type 0
  InSpecs s fs v = (before : List Form) × (f : Form) × (after : List Form) × (t : Scopes) × (fs ≡ before ++ f ∷ after) × AreDeclared E blocks r s before t × IsLiteralRun E blocks r t (nodes f) v

  -- the run stands inside of a statement of this kind
  abbrev pub IsPart : Scopes → KindLayer → Run → Type 0
  IsPart s (StmtKind-F.Const specs) v = InSpecs s (constants_from no_spec 0 specs) v
  IsPart s (StmtKind-F.Var specs) v = InSpecs s (map variables specs) v
  IsPart s (StmtKind-F.Labeled n x) v = v ≡ run r s (x ∷ [])
  IsPart s (StmtKind-F.Block ss) v = v ≡ run r (opened s) ss
  IsPart s (StmtKind-F.If init e ss other) v = IsLone (opened s) init v ⊎ (InHeader s init (expression e ∷ []) v ⊎ InBranches s init e ss other v)
  IsPart s (StmtKind-F.Switch init e cs) v = IsLone (opened s) init v ⊎ (InHeader s init (tag_nodes e) v ⊎ InCases s init e cs v)
  IsPart s (StmtKind-F.TypeSwitch init n e cs) v = IsLone (opened s) init v ⊎ (InHeader s init (expression e ∷ []) v ⊎ InTypeCases s init n e cs v)
  IsPart s (StmtKind-F.Select cs) v = InSelect s cs v
  IsPart s (StmtKind-F.For init e post ss) v = IsLone (opened s) init v ⊎ (InHeader s init (tag_nodes e) v ⊎ InFor s init e post ss v)
  IsPart s (StmtKind-F.While e ss) v = IsLiteralRun E blocks r s (tag_nodes e) v ⊎ (IsCondition E blocks r s e × (v ≡ run r (opened s) ss))
  IsPart s (StmtKind-F.Range e ss) v = IsLiteralRun E blocks r s (expression e ∷ []) v ⊎ InRange s e ss v
  IsPart s (StmtKind-F.RangeAssign es e ss) v = IsLiteralRun E blocks r s (expression e ∷ map expression es) v ⊎ InRangeAssigned s es e ss v
  IsPart s (StmtKind-F.RangeDefine ns e ss) v = IsLiteralRun E blocks r s (expression e ∷ []) v ⊎ InRangeDefined s ns e ss v
  IsPart s k v = IsLiteralRun E blocks r s (own_nodes k) v
