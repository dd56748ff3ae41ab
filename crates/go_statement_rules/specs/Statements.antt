-- Typed statements, by cases: one for each rule of the Go specification. A statement is typed in the scopes that those before it leave, and leaves scopes. Each expression,
-- type and signature in it meets all that is asked of it, and the block of each function literal in it is typed in the scopes in which the literal stands.
-- Public source: Go specification, "Statements", "Blocks", "Declarations and scope", "Function literals". Own: these aren't looked at: labels, and where `break`, `continue`, `goto` and `fallthrough` stand;
-- whether a function with results ends in a statement that ends it, and whether a `return` without values stands where results have names; whether a name is used; a second default; constants that two clauses
-- of a switch have both; whether the tag of a switch whose clauses list no value can be compared; parentheses round a call behind `go` or `defer`.
use Rattle.std.specs.Prelude.{◌≡◌, ◌≢◌, ◌≤◌, Bool, true, false, List, [], ◌∷◌, ◌++◌, map, take, length, Option, None, Some}
use Rattle.go_base.specs.Lists.{Each, Once}
use Rattle.go_base.specs.declared.operator.AssignOperator.{AssignOperator}
use Rattle.go_base.specs.declared.operator.StepOperator.{StepOperator}
use Rattle.go_model.specs.declared.constants.value.Basic.TheVariants as basic
use Rattle.go_model.specs.declared.types.package.Entity.{Entity}
use Rattle.go_model.specs.declared.types.term.Direction.{Direction}
use Rattle.go_model.specs.declared.types.term.Method.{Method}
use Rattle.go_model.specs.declared.types.term.Term.{Term, Term-F}
use Rattle.go_model.specs.types.Underlying.{under}
use Rattle.go_typings.specs.go_rules.Asks.{AreDistinctNames, HasOperand, Meets, texts}
use Rattle.go_typings.specs.go_rules.Environments.{Env}
use Rattle.go_typings.specs.go_rules.Expressions.{is_blank, sends}
use Rattle.go_typings.specs.go_rules.Names.{Named}
use Rattle.go_typings.specs.go_rules.Nodes.{Node, Stands, expression, type}
use Rattle.go_typings.specs.go_rules.Operands.{IsTyped, IsUntyped, plain}
use Rattle.go_typings.specs.go_rules.Usability.{UsableAs}
use Rattle.go_typings.specs.go_rules.declared.operand.Operand.{Operand}
use Rattle.go_typings.specs.go_rules.declared.seen.Seen.{Seen}
use Rattle.go_typings.specs.go_rules.declared.seen.Seen.TheVariants as seen
use Rattle.go_model.specs.declared.constants.value.Untyped.TheVariants as untyped
use Rattle.go_statement_rules.specs.Assignments.{AreAssigned, AreDefined, IsAssigned, IsCallAlone, IsReceiveAlone, Operates, Returns, one, step_operator}
use Rattle.go_statement_rules.specs.Clauses.{IsCase, IsTag, ListsAll, Ranges, bound_type}
use Rattle.go_statement_rules.specs.Functions.{Enclosing, EntersFunction, Run}
use Rattle.go_statement_rules.specs.Scopes.{Scopes, Declares, at_place, local_of, locals, opened, within}
use Rattle.go_typings.specs.go_rules.Expressions.{Computes}
use Rattle.go_syntax.specs.declared.body.BodyRange.{BodyRange}
use Rattle.go_syntax.specs.declared.declaration.ConstSpec.{ConstSpec}
use Rattle.go_syntax.specs.declared.declaration.VarSpec.{VarSpec}
use Rattle.go_syntax.specs.declared.expression.Expr.{Expr, Expr-F, out-Expr}
use Rattle.go_syntax.specs.declared.name.Name.{Name}
use Rattle.go_syntax.specs.declared.statement.Case.{Case, out-Case}
use Rattle.go_syntax.specs.declared.statement.LiteralBlock.{LiteralBlock}
use Rattle.go_syntax.specs.declared.statement.SelectCase.{SelectCase, out-SelectCase}
use Rattle.go_syntax.specs.declared.statement.Stmt.{Stmt, out-Stmt}
use Rattle.go_syntax.specs.declared.statement.StmtKind.{StmtKind, StmtKind-F, out-StmtKind}
use Rattle.go_syntax.specs.declared.statement.TypeCase.{TypeCase, out-TypeCase}
use Rattle.go_syntax.specs.declared.types.Signature.{Signature as Sig}
use Rattle.go_syntax.specs.declared.types.«Type».{«Type» as Typ}
use Rattle.go_typings.specs.DeclarationAsks.{ValuesFit}
use Rattle.go_typings.specs.DeclarationNodes.{nodes}
use Rattle.go_typings.specs.DeclarationRules.{Gives}
use Rattle.go_typings.specs.Declarations.{Form, constants, constants_from, names_of, no_spec, variables}
use Rattle.go_typings.specs.Initializers.{Initialize}
use Rattle.go_typings.specs.PackageEnvironments.{objects}

-- one level of a statement's kind
abbrev pub KindLayer : Type 0
KindLayer = StmtKind-F StmtKind Case SelectCase Stmt TypeCase

abbrev pub kind_of : Stmt → KindLayer
kind_of x = out-StmtKind (out-Stmt x).kind

-- a truth value
pub data IsTruth (E : Env) : Operand → Type 0 where
  truth_typed : {o : Operand} {t : Term} → IsTyped o t → under E.table t ≡ Term-F.Plain basic.Bool → IsTruth E o
  truth_untyped : {o : Operand} → IsUntyped o untyped.BoolKind → IsTruth E o

abbrev pub some_names : List Name → List (Option Name)
some_names ns = map Some ns

-- the environment of a declaration in a function
abbrev pub form_env : Env → Form → Env
form_env F (constants s place) = at_place F place
form_env F f = F

abbrev pub fits : Env → Form → Type 0
fits F (variables s) = ValuesFit F s.type_ (length s.names) s.values
fits F f = Unit {0}

-- what all clauses of a type switch list
pub data ListsClauses (F : Env) (interface : Term) : List TypeCase → List (Option Term) → Type 0 where
  clauses_none : ListsClauses F interface [] []
  clauses_default : {c : TypeCase} {cs : List TypeCase} {xs : List (Option Term)} → (out-TypeCase c).types ≡ None → ListsClauses F interface cs xs → ListsClauses F interface (c ∷ cs) xs
  clauses_types : {c : TypeCase} {cs : List TypeCase} {ts : List Typ} {xs ys : List (Option Term)} → (out-TypeCase c).types ≡ Some ts → ListsAll F interface ts xs → ListsClauses F interface cs ys → ListsClauses F interface (c ∷ cs) (xs ++ ys)

-- the types of a clause
abbrev pub AreListed : Env → Term → Option (List Typ) → List (Option Term) → Type 0
AreListed F interface None xs = xs ≡ []
AreListed F interface (Some ts) xs = ListsAll F interface ts xs

-- the scope of a clause, with the name that the guard binds
abbrev pub bound : Option Name → Term → Scopes → Scopes → Type 0
bound None t s u = u ≡ opened s
bound (Some n) t s u = Declares (opened s) (Some n ∷ []) (seen.Local t ∷ []) u

-- the types that a clause lists
abbrev pub listed_nodes : Option (List Typ) → List Node
listed_nodes None = []
listed_nodes (Some ts) = map type ts

-- the tree of a tag, where there is one
abbrev pub tag_nodes : Option Expr → List Node
tag_nodes None = []
tag_nodes (Some e) = expression e ∷ []

-- the guard of a type switch binds no blank name
abbrev pub NamesSomething : Option Name → Type 0
NamesSomething None = Unit {0}
NamesSomething (Some n) = is_blank n.text ≡ false

-- a short variable declaration
abbrev pub is_definition : KindLayer → Bool
is_definition (StmtKind-F.Define ns xs) = true
is_definition k = false

-- a statement behind the condition of a `for` declares nothing
abbrev pub IsPost : Option Stmt → Type 0
IsPost None = Unit {0}
IsPost (Some x) = is_definition (kind_of x) ≡ false

-- one of the names isn't blank
pub data IsNew : List Name → Type 0 where
  new_here : {n : Name} {ns : List Name} → is_blank n.text ≡ false → IsNew (n ∷ ns)
  new_later : {n : Name} {ns : List Name} → IsNew ns → IsNew (n ∷ ns)

-- `E` is what stands around the function, and `blocks` has the block of each function literal by its place
module _ (E : Env) (blocks : List LiteralBlock) where
  mutual
    -- an expression is this operand, all that is asked in it is met, and the blocks of the function literals in it are typed
    pub data IsOperand : Enclosing → Scopes → Expr → Operand → Type 0 where
      is_operand : {r : Enclosing} {s : Scopes} {e : Expr} {o : Operand} → HasOperand (within E s) e o → LiteralsAreTyped r s (expression e) → IsOperand r s e o

    -- the block of each function literal that stands in the tree is typed, in the scopes in which the tree stands
    pub data LiteralsAreTyped : Enclosing → Scopes → Node → Type 0 where
      literals_typed : {r : Enclosing} {s : Scopes} {at : Node} → ((x : Expr) (g : Sig) (b : BodyRange) → Stands at (expression x) → out-Expr x ≡ Expr-F.FuncLit g b → IsTypedFunction r s g b) → LiteralsAreTyped r s at

    -- what is asked in the trees is met, and the blocks of the function literals in them are typed
    pub data AreMet : Enclosing → Env → Scopes → List Node → Type 0 where
      met_none : {r : Enclosing} {F : Env} {s : Scopes} → AreMet r F s []
      met_more : {r : Enclosing} {F : Env} {s : Scopes} {n : Node} {ns : List Node} → Meets F n → LiteralsAreTyped r s n → AreMet r F s ns → AreMet r F s (n ∷ ns)

    -- the block of a function literal with this signature is typed
    pub data IsTypedFunction : Enclosing → Scopes → Sig → BodyRange → Type 0 where
      typed_function : {r : Enclosing} {s last : Scopes} {g : Sig} {b : BodyRange} {w : Run} → EntersFunction E blocks r s g b w → AreTyped w.function w.scopes w.statements last → IsTypedFunction r s g b

    -- the statements one after another, in a function
    pub data AreTyped : Enclosing → Scopes → List Stmt → Scopes → Type 0 where
      typed_none : {r : Enclosing} {s : Scopes} → AreTyped r s [] s
      typed_more : {r : Enclosing} {s t u : Scopes} {x : Stmt} {xs : List Stmt} → Leaves r s (kind_of x) t → AreTyped r t xs u → AreTyped r s (x ∷ xs) u

    -- the statements of a block
    pub data IsTypedBlock : Enclosing → Scopes → List Stmt → Type 0 where
      typed_block : {r : Enclosing} {s t : Scopes} {ss : List Stmt} → AreTyped r (opened s) ss t → IsTypedBlock r s ss

    -- the scope of a header, with what its statement declares
    pub data Begins : Enclosing → Scopes → Option Stmt → Scopes → Type 0 where
      begins_alone : {r : Enclosing} {s : Scopes} → Begins r s None (opened s)
      begins_with : {r : Enclosing} {s t : Scopes} {x : Stmt} → Leaves r (opened s) (kind_of x) t → Begins r s (Some x) t

    -- a statement that may be left out. What it declares isn't seen behind it
    pub data MayStand : Enclosing → Scopes → Option Stmt → Type 0 where
      may_lack : {r : Enclosing} {s : Scopes} → MayStand r s None
      may_be : {r : Enclosing} {s t : Scopes} {x : Stmt} → Leaves r s (kind_of x) t → MayStand r s (Some x)

    -- a condition
    pub data IsCondition : Enclosing → Scopes → Option Expr → Type 0 where
      no_condition : {r : Enclosing} {s : Scopes} → IsCondition r s None
      condition : {r : Enclosing} {s : Scopes} {e : Expr} {o : Operand} → IsOperand r s e o → IsTruth (within E s) o → IsCondition r s (Some e)

    -- the specs of a declaration in a function, one after another
    pub data AreDeclared : Enclosing → Scopes → List Form → Scopes → Type 0 where
      declared_none : {r : Enclosing} {s : Scopes} → AreDeclared r s [] s
      declared_more : {r : Enclosing} {s t u : Scopes} {f : Form} {fs : List Form} {xs : List Entity} → Gives (form_env (within E s) f) [] f (objects xs) → fits (within E s) f → AreMet r (form_env (within E s) f) s (nodes f)
          → Declares s (some_names (names_of f)) (map local_of xs) t → AreDeclared r t fs u → AreDeclared r s (f ∷ fs) u

    -- the clauses of a switch, whose values can be compared with those of the type
    pub data AreCases : Enclosing → Scopes → Term → List Case → Type 0 where
      cases_none : {r : Enclosing} {s : Scopes} {t : Term} → AreCases r s t []
      cases_default : {r : Enclosing} {s : Scopes} {t : Term} {c : Case} {cs : List Case} → (out-Case c).values ≡ None → IsTypedBlock r s (out-Case c).body → AreCases r s t cs → AreCases r s t (c ∷ cs)
      cases_values : {r : Enclosing} {s : Scopes} {t : Term} {c : Case} {cs : List Case} {es : List Expr} → (out-Case c).values ≡ Some es → Each (IsCase (within E s) t) es → AreMet r (within E s) s (map expression es)
          → IsTypedBlock r s (out-Case c).body → AreCases r s t cs → AreCases r s t (c ∷ cs)

    -- the clauses of a type switch
    pub data AreTypeCases : Enclosing → Scopes → Option Name → Term → List TypeCase → Type 0 where
      type_cases_none : {r : Enclosing} {s : Scopes} {n : Option Name} {t : Term} → AreTypeCases r s n t []
      type_cases_more : {r : Enclosing} {s u last : Scopes} {n : Option Name} {t : Term} {c : TypeCase} {cs : List TypeCase} (xs : List (Option Term)) → AreListed (within E s) t (out-TypeCase c).types xs → AreMet r (within E s) s (listed_nodes (out-TypeCase c).types) → bound n (bound_type t xs) s u
          → AreTyped r u (out-TypeCase c).body last → AreTypeCases r s n t cs → AreTypeCases r s n t (c ∷ cs)

    -- the clauses of a select
    pub data AreSelectCases : Enclosing → Scopes → List SelectCase → Type 0 where
      select_cases_none : {r : Enclosing} {s : Scopes} → AreSelectCases r s []
      select_cases_more : {r : Enclosing} {s t last : Scopes} {c : SelectCase} {cs : List SelectCase} → Begins r s (out-SelectCase c).communication t → AreTyped r t (out-SelectCase c).body last → AreSelectCases r s cs
          → AreSelectCases r s (c ∷ cs)

    -- a statement of this kind is typed in the first scopes, and leaves the last
    pub data Leaves : Enclosing → Scopes → KindLayer → Scopes → Type 0 where
      leaves_empty : {r : Enclosing} {s : Scopes} → Leaves r s StmtKind-F.Empty s
      leaves_call : {r : Enclosing} {s : Scopes} {e : Expr} {o : Operand} → IsOperand r s e o → IsCallAlone (within E s) e → Leaves r s (StmtKind-F.Expr e) s
      leaves_receive_alone : {r : Enclosing} {s : Scopes} {e : Expr} {o : Operand} → IsOperand r s e o → IsReceiveAlone e → Leaves r s (StmtKind-F.Expr e) s
      leaves_send : {r : Enclosing} {s : Scopes} {e x : Expr} {c o : Operand} {t u : Term} {d : Direction} → IsOperand r s e c → IsTyped c t → under E.table t ≡ Term-F.Chan d u → sends d ≡ true → IsOperand r s x o → UsableAs (within E s) o u
          → Leaves r s (StmtKind-F.Send e x) s
      leaves_step : {r : Enclosing} {s : Scopes} {e : Expr} {op : StepOperator} {l o : Operand} {t : Term} → IsOperand r s e l → IsAssigned l t → Computes (within E s) (step_operator op) l one o → UsableAs (within E s) o t → Leaves r s (StmtKind-F.Step e op) s
      leaves_operation : {r : Enclosing} {s : Scopes} {e x : Expr} {op : AssignOperator} {l o q : Operand} {t : Term} → IsOperand r s e l → IsAssigned l t → IsOperand r s x o → Operates (within E s) op l o q → UsableAs (within E s) q t → Leaves r s (StmtKind-F.AssignOp e op x) s
      leaves_assignment : {r : Enclosing} {s : Scopes} {es xs : List Expr} {os : List Operand} → Initialize (within E s) (length es) xs os → AreAssigned (within E s) es os → AreMet r (within E s) s (map expression (es ++ xs)) → Leaves r s (StmtKind-F.Assign es xs) s
      leaves_definition : {r : Enclosing} {scope : Named Seen} {outer t : Scopes} {ns : List Name} {xs : List Expr} {os : List Operand} {new : List (Option Name)} {ms : List Seen} → AreDistinctNames (texts ns)
          → Initialize (within E (scope ∷ outer)) (length ns) xs os → AreDefined (within E (scope ∷ outer)) scope ns os new ms → new ≢ [] → AreMet r (within E (scope ∷ outer)) (scope ∷ outer) (map expression xs)
          → Declares (scope ∷ outer) new ms t → Leaves r (scope ∷ outer) (StmtKind-F.Define ns xs) t
      leaves_constants_declared : {r : Enclosing} {s t : Scopes} {specs : List ConstSpec} → AreDeclared r s (constants_from no_spec 0 specs) t → Leaves r s (StmtKind-F.Const specs) t
      leaves_variables_declared : {r : Enclosing} {s t : Scopes} {specs : List VarSpec} → AreDeclared r s (map variables specs) t → Leaves r s (StmtKind-F.Var specs) t
      leaves_labeled : {r : Enclosing} {s t : Scopes} {n : Name} {x : Stmt} → Leaves r s (kind_of x) t → Leaves r s (StmtKind-F.Labeled n x) t
      leaves_go : {r : Enclosing} {s : Scopes} {e : Expr} {o : Operand} → IsOperand r s e o → IsCallAlone (within E s) e → Leaves r s (StmtKind-F.Go e) s
      leaves_defer : {r : Enclosing} {s : Scopes} {e : Expr} {o : Operand} → IsOperand r s e o → IsCallAlone (within E s) e → Leaves r s (StmtKind-F.Defer e) s
      leaves_return : {r : Enclosing} {s : Scopes} {es : List Expr} → Returns (within E s) r.results es → AreMet r (within E s) s (map expression es) → Leaves r s (StmtKind-F.Return es) s
      leaves_break : {r : Enclosing} {s : Scopes} {n : Option Name} → Leaves r s (StmtKind-F.Break n) s
      leaves_continue : {r : Enclosing} {s : Scopes} {n : Option Name} → Leaves r s (StmtKind-F.Continue n) s
      leaves_goto : {r : Enclosing} {s : Scopes} {n : Name} → Leaves r s (StmtKind-F.Goto n) s
      leaves_fallthrough : {r : Enclosing} {s : Scopes} → Leaves r s StmtKind-F.Fallthrough s
      leaves_inner_block : {r : Enclosing} {s : Scopes} {ss : List Stmt} → IsTypedBlock r s ss → Leaves r s (StmtKind-F.Block ss) s
      leaves_if_then : {r : Enclosing} {s t : Scopes} {init : Option Stmt} {e : Expr} {ss : List Stmt} {other : Option Stmt} → Begins r s init t → IsCondition r t (Some e) → IsTypedBlock r t ss → MayStand r t other → Leaves r s (StmtKind-F.If init e ss other) s
      leaves_switch : {r : Enclosing} {s t : Scopes} {init : Option Stmt} {e : Option Expr} {u : Term} {cs : List Case} → Begins r s init t → IsTag (within E t) e u → AreMet r (within E t) t (tag_nodes e) → AreCases r t u cs → Leaves r s (StmtKind-F.Switch init e cs) s
      leaves_type_switch : {r : Enclosing} {s t : Scopes} {init : Option Stmt} {n : Option Name} {e : Expr} {o : Operand} {u : Term} {ms : List Method} {cs : List TypeCase} {xs : List (Option Term)} → Begins r s init t → NamesSomething n → IsOperand r t e o → IsTyped o u
          → under E.table u ≡ Term-F.Interface ms → ListsClauses (within E t) u cs xs → Once xs → AreTypeCases r t n u cs → Leaves r s (StmtKind-F.TypeSwitch init n e cs) s
      leaves_select : {r : Enclosing} {s : Scopes} {cs : List SelectCase} → AreSelectCases r s cs → Leaves r s (StmtKind-F.Select cs) s
      leaves_for : {r : Enclosing} {s t : Scopes} {init post : Option Stmt} {e : Option Expr} {ss : List Stmt} → Begins r s init t → IsCondition r t e → IsPost post → MayStand r t post → IsTypedBlock r t ss → Leaves r s (StmtKind-F.For init e post ss) s
      leaves_while : {r : Enclosing} {s : Scopes} {e : Option Expr} {ss : List Stmt} → IsCondition r s e → IsTypedBlock r s ss → Leaves r s (StmtKind-F.While e ss) s
      leaves_range : {r : Enclosing} {s : Scopes} {e : Expr} {o : Operand} {ts : List Term} {ss : List Stmt} → IsOperand r s e o → Ranges (within E s) o ts → IsTypedBlock r s ss → Leaves r s (StmtKind-F.Range e ss) s
      leaves_range_assigned : {r : Enclosing} {s : Scopes} {es : List Expr} {e : Expr} {o : Operand} {ts : List Term} {ss : List Stmt} → IsOperand r s e o → Ranges (within E s) o ts → length es ≤ length ts → AreAssigned (within E s) es (map plain (take (length es) ts))
          → AreMet r (within E s) s (map expression es) → IsTypedBlock r s ss → Leaves r s (StmtKind-F.RangeAssign es e ss) s
      leaves_range_defined : {r : Enclosing} {s t : Scopes} {ns : List Name} {e : Expr} {o : Operand} {ts : List Term} {ss : List Stmt} → IsOperand r s e o → Ranges (within E s) o ts → length ns ≤ length ts → IsNew ns
          → Declares (opened s) (some_names ns) (locals (take (length ns) ts)) t → IsTypedBlock r t ss → Leaves r s (StmtKind-F.RangeDefine ns e ss) s
