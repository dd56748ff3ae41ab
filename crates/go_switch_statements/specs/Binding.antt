-- A clause of a type switch, and its guard.
-- Public source: Go specification, "Type switches".
use Rattle.std.specs.Prelude.{◌≡◌, ◌⊎◌, List, [], ◌∷◌, Option}
use Rattle.go_base.specs.Lists.{Each, Has as In, Once}
use Rattle.go_model.specs.declared.types.term.Method.{Method}
use Rattle.go_model.specs.declared.types.term.Term.{Term, Term-F}
use Rattle.go_model.specs.types.Underlying.{under}
use Rattle.go_rules.specs.Asks.{Meets}
use Rattle.go_rules.specs.Environments.{Env}
use Rattle.go_rules.specs.Nodes.{expression}
use Rattle.go_rules.specs.Operands.{IsTyped}
use Rattle.go_rules.specs.declared.operand.Operand.{Operand}
use Rattle.go_statement_rules.specs.Bodies.{IsTypedRun}
use Rattle.go_statement_rules.specs.Clauses.{bound_type}
use Rattle.go_statement_rules.specs.Functions.{Enclosing, Run, run}
use Rattle.go_statement_rules.specs.Scopes.{Scopes, within}
use Rattle.go_statement_rules.specs.Statements.{AreListed, AreMet, AreTypeCases, IsOperand, ListsClauses, NamesSomething, bound, listed_nodes}
use Rattle.go_syntax.specs.declared.expression.Expr.{Expr}
use Rattle.go_syntax.specs.declared.name.Name.{Name}
use Rattle.go_syntax.specs.declared.statement.LiteralBlock.{LiteralBlock}
use Rattle.go_syntax.specs.declared.statement.Stmt.{Stmt}
use Rattle.go_syntax.specs.declared.statement.TypeCase.{TypeCase, out-TypeCase}
use Rattle.go_syntax.specs.declared.types.«Type».{«Type» as Typ}
use Rattle.go_untyped_places.specs.LiteralRuns.{IsLiteralRun}
use Rattle.go_untyped_places.specs.Parts.{IsBound}

-- what a clause lists, where all that is asked is met
abbrev pub ListsMet : Env → Term → Option (List Typ) → List (Option Term) → Type 0
ListsMet F interface ts xs = AreListed F interface ts xs × Each (Meets F) (listed_nodes ts)

-- the run of a clause whose name has this type
abbrev pub BoundRun : Enclosing → Scopes → Option Name → Term → List Stmt → Run → Type 0
BoundRun r s n t ss v = (u : Scopes) × bound n t s u × (v ≡ run r u ss)

module _ (E : Env) (blocks : List LiteralBlock) (r : Enclosing) (s : Scopes) where
  -- it is typed
  abbrev pub IsTypedBound : Option Name → Term → List Stmt → Type 0
  IsTypedBound n t ss = (v : Run) × BoundRun r s n t ss v × IsTypedRun E blocks v

  -- a clause is typed
  abbrev pub IsTypedTypeCase : Option Name → Term → TypeCase → Type 0
  IsTypedTypeCase n interface c = (xs : List (Option Term)) × AreListed (within E s) interface (out-TypeCase c).types xs × AreMet E blocks r (within E s) s (listed_nodes (out-TypeCase c).types)
      × IsTypedBound n (bound_type interface xs) (out-TypeCase c).body

  -- a run in a clause
  abbrev pub InTypeCase : Option Name → Term → TypeCase → Run → Type 0
  InTypeCase n interface c v = IsLiteralRun E blocks r s (listed_nodes (out-TypeCase c).types) v ⊎ IsBound E blocks r s n interface c v

  -- the guard is typed, and its operand is of this interface type
  abbrev pub Guards : Option Name → Expr → Term → Type 0
  Guards n e interface = (o : Operand) × (ms : List Method) × NamesSomething n × IsOperand E blocks r s e o × IsTyped o interface × (under E.table interface ≡ Term-F.Interface ms)

  -- the guard and the clauses are typed
  abbrev pub IsTypedGuarded : Option Name → Expr → List TypeCase → Type 0
  IsTypedGuarded n e cs = (interface : Term) × (xs : List (Option Term)) × Guards n e interface × ListsClauses (within E s) interface cs xs × Once xs × AreTypeCases E blocks r s n interface cs

  -- a run in the guard or in a clause
  abbrev pub InGuarded : Option Name → Expr → List TypeCase → Run → Type 0
  InGuarded n e cs v = IsLiteralRun E blocks r s (expression e ∷ []) v ⊎ ((interface : Term) × Guards n e interface × (c : TypeCase) × In cs c × InTypeCase n interface c v)
