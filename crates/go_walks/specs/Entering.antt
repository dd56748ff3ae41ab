-- The run of a function in the scope that is opened for it.
-- Public source: Go specification, "Function literals" and "Declarations and scope".
use Rattle.std.specs.Prelude.{◌≡◌, ◌++◌, ℕ, List}
use Rattle.go_model.specs.declared.types.term.Signature.{Signature, out-Signature}
use Rattle.go_rules.specs.Environments.{Env}
use Rattle.go_statement_rules.specs.Bodies.{IsTypedRun}
use Rattle.go_statement_rules.specs.Functions.{Run, enclosing, run}
use Rattle.go_statement_rules.specs.Scopes.{Scopes, Declares, locals, parameter_slots, result_slots}
use Rattle.go_syntax.specs.declared.statement.LiteralBlock.{LiteralBlock}
use Rattle.go_syntax.specs.declared.statement.Stmt.{Stmt}
use Rattle.go_syntax.specs.declared.types.Signature.{Signature as Sig, out-Signature as out-Sig}

-- the statements of a function of this signature, whose parameters and results are declared in these scopes
abbrev pub Enters : Scopes → Sig → Signature → ℕ → List Stmt → Run → Type 0
Enters s g h start ss v = (inner : Scopes) × Declares s (parameter_slots (out-Sig g).parameters ++ result_slots (out-Sig g).result) (locals ((out-Signature h).params ++ (out-Signature h).results)) inner
    × (v ≡ run (enclosing (out-Signature h).results start) inner ss)

-- they are typed
abbrev pub IsTypedIn : Env → List LiteralBlock → Scopes → Sig → Signature → ℕ → List Stmt → Type 0
IsTypedIn E blocks s g h start ss = (v : Run) × Enters s g h start ss v × IsTypedRun E blocks v
