-- The run of the body of a declared function, by the types of its receiver and its signature.
-- Public source: Go specification, "Function declarations", "Method declarations" and "Declarations and scope".
use Rattle.std.specs.Prelude.{◌≡◌, ◌++◌, ℕ, List, Option}
use Rattle.go_model.specs.declared.types.term.Signature.{Signature, out-Signature}
use Rattle.go_model.specs.declared.types.term.Term.{Term}
use Rattle.go_rules.specs.Environments.{Env}
use Rattle.go_rules.specs.declared.seen.Seen.{Seen}
use Rattle.go_statement_rules.specs.Bodies.{IsTypedRun}
use Rattle.go_statement_rules.specs.Functions.{Run, enclosing, receiver_slots, run}
use Rattle.go_statement_rules.specs.Scopes.{Scopes, Declares, locals, parameter_slots, result_slots}
use Rattle.go_syntax.specs.declared.declaration.Func.{Func}
use Rattle.go_syntax.specs.declared.name.Name.{Name}
use Rattle.go_syntax.specs.declared.statement.LiteralBlock.{LiteralBlock}
use Rattle.go_syntax.specs.declared.statement.Stmt.{Stmt}
use Rattle.go_syntax.specs.declared.types.Signature.{out-Signature as out-Sig}

-- the names of the receiver, of the parameters and of the results
abbrev pub names_of : Func → List (Option Name)
names_of f = receiver_slots f.receiver ++ parameter_slots (out-Sig f.signature).parameters ++ result_slots (out-Sig f.signature).result

-- what they mean, where the receiver declares variables of these types
abbrev pub variables_of : List Term → Signature → List Seen
variables_of ts h = locals (ts ++ (out-Signature h).params ++ (out-Signature h).results)

-- the statements of the function, whose variables are declared in these scopes
abbrev pub EntersWith : Scopes → Func → List Term → Signature → ℕ → List Stmt → Run → Type 0
EntersWith s f ts h start ss v = (inner : Scopes) × Declares s (names_of f) (variables_of ts h) inner × (v ≡ run (enclosing (out-Signature h).results start) inner ss)

-- they are typed
abbrev pub IsTypedWith : Env → List LiteralBlock → Scopes → Func → List Term → Signature → ℕ → List Stmt → Type 0
IsTypedWith E blocks s f ts h start ss = (v : Run) × EntersWith s f ts h start ss v × IsTypedRun E blocks v
