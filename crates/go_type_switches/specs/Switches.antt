-- What the clauses of a type switch list.
-- Public source: Go specification, "Type switches".
use Rattle.std.specs.Prelude.{List, Option}
use Rattle.go_base.specs.Lists.{Once}
use Rattle.go_model.specs.declared.types.term.Term.{Term}
use Rattle.go_rules.specs.Environments.{Env}
use Rattle.go_statement_rules.specs.Statements.{ListsClauses}
use Rattle.go_syntax.specs.declared.statement.TypeCase.{TypeCase}

-- each clause lists nil or types of which a value of the interface type may be, and none stands twice
abbrev pub AreClausesOf : Env → Term → List TypeCase → Type 0
AreClausesOf E interface cs = (xs : List (Option Term)) × ListsClauses E interface cs xs × Once xs
