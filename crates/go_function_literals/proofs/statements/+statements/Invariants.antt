use Rattle.std.proofs.Common.{◌≡◌, ◌++◌, drop}
use Rattle.go_function_literals.specs.StatementPlaces.{cases_places, select_cases_places, stmts_places, type_cases_places}
use Rattle.go_function_literals.proofs.statements.+statements.Given as goal

abbrev pub invariant-add_stmts-loop-stmt : goal.invariant-add_stmts-loop-stmt
invariant-add_stmts-loop-stmt l = l.found ++ stmts_places (drop l.stmt-index l.stmts) l.height ≡ l.initial.found ++ stmts_places l.stmts l.height

abbrev pub invariant-add_cases-loop-case : goal.invariant-add_cases-loop-case
invariant-add_cases-loop-case l = l.found ++ cases_places (drop l.case-index l.cases) l.height ≡ l.initial.found ++ cases_places l.cases l.height

abbrev pub invariant-add_type_cases-loop-case : goal.invariant-add_type_cases-loop-case
invariant-add_type_cases-loop-case l = l.found ++ type_cases_places (drop l.case-index l.cases) l.height ≡ l.initial.found ++ type_cases_places l.cases l.height

abbrev pub invariant-add_select_cases-loop-case : goal.invariant-add_select_cases-loop-case
invariant-add_select_cases-loop-case l = l.found ++ select_cases_places (drop l.case-index l.cases) l.height ≡ l.initial.found ++ select_cases_places l.cases l.height
