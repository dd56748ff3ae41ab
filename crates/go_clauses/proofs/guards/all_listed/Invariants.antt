use Rattle.std.proofs.Common.{drop}
use Rattle.go_assignments.proofs.go_entries_proofs.Zipped.{Zipped}
use Rattle.go_statement_rules.specs.Clauses.{Lists}
use Rattle.go_type_terms.specs.Answers.{env_in}
use Rattle.go_clauses.proofs.guards.all_listed.Given as goal

abbrev pub invariant-loop-form : goal.invariant-loop-form
invariant-loop-form l = Zipped (Lists (env_in l.context) l.interface) l.forms (drop l.form-index l.forms) l.all
