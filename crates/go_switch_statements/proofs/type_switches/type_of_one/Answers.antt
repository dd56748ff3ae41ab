use Rattle.go_model.specs.declared.types.term.Term.{Term}
use Rattle.go_statement_rules.specs.Clauses.{bound_type}
use Rattle.std.proofs.Common.{◌∷◌, [], Option, ap, sym}
use Rattle.go_switch_statements.proofs.type_switches.type_of_one.Goals as goal

pub returns-in-Some : goal.returns-in-Some
returns-in-Some c = sym (ap (λ (x : Option Term). bound_type c.args.term.now (x ∷ [])) c.in-Some.is)

pub returns-in-None : goal.returns-in-None
returns-in-None c = sym (ap (λ (x : Option Term). bound_type c.args.term.now (x ∷ [])) c.in-None.is)
