use Rattle.go_model.specs.declared.types.term.Term.{Term}
use Rattle.go_statement_rules.specs.Statements.{AreListed}
use Rattle.go_syntax.specs.declared.types.«Type».{«Type» as Typ}
use Rattle.go_type_terms.specs.Answers.{Tells, env_in}
use Rattle.std.proofs.Common.{◌∙◌, List, Option, Some, ap, subst, sym}
use Rattle.go_switch_statements.proofs.type_switches.listed.Goals as goal

pub returns-in-Some : goal.returns-in-Some
returns-in-Some c =
    subst (λ (ts : Option (List Typ)). Tells {A = List (Option Term)} (AreListed (env_in c.args.context.now) c.args.interface.now ts) c.all_listed.result) (ap Some c.items.ensures ∙ sym c.in-Some.is) c.all_listed.ensures

pub returns-in-None : goal.returns-in-None
returns-in-None c = subst (λ (ts : Option (List Typ)). AreListed (env_in c.args.context.now) c.args.interface.now ts c.new.result) (sym c.in-None.is) c.new.ensures
