use Rattle.go_local_scopes.proofs.Standing.{kept_none}
use Rattle.go_local_scopes.specs.States.{Reaches}
use Rattle.go_model.specs.declared.types.term.Term.{Term}
use Rattle.go_rules.specs.declared.seen.Seen.TheVariants as seen
use Rattle.go_statement_rules.specs.Scopes.{Declares}
use Rattle.std.proofs.Common.{◌∷◌, [], Some, subst}
use Rattle.std.specs.Prelude.{IfOk}
use Rattle.go_switch_statements.proofs.type_switches.declare_local.Goals as goal

pub returns-in_err-copied-clause-kept : goal.returns-in_err-copied-clause-kept
returns-in_err-copied-clause-kept c = kept_none c.args.env.now c.requires

pub returns-clause-declared : goal.returns-clause-declared
returns-clause-declared c =
    subst (λ (t : Term). IfOk c.declare.result (λ b. Reaches b (Declares c.args.env.now.opened (Some c.args.name.now ∷ []) (seen.Local t ∷ [])) c.declare.new.env.opened)) c.in_ok-copied.ensures c.declare.ensures.declared
