use Rattle.std.proofs.Common.{subst}
use Rattle.go_rules.specs.Scopes.{env_of}
use Rattle.go_types.specs.go_selectors.Candidates.{HoldMethodSet}
use Rattle.go_usability.proofs.table.candidates.Goals as goal

pub returns : goal.returns
returns c = subst (λ x. HoldMethodSet (env_of x).table c.args.term.now c.in_ok-callable.callable) c.args.context.now.same c.in_ok-callable.ensures
