use Rattle.std.proofs.Common.{subst}
use Rattle.go_model.specs.types.Selectors.{Finds}
use Rattle.go_rules.specs.Scopes.{env_of}
use Rattle.go_usability.proofs.table.find.Goals as goal

pub returns : goal.returns
returns c = subst (λ x. Finds (env_of x).table c.args.sel.now c.args.term.now c.in_ok-found.found) c.args.context.now.same c.in_ok-found.ensures
