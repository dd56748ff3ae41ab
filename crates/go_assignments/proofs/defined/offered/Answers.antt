use Rattle.std.proofs.Common.{subst}
use Rattle.go_rules.specs.Scopes.{Scopes as Names, env_of}
use Rattle.go_assignments.specs.inner.Definitions.{TellsGiven}
use Rattle.go_assignments.proofs.defined.offered.Goals as goal

pub returns : goal.returns
returns c = subst (λ (s : Names). TellsGiven (env_of s) c.args.names.now c.args.exprs.now c.offered_in.result) c.new-context.ensures c.offered_in.ensures
