use Rattle.std.proofs.Common.{◌≡◌, subst}
use Rattle.go_model.specs.declared.types.term.Term.{out-Term}
use Rattle.go_model.specs.types.Underlying.{under}
use Rattle.go_rules.specs.Scopes.{env_of}
use Rattle.go_usability.proofs.context.Context.under.Goals as goal

pub returns : goal.returns
returns c = subst (λ x. out-Term c.under.result.now ≡ under (env_of x).table c.args.term.now) c.args.self.now.same c.under.ensures
