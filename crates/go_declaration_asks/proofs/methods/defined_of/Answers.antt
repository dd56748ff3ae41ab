use Rattle.std.proofs.Common.{ap, ◌∙◌}
use Rattle.go_rules.specs.Scopes.{env_of}
use Rattle.go_declaration_asks.proofs.methods.defined_of.Goals as goal

pub returns : goal.returns
returns c = c.defined.ensures ∙ ap (env_of c.args.env.now).table c.in_ok-own.ensures
