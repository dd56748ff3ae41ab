use Rattle.go_rules.specs.Scopes.{env_of}
use Rattle.go_elements.proofs.ArrayLengths.{length_gives}
use Rattle.go_elements.proofs.arrays.array_length.Goals as goal

pub returns : goal.returns
returns c = length_gives (env_of c.args.context.now.env.now) c.args.term.now _ c.length_at.result c.under.ensures c.length_at.ensures
