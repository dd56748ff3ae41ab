use Rattle.go_rules.specs.Usability.{UsableAs}
use Rattle.go_rules.specs.Scopes.{env_of}
use Rattle.go_elements.proofs.Indexing.{answered_where}
use Rattle.go_elements.proofs.elements.at_key.Goals as goal

pub returns : goal.returns
returns c = answered_where (UsableAs (env_of c.args.context.now.env.now) c.args.index.now c.args.key.now) _ _ _ c.in_ok-answer.ensures c.in_ok-may.ensures
