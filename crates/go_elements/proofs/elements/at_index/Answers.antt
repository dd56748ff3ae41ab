use Rattle.go_rules.specs.Scopes.{env_of}
use Rattle.go_elements.specs.inner.Elements.{IsIndexBelow}
use Rattle.go_elements.proofs.Indexing.{answered_where}
use Rattle.go_elements.proofs.elements.at_index.Goals as goal

pub returns : goal.returns
returns c = answered_where (IsIndexBelow (env_of c.args.context.now.env.now) c.args.index.now c.args.length) _ _ _ c.in_ok-answer.ensures c.is_index_below-below.ensures
