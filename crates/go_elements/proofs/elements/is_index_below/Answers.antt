use Rattle.go_rules.specs.Scopes.{env_of}
use Rattle.go_elements.proofs.IndexValues.{below_decides, below_no_index}
use Rattle.go_elements.proofs.elements.is_index_below.Goals as goal

pub returns-in-Some : goal.returns-in-Some
returns-in-Some c = below_decides (env_of c.args.context.now.env.now) c.args.index.now c.in-Some.number c.args.length c.is_below.result c.in-Some.ensures c.is_below.ensures

pub returns-in-None : goal.returns-in-None
returns-in-None c = below_no_index (env_of c.args.context.now.env.now) c.args.index.now c.args.length c.in-None.ensures
