use Rattle.std.proofs.Common.{ap}
use Rattle.go_leads.proofs.MethodChains.{listed}
use Rattle.go_nodes.specs.Trees.{node_of, nodes_in}
use Rattle.go_rules.specs.Scopes.{env_of}
use Rattle.go_type_terms.specs.Answers.{env_in}
use Rattle.go_leads.proofs.methods.found_methods.Goals as goal

pub returns : goal.returns
returns c = listed (env_in c.new-context.result) (env_of c.args.env.now) (ap env_of c.new-context.ensures) (node_of c.args.tree) (nodes_in c.new-trees.result) (nodes_in c.push.new.self) c.new-methods.result c.push_all.new.methods
    c.new-trees.ensures c.in_ok-push.ensures c.new-methods.ensures c.in_ok-push_all.ensures
