use Rattle.std.proofs.Common.{ap}
use Rattle.go_leads.specs.Listed.{names_of}
use Rattle.go_leads.proofs.TreeKeys.{listed}
use Rattle.go_nodes.specs.Trees.{node_of, nodes_in}
use Rattle.go_rules.specs.Scopes.{env_of}
use Rattle.go_type_terms.specs.Answers.{env_in}
use Rattle.go_leads.proofs.keys.field_keys.Goals as goal

pub returns : goal.returns
returns c = listed (env_in c.new-context.result) (env_of c.args.env.now) (ap env_of c.new-context.ensures) (node_of c.args.tree) (nodes_in c.new-trees.result) (nodes_in c.push.new.self) (names_of c.new-keys.result) (names_of c.push_all.new.keys)
    c.new-trees.ensures c.in_ok-push.ensures (ap names_of c.new-keys.ensures) c.in_ok-push_all.ensures
