use Rattle.go_leads.specs.Methods.{found_in}
use Rattle.go_leads.specs.inner.Chains.{FoundHere}
use Rattle.go_leads.proofs.MethodChains.{chain_splits}
use Rattle.go_leads.proofs.Walks.{owes_all, owes_next, owes_none}
use Rattle.go_nodes.specs.Trees.{node_of, nodes_in}
use Rattle.go_rules.specs.Nodes.{parts}
use Rattle.go_type_terms.specs.Answers.{env_in}
use Rattle.go_leads.proofs.methods.push_all.Goals as goal

pub loop-init : goal.loop-init
loop-init c = owes_all (found_in (env_in c.args.context.now)) (nodes_in c.args.trees) c.args.methods.now

pub returns-in-None : goal.returns-in-None
returns-in-None c = owes_none (found_in (env_in c.args.context.now)) (nodes_in c.args.trees) (nodes_in c.loop.trees) c.args.methods.now c.loop.methods c.in-None.ensures c.loop.invariant

pub loop-preserved : goal.loop-preserved
loop-preserved c =
    let E = env_in c.args.context.now in
    let a = node_of c.in-Some.tree in
    owes_next (found_in E) (nodes_in c.args.trees) (nodes_in c.loop.trees) (nodes_in c.pop.new.self) (nodes_in c.push_parts.new.self) a (parts a) (FoundHere E a)
    c.args.methods.now c.loop.methods c.push_here.new.methods (chain_splits E a) c.in-Some.ensures c.in_ok-push_parts-in-Some.ensures c.in_ok-push_here-in-Some.ensures c.loop.invariant
