use Rattle.std.proofs.Common.{◌≡◌, ◌++◌, drop, map}
use Rattle.go_nodes.specs.Trees.{nodes_in}
use Rattle.go_rules.specs.Nodes.{expression}
use Rattle.go_flat_statements.proofs.trees.push_exprs.Given as goal

abbrev pub invariant-loop-expr : goal.invariant-loop-expr
invariant-loop-expr l = nodes_in l.trees ++ map expression (drop l.expr-index l.exprs) ≡ nodes_in l.initial.trees ++ map expression l.exprs
