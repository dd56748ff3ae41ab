use Rattle.std.proofs.Common.{◌≡◌, ◌++◌, drop, map}
use Rattle.go_nodes.specs.Trees.{nodes_in}
use Rattle.go_rules.specs.Nodes.{type}
use Rattle.go_flat_statements.proofs.trees.push_types.Given as goal

abbrev pub invariant-loop-form : goal.invariant-loop-form
invariant-loop-form l = nodes_in l.trees ++ map type (drop l.form-index l.forms) ≡ nodes_in l.initial.trees ++ map type l.forms
