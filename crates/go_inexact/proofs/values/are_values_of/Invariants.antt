use Rattle.std.proofs.Common.{drop}
use Rattle.go_exposed.specs.BeyondProfile.{IsValueOf}
use Rattle.go_nodes.proofs.EachItems.{EachFrom}
use Rattle.go_type_terms.specs.Answers.{env_in}
use Rattle.go_inexact.proofs.values.are_values_of.Given as goal

abbrev pub invariant-loop-expr : goal.invariant-loop-expr
invariant-loop-expr l = EachFrom (IsValueOf (env_in l.context) l.term) (drop l.expr-index l.exprs) l.exprs
