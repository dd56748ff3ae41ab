use Rattle.std.proofs.Common.{drop}
use Rattle.go_rules.specs.Expressions.{Has}
use Rattle.go_type_terms.specs.Answers.{env_in}
use Rattle.go_entries.proofs.Zipped.{Zipped}
use Rattle.go_entries.proofs.initializers.each.Given as goal

abbrev pub invariant-loop-expr : goal.invariant-loop-expr
invariant-loop-expr l = Zipped (Has (env_in l.context)) l.exprs (drop l.expr-index l.exprs) l.operands
