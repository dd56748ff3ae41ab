use Rattle.std.proofs.Common.{drop}
use Rattle.go_nodes.proofs.EachItems.{EachFrom}
use Rattle.go_statement_rules.specs.Clauses.{IsCase}
use Rattle.go_type_terms.specs.Answers.{env_in}
use Rattle.go_clauses.proofs.tags.are_cases.Given as goal

abbrev pub invariant-loop-expr : goal.invariant-loop-expr
invariant-loop-expr l = EachFrom (IsCase (env_in l.context) l.term) (drop l.expr-index l.exprs) l.exprs
