use Rattle.std.proofs.Common.{drop}
use Rattle.go_inexact.proofs.ValuesDecided.{OneFrom}
use Rattle.go_type_terms.specs.Answers.{env_in}
use Rattle.go_inexact.proofs.values.one_is_inexact.Given as goal

abbrev pub invariant-loop-expr : goal.invariant-loop-expr
invariant-loop-expr l = OneFrom (env_in l.context) l.exprs (drop l.expr-index l.exprs)
