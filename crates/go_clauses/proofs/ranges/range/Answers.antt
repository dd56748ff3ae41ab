use Rattle.go_rules.specs.Asks.{HasOperand}
use Rattle.go_statement_rules.specs.Clauses.{Ranges}
use Rattle.go_type_terms.specs.Answers.{env_in}
use Rattle.go_type_terms.proofs.Handed.{told_told}
use Rattle.go_type_terms.proofs.NamedTypes.{same_tells}
use Rattle.go_clauses.specs.Clauses.{RangesOver}
use Rattle.go_clauses.proofs.Ranging.{over_in}
use Rattle.go_clauses.proofs.ranges.range.Goals as goal

pub returns-in_err-over : goal.returns-in_err-over
returns-in_err-over c =
    let E = env_in c.args.context.now in
    told_told (HasOperand E c.args.expr.now) (RangesOver E c.args.expr.now) c.in_err-over.field-0.0 c.from_residual.result c.from_residual.ensures.1 c.in_err-over.ensures (λ ts h. (h.0, h.1))

pub returns : goal.returns
returns c =
    let E = env_in c.args.context.now in
    let o = c.in_ok-over.over in
    same_tells (Ranges E o) (RangesOver E c.args.expr.now) c.ranged.result (λ ts r. (o, c.in_ok-over.ensures, r)) (over_in E o c.args.expr.now c.in_ok-over.ensures) c.ranged.ensures
