use Rattle.std.proofs.Common.{subst}
use Rattle.go_base.specs.declared.operator.CompareOp.TheVariants as compare
use Rattle.go_rules.specs.Expressions.{IsComparison}
use Rattle.go_rules.specs.declared.operand.Operand.{Operand}
use Rattle.go_selectors.specs.Answers.{Decides}
use Rattle.go_type_terms.specs.Answers.{env_in}
use Rattle.go_assignments.proofs.Decided.{gives_decides}
use Rattle.go_clauses.proofs.tags.compares_with.Goals as goal

pub returns : goal.returns
returns c =
    let E = env_in c.args.context.now in
    let o = c.args.value.now in
    subst (λ (l : Operand). Decides c.is_some.result ((r : Operand) × IsComparison E compare.Equal l o r)) c.in_ok-left.ensures
    (gives_decides (IsComparison E compare.Equal c.in_ok-left.left o) c.in_ok-compared.compared c.in_ok-compared.ensures c.is_some.result c.is_some.ensures)
