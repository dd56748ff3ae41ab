use Rattle.std.proofs.Common.{List, [], map, sym, subst}
use Rattle.go_rules.specs.Expressions.{HasEach}
use Rattle.go_rules.specs.Nodes.{expression}
use Rattle.go_rules.specs.declared.operand.Operand.{Operand}
use Rattle.go_literals.specs.go_type_terms.Answers.{env_in}
use Rattle.go_literals.proofs.go_type_terms_proofs.Handed.{same_types}
use Rattle.go_expr.specs.Arguments.{HasEachAfter}
use Rattle.go_expr.proofs.Arguing.{in_each, to_each}
use Rattle.go_expr.proofs.exprs.Exprs.arguments.Goals as goal

pub returns : goal.returns
returns g c =
    let E = env_in c.args.self.now.literals.operations.typing.context.now in
    let es = c.args.exprs.now in
    same_types E (HasEachAfter E c.new.result es) (HasEach E es) (map expression es) c.each_after.result
    (λ os h. to_each E es os (subst (λ (b : List Operand). HasEachAfter E b es os) c.new.ensures h))
    (λ os h. subst (λ (b : List Operand). HasEachAfter E b es os) (sym c.new.ensures) (in_each E es os h)) c.each_after.ensures
