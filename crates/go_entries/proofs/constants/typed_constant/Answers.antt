use Rattle.go_expr.proofs.go_operators_proofs.Answers.{decided_true}
use Rattle.go_rules.specs.Usability.{UsableAs}
use Rattle.go_type_terms.specs.Answers.{env_in}
use Rattle.go_type_terms.proofs.NamedTypes.{same_tells}
use Rattle.go_entries.specs.inner.Constants.{IsConstantLike, IsTypedConstant}
use Rattle.go_entries.proofs.constants.typed_constant.Goals as goal

pub returns : goal.returns
returns c =
    let E = env_in c.args.context.now in
    let u = c.args.term.now in
    let o = c.args.operand.now in
    let usable : UsableAs E o u = decided_true (UsableAs E o u) c.in_ok-usable.field-0 c.if-not-branch.false c.in_ok-usable.ensures in
    same_tells (IsConstantLike u o) (IsTypedConstant E u o) c.constant_like.result (λ x k. (usable, k)) (λ x k. k.1) c.constant_like.ensures
