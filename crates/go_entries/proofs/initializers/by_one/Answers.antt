use Rattle.go_type_terms.specs.Answers.{env_in}
use Rattle.go_type_terms.proofs.NamedTypes.{same_tells}
use Rattle.go_entries.specs.inner.Values.{AreValuesOf, GivesSeveral}
use Rattle.go_entries.proofs.SeveralValues.{in_several, to_several}
use Rattle.go_entries.proofs.initializers.by_one.Goals as goal

pub returns : goal.returns
returns c =
    let E = env_in c.args.context.now in
    let e = c.args.expr.now in
    let n = c.args.count in
    let o = c.in_ok-operand.operand in
    let told = c.is_assertion_or_receive.result in
    let d = c.is_assertion_or_receive.ensures in
    same_tells (AreValuesOf n told o) (GivesSeveral E n e) c.several.result (to_several E e told d n o c.in_ok-operand.ensures) (in_several E e told d n o c.in_ok-operand.ensures) c.several.ensures
