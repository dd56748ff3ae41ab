use Rattle.go_model.specs.types.Underlying.{under}
use Rattle.go_type_terms.specs.Answers.{env_in}
use Rattle.go_type_terms.proofs.NamedTypes.{same_tells}
use Rattle.go_clauses.specs.inner.Levels.{RangesLevel, RangesValue}
use Rattle.go_clauses.proofs.Ranging.{value_in, value_to}
use Rattle.go_clauses.proofs.ranges.ranged_value.Goals as goal

pub returns-in-Some : goal.returns-in-Some
returns-in-Some c =
    let E = env_in c.args.context.now in
    let o = c.args.operand.now in
    let t = c.in-Some.term.now in
    same_tells (RangesLevel E (under E.table t)) (RangesValue E o) c.ranged_type.result (value_to E o t c.in-Some.ensures) (value_in E o t c.in-Some.ensures) c.ranged_type.ensures

pub returns-in-None : goal.returns-in-None
returns-in-None c = λ ts v. c.in-None.ensures v.0 v.1
