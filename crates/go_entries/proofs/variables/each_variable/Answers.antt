use Rattle.std.proofs.Common.{refl}
use Rattle.std.specs.List.{AllZip}
use Rattle.go_type_terms.specs.Answers.{env_in}
use Rattle.go_type_terms.proofs.Handed.{told_told}
use Rattle.go_typings.specs.Initializers.{TypeOfValue}
use Rattle.go_entries.specs.inner.Variables.{IsVariable}
use Rattle.go_entries.proofs.Zipped.{zipped_begins, zipped_first, zipped_next, zipped_whole}
use Rattle.go_entries.proofs.variables.each_variable.Goals as goal

pub loop-operand-init : goal.loop-operand-init
loop-operand-init c = zipped_begins (IsVariable (env_in c.args.context.now)) c.args.operands.now c.new-variables.result c.new-variables.ensures

pub loop-operand-preserved : goal.loop-operand-preserved
loop-operand-preserved c =
    zipped_next (IsVariable (env_in c.args.context.now)) c.args.operands.now c.loop-operand.operand-index c.operand-item.result c.loop-operand.variables c.push.new.self _
    c.loop-operand-test.true c.operand-item.is (c.in_ok-term.term, c.in_ok-term.ensures, refl) c.in_ok-push.ensures.ok c.loop-operand.invariant

pub returns-in_err-term : goal.returns-in_err-term
returns-in_err-term c =
    let E = env_in c.args.context.now in
    let P = IsVariable E in
    let o = c.operand-item.result in
    told_told (TypeOfValue E o) (AllZip P c.args.operands.now) c.in_err-term.field-0.0 c.from_residual.result c.from_residual.ensures.1 c.in_err-term.ensures
    (λ all h. let f = zipped_first P c.args.operands.now c.loop-operand.operand-index o c.loop-operand.variables c.loop-operand-test.true c.operand-item.is c.loop-operand.invariant all h in (f.1.0, f.1.1))

pub returns : goal.returns
returns c = zipped_whole (IsVariable (env_in c.args.context.now)) c.args.operands.now c.loop-operand.operand-index c.loop-operand.variables c.loop-operand-test.false c.loop-operand.invariant
