use Rattle.std.specs.List.{AllZip}
use Rattle.go_base.specs.Keys.{item_of}
use Rattle.go_type_terms.specs.Answers.{env_in}
use Rattle.go_type_terms.proofs.Handed.{told_told}
use Rattle.go_entries.specs.inner.Constants.{IsConstant}
use Rattle.go_entries.proofs.Zipped.{zipped_begins, zipped_first, zipped_next, zipped_whole}
use Rattle.go_entries.proofs.constants.each_constant.Goals as goal

pub loop-value-init : goal.loop-value-init
loop-value-init c = zipped_begins (IsConstant (env_in c.args.context.now) (item_of c.args.given)) c.args.values.now c.new-constants.result c.new-constants.ensures

pub loop-value-preserved : goal.loop-value-preserved
loop-value-preserved c =
    zipped_next (IsConstant (env_in c.args.context.now) (item_of c.args.given)) c.args.values.now c.loop-value.value-index c.value-item.result c.loop-value.constants c.push.new.self c.in_ok-constant.constant
    c.loop-value-test.true c.value-item.is c.in_ok-constant.ensures c.in_ok-push.ensures.ok c.loop-value.invariant

pub returns-in_err-constant : goal.returns-in_err-constant
returns-in_err-constant c =
    let P = IsConstant (env_in c.args.context.now) (item_of c.args.given) in
    let e = c.value-item.result in
    told_told (P e) (AllZip P c.args.values.now) c.in_err-constant.field-0.0 c.from_residual.result c.from_residual.ensures.1 c.in_err-constant.ensures
    (zipped_first P c.args.values.now c.loop-value.value-index e c.loop-value.constants c.loop-value-test.true c.value-item.is c.loop-value.invariant)

pub returns : goal.returns
returns c = zipped_whole (IsConstant (env_in c.args.context.now) (item_of c.args.given)) c.args.values.now c.loop-value.value-index c.loop-value.constants c.loop-value-test.false c.loop-value.invariant
