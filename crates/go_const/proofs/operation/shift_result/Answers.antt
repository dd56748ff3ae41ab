use Rattle.std.proofs.Common.{◌∙◌, ap, true, Some, to_z-of_z}
use Rattle.go_const.specs.inner.Bounds.{bounded}
use Rattle.go_const.proofs.KeptNumbers.{kept_from}
use Rattle.go_const.proofs.operation.shift_result.Goals as goal
use Rattle.go_model.specs.constants.Constants.{exact_shift}

pub returns-then-left : goal.returns-then-left
returns-then-left c =
    rw c.if-left.true
    (kept_from c.args.kind c.args.bits c.shifted_left.result (Some (exact_shift true c.args.number c.args.count)) c.number_result.result c.number_result.ensures
    (c.shifted_left.ensures ∙ ap (λ x. bounded (Some (exact_shift true x c.args.count))) (to_z-of_z c.ranges.number)))
