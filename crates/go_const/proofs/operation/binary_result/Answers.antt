use Rattle.std.proofs.Common.{rules, ◌∙◌, ap₂, FitsSigned, to_z-of_z}
use Rattle.std.specs.Int.{w128}
use Rattle.go_const.specs.inner.Bounds.{bounded}
use Rattle.go_const.proofs.KeptNumbers.{kept_from}
use Rattle.go_const.proofs.operation.binary_result.Goals as goal
use Rattle.go_model.specs.constants.Constants.{binary_number}

pub returns-in-Int-Int : goal.returns-in-Int-Int
returns-in-Int-Int c =
    let left : FitsSigned w128 c.in-Int-Int.x = search rules in
    let right : FitsSigned w128 c.in-Int-Int.y = search rules in
    rw (c.in-Int-Int.is-0, c.in-Int-Int.is-1)
    (kept_from c.args.kind c.args.bits c.combined.result (binary_number c.args.op c.in-Int-Int.x c.in-Int-Int.y) c.number_result.result c.number_result.ensures
    (c.combined.ensures ∙ ap₂ (λ x y. bounded (binary_number c.args.op x y)) (to_z-of_z left) (to_z-of_z right)))
