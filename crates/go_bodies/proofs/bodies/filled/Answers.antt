use Rattle.std.proofs.Common.{◌∙◌, [], ap}
use Rattle.go_bodies.specs.Reading.{literals, made, progress}
use Rattle.go_bodies.proofs.Handing.{fills_not}
use Rattle.go_bodies.proofs.Outcomes.{made_of, same_literals}
use Rattle.go_bodies.proofs.bodies.filled.Goals as goal
use Rattle.go_function_literals.specs.Places.{below}
use Rattle.go_function_literals.specs.StatementPlaces.{stmts_places}
use Rattle.go_syntax.specs.grammar.Terminals.{terminals}

pub returns-in_err-blocks : goal.returns-in_err-blocks
returns-in_err-blocks c =
    fills_not (made c.args.block (literals c.args.height (stmts_places c.args.block (below c.args.height)) (progress (terminals c.args.tokens.now) []))) (literals c.args.height c.items-2.result.now (progress (terminals c.args.tokens.now) [])) c.in_err-blocks.field-0.0 c.from_residual-in_err-blocks.result
    c.from_residual-in_err-blocks.ensures.1 c.in_err-blocks.ensures
    (λ e. ap (made c.args.block) (same_literals c.args.height c.below.result c.args.block c.take-stmts.result c.items.result.now c.in_ok-inner.inner c.items-2.result.now (terminals c.args.tokens.now) c.take-stmts.ensures c.items.ensures c.below.ensures c.in_ok-inner.ensures c.items-2.ensures ∙ e))

pub returns : goal.returns
returns c =
    made_of c.args.block c.take-stmts.result c.in_ok-blocks.blocks c.take.result c.in_ok-blocks.ensures.0 (literals c.args.height (stmts_places c.args.block (below c.args.height)) (progress (terminals c.args.tokens.now) [])) c.take-stmts.ensures c.take.ensures
    (same_literals c.args.height c.below.result c.args.block c.take-stmts.result c.items.result.now c.in_ok-inner.inner c.items-2.result.now (terminals c.args.tokens.now) c.take-stmts.ensures c.items.ensures c.below.ensures c.in_ok-inner.ensures c.items-2.ensures ∙ c.in_ok-blocks.ensures.1)
