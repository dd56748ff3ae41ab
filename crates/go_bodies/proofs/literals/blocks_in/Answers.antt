use Rattle.std.proofs.Common.{◌∙◌, []}
use Rattle.go_bodies.specs.Reading.{literals, progress}
use Rattle.go_bodies.proofs.Handing.{reads_not}
use Rattle.go_bodies.proofs.Outcomes.{from_first}
use Rattle.go_bodies.proofs.literals.blocks_in.Goals as goal
use Rattle.go_syntax.specs.grammar.Terminals.{terminals}

pub returns-in_err-read : goal.returns-in_err-read
returns-in_err-read c =
    reads_not (literals c.args.most c.args.places.now (progress (terminals c.args.tokens.now) [])) (literals c.args.most c.args.places.now (progress (terminals c.fork-ahead.result) c.new-found.result)) c.in_err-read.field-0.0 c.from_residual.result c.read.new.ahead c.read.new.found
    c.from_residual.ensures.1 c.in_err-read.ensures
    (λ e. from_first c.args.most c.args.places.now c.args.tokens.now c.fork-ahead.result c.new-found.result c.fork-ahead.ensures c.new-found.ensures ∙ e)

pub returns : goal.returns
returns c = (terminals c.read.new.ahead, from_first c.args.most c.args.places.now c.args.tokens.now c.fork-ahead.result c.new-found.result c.fork-ahead.ensures c.new-found.ensures ∙ c.in_ok-read.ensures)
