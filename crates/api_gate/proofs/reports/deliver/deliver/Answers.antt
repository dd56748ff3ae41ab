use Rattle.std.proofs.Common.{List, ℕ, ◌<◌, length, refl, subst}
use Rattle.go_outside.specs.Sinks.{TakesSome}
use Rattle.api_gate.specs.runs.Effects.{change}
use Rattle.api_gate.specs.runs.Runs.{Tried, output_failed}
use Rattle.api_gate.proofs.WrittenPieces.{tried, never_fell}
use Rattle.api_gate.proofs.reports.deliver.deliver.Goals as goal

pub returns-in-Err-clause-written : goal.returns-in-Err-clause-written
returns-in-Err-clause-written g c =
    output_failed refl c.in-Err.ensures.cause
    (subst (λ (w : List ℕ). 0 < length w) c.output.ensures c.in-Err.ensures.some)
    (subst (λ (w : List ℕ). TakesSome (g.S.Sink.told c.args.out.now) w (g.S.Sink.told c.write_pieces.new.sink)) c.output.ensures c.in-Err.ensures.bytes)
    (subst (Tried (change g.E.Sink.told g.E.Sink.faults c.args.err.now c.write_pieces-tried.new.sink)) c.write_line.ensures
    (tried _ _ _ _ _ c.write_pieces-tried.result c.write_pieces-tried.ensures.bytes c.write_pieces-tried.ensures.cause))
