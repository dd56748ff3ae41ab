use Rattle.std.proofs.Common.{◌≤◌, length, arith}
use Rattle.api_gate.proofs.WrittenPieces.{takes_piece, takes_front}
use Rattle.api_gate.proofs.reports.deliver.write_pieces.Goals as goal
use Rattle.api_gate.proofs.reports.deliver.write_pieces.Goals.{then-bytes-at-lt-PIECE, else-bytes-at-lt-PIECE}

pub loop-at-preserved : goal.loop-at-preserved
loop-at-preserved g c =
    let ends : (c.loop-at.at ≤ c.if-bytes-at-lt-PIECE.end) × (c.if-bytes-at-lt-PIECE.end ≤ length c.args.bytes.now) =
    elim c.if-bytes-at-lt-PIECE.branch [ then-bytes-at-lt-PIECE w ↦ (omega arith, omega arith) | else-bytes-at-lt-PIECE w ↦ (omega arith, omega arith) ] in
    record {
      taken = takes_piece _ _ _ c.args.bytes.now c.loop-at.at c.if-bytes-at-lt-PIECE.end ends.0 c.loop-at.invariant.taken c.in_default.ensures.bytes;
      within = ends.1;
      later = omega (arith, c.loop-at.invariant.later, c.in_default.ensures.cause);
    }

pub returns-in-Err-clause-bytes : goal.returns-in-Err-clause-bytes
returns-in-Err-clause-bytes g c =
    let ends : (c.loop-at.at ≤ c.if-bytes-at-lt-PIECE.end) × (c.if-bytes-at-lt-PIECE.end ≤ length c.args.bytes.now) =
    elim c.if-bytes-at-lt-PIECE.branch [ then-bytes-at-lt-PIECE w ↦ (omega arith, omega arith) | else-bytes-at-lt-PIECE w ↦ (omega arith, omega arith) ] in
    takes_front _ _ _ c.args.bytes.now c.loop-at.at c.if-bytes-at-lt-PIECE.end ends.0 ends.1 c.loop-at.invariant.taken c.in-Err.ensures.bytes
