use Rattle.std.proofs.Common.{ℕ, ◌<◌}
use Rattle.std.specs.List.{slice_index}
use Rattle.go_rules.proofs.exports.is_ascii.Given as goal

abbrev pub invariant-loop-byte : goal.invariant-loop-byte
invariant-loop-byte l = (i : ℕ) → i < l.byte-index → slice_index l.bytes i < 128
