use Rattle.std.proofs.Common.{◌≡◌, ℕ, None, length}
use Rattle.std.specs.Prelude.{◌&&◌, if◌then◌else◌, nat_lt}
use Rattle.go_packages.specs.go_entries.HadEntries.{entries_at}
use Rattle.go_graphs.specs.Flags.{is_flagged}
use Rattle.go_check.proofs.kept.leave_only.Given as goal

abbrev pub invariant-loop-number : goal.invariant-loop-number
invariant-loop-number l = record {
  count : length l.had ≡ length l.initial.had;
  kept : (n : ℕ) → entries_at l.had n ≡ (if nat_lt n l.number && is_flagged l.lost n then None else entries_at l.initial.had n);
}
