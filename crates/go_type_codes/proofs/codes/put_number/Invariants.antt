use Rattle.std.proofs.Common.{◌≡◌, ◌<◌, ◌≤◌, ◌^◌, ◌++◌}
use Rattle.go_type_codes.specs.Codes.{digits}
use Rattle.go_type_codes.proofs.codes.put_number.Given as goal

abbrev pub invariant-loop-left : goal.invariant-loop-left
invariant-loop-left l = record { put : l.out.items ++ digits l.left l.rest ≡ l.fn.out.items ++ digits 8 l.number; small : l.rest < 256 ^ l.left; few : l.left ≤ 8 }

abbrev pub decreases-loop-left : goal.decreases-loop-left
decreases-loop-left l = l.left
