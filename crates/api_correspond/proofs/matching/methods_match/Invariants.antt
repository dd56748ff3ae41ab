use Rattle.std.proofs.Common.{◌≡◌, map, take}
use Rattle.go_model.specs.types.MethodSets.{method_sel}
use Rattle.api_correspond.proofs.matching.methods_match.Given as goal

abbrev pub invariant-loop-i : goal.invariant-loop-i
invariant-loop-i l = take l.i (map method_sel l.before) ≡ take l.i (map method_sel l.after)
