use Rattle.std.proofs.Common.{◌≡◌, ◌++◌, map, drop}
use Rattle.api_correspond.specs.Outermost.{side_by_side}
use Rattle.api_correspond.specs.inner.Parts.{type_of}
use Rattle.api_correspond.proofs.parts.push_pairs.Given as goal

abbrev pub invariant-loop-i : goal.invariant-loop-i
invariant-loop-i l = l.pairs.items ++ side_by_side (map type_of (drop l.i l.before)) (map type_of (drop l.i l.after)) ≡ l.fn.pairs.items ++ side_by_side (map type_of l.before) (map type_of l.after)
