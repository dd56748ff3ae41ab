use Rattle.std.proofs.Common.{◌≡◌, map, take}
use Rattle.api_correspond.specs.Outermost.{field_head}
use Rattle.api_correspond.proofs.matching.fields_match.Given as goal

abbrev pub invariant-loop-i : goal.invariant-loop-i
invariant-loop-i l = take l.i (map field_head l.before) ≡ take l.i (map field_head l.after)
