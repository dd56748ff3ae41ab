use Rattle.std.proofs.Common.{◌≡◌, ◌++◌, map, take}
use Rattle.api_correspond.specs.inner.Parts.{type_of}
use Rattle.api_correspond.proofs.parts.push_types.Given as goal

abbrev pub invariant-loop-term : goal.invariant-loop-term
invariant-loop-term l = map type_of l.all.items ≡ map type_of l.fn.all.items ++ take l.term-index l.terms
