-- A path that stands twice is repeated at the next place, since none before it clashes.
use Rattle.std.proofs.Common.{inl, arith, ◌+◌}
use Rattle.go_outside.proofs.Clashing.{twice_at, clash_of}
use Rattle.go_outside.proofs.memory_files.clash.clashes.Goals as goal

pub returns-then-is_repeated : goal.returns-then-is_repeated
returns-then-is_repeated c = let next = c.is_repeated.ensures.yes c.if-is_repeated.true in
    λ d. inl (twice_at c.args.pairs.now c.args.at (c.args.at + 1) d (omega arith) next.0 (next.1 d))

pub returns : goal.returns
returns c = clash_of c.args.pairs.now c.args.at c.index-pairs-at.result c.bytes.result.now c.is_above.result c.bytes.ensures c.requires.sorted c.requires.clear c.requires.inside
    (c.is_repeated.ensures.no c.if-is_repeated.false) c.is_above.ensures
