use Rattle.std.proofs.Common.{true, false}
use Rattle.go_types.proofs.Walks.{next_walk, walked, part_leads, looked_so}
use Rattle.go_types.proofs.comparison.decide.Goals as goal

pub returns-then-not-branch : goal.returns-then-not-branch
returns-then-not-branch g c = λ comparable. comparable (part_leads (g.T.TypeTable.lookup c.args.types.now.table.now) c.args.term.now c.loop-at.at c.loop-at.all.items c.look.new.all.items c.loop-at.seen.keys c.look.new.seen.keys c.in-Some.part.now c.loop-at.invariant c.in-Some.ensures.0 c.in-Some.ensures.1 (looked_so _ _ _ _ _ _ _ false c.if-not-branch.true c.in_ok-look-in-Some.ensures))

pub returns-in-None : goal.returns-in-None
returns-in-None g c = walked (g.T.TypeTable.lookup c.args.types.now.table.now) c.args.term.now c.loop-at.at c.loop-at.all.items c.loop-at.seen.keys c.loop-at.invariant c.in-None.ensures

pub loop-at-preserved : goal.loop-at-preserved
loop-at-preserved g c = next_walk (g.T.TypeTable.lookup c.args.types.now.table.now) c.args.term.now c.loop-at.at c.loop-at.all.items c.look.new.all.items c.loop-at.seen.keys c.look.new.seen.keys c.in-Some.part.now c.loop-at.invariant c.in-Some.ensures.0 c.in-Some.ensures.1 (looked_so _ _ _ _ _ _ _ true c.if-not-branch.false c.in_ok-look-in-Some.ensures)
