use Rattle.std.proofs.Common.{◌≡◌, arith}
use Rattle.go_graphs.specs.inner.Components.{level_of}
use Rattle.go_graphs.proofs.LevelWalks.{leads_past, no_higher}
use Rattle.go_graphs.proofs.circles.leads.Goals as goal

pub returns-then-from-rows-clause-no : goal.returns-then-from-rows-clause-no
returns-then-from-rows-clause-no c e w = leads_past c.if-from-rows.true c.requires.to w

pub returns-then-low-high-clause-no : goal.returns-then-low-high-clause-no
returns-then-low-high-clause-no c e w =
    let are = c.requires.right c.if-not-are_right.false in
    let h = no_higher c.args.rows.now c.args.levels.now are.never_rises w in
    omega (arith, h, c.level-high.ensures, c.level-low.ensures, c.if-low-high.true)

pub returns-then-low-high-2-clause-yes : goal.returns-then-low-high-2-clause-yes
returns-then-low-high-2-clause-yes c e =
    let are = c.requires.right c.if-not-are_right.false in
    let q : level_of c.args.levels.now c.args.from ≡ level_of c.args.levels.now c.args.to = cc in
    are.leads_within c.args.from c.args.to c.if-from-rows.false c.requires.to q
