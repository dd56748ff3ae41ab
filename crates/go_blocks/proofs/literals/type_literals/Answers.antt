use Rattle.std.proofs.Common.{[]}
use Rattle.std.specs.Prelude.{IfOk}
use Rattle.go_blocks.proofs.Framed.{in_frame, iota_back, told_there}
use Rattle.go_judged.specs.Judging.{Judges}
use Rattle.go_local_scopes.specs.States.{around}
use Rattle.go_nodes.specs.Trees.{nodes_in}
use Rattle.go_untyped_places.specs.LiteralRuns.{IsLiteralRun}
use Rattle.go_switch_statements.specs.go_walks.Below.{blocks_of, enclosing_of}
use Rattle.go_switch_statements.specs.go_walks.Literals.{LiteralsTyped}
use Rattle.go_blocks.proofs.literals.type_literals.Goals as goal

pub returns-clause-same : goal.returns-clause-same
returns-clause-same c = iota_back c.args.env.now c.set_iota.new.self c.literals_here-judged.new.env c.set_iota-2.new.self c.iota-before.result c.set_iota.ensures c.literals_here-judged.ensures.same c.iota-before.ensures c.set_iota-2.ensures

pub returns-clause-judged : goal.returns-clause-judged
returns-clause-judged c =
    let e = c.args.env.now in
    let f = c.new-frame.result in
    let j = c.literals_here-judged.result in
    let ns = nodes_in c.args.trees in
    in_frame f c.args.blocks.now [] 0 c.new-frame.ensures.blocks c.new-frame.ensures.results c.new-frame.ensures.first (λ B r. IfOk j (Judges (around e) B (LiteralsTyped (around e) B r e.opened ns) (IsLiteralRun (around e) B r e.opened ns)))
    (told_there e c.set_iota.new.self c.set_iota.ensures j (λ E s. Judges E (blocks_of f) (LiteralsTyped E (blocks_of f) (enclosing_of f) s ns) (IsLiteralRun E (blocks_of f) (enclosing_of f) s ns)) c.literals_here-judged.ensures.judged)
