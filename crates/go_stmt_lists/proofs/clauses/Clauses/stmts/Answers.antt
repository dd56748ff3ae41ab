use Rattle.std.proofs.Common.{List, []}
use Rattle.go_cursor.specs.Reading.{Next, run, step_of}
use Rattle.go_descent.proofs.Chains.{handed_next, began, ran_out, found_none, found_one, no_item, bad_item, one_item}
use Rattle.go_stmt_descent.specs.Statements.{stmt_item, statements, stmts}
use Rattle.go_stmt_lists.proofs.clauses.Clauses.stmts.Goals as goal
use Rattle.go_syntax.specs.declared.statement.Stmt.{Stmt}
use Rattle.go_syntax.specs.grammar.Terminals.{Terminal, terminals}

pub loop-turn-init : goal.loop-turn-init
loop-turn-init g c =
    let item : List Terminal → Next Stmt = stmt_item (statements c.args.self.now.level.now.lower.readers.height).stmt in
    began (step_of item) [] c.new-stmts.result (terminals c.args.tokens.now) c.len-turn-end.result c.len-turn-end.ensures c.new-stmts.ensures

pub returns-in_err-stmt_item : goal.returns-in_err-stmt_item
unfolding stmts
returns-in_err-stmt_item g c =
    let item : List Terminal → Next Stmt = stmt_item (statements c.args.self.now.level.now.lower.readers.height).stmt in
    let ts : List Terminal = terminals c.loop-turn.tokens in
    handed_next (run (step_of item) [] (terminals c.args.tokens.now)) (item ts) ts c.in_err-stmt_item.field-0.0 c.from_residual.result c.stmt_item.new.tokens c.stmt_item.new.tokens c.from_residual.ensures.1 c.in_err-stmt_item.ensures
    (λ fail. bad_item (run (step_of item) [] (terminals c.args.tokens.now)) item c.len-turn-end.result c.loop-turn._turn c.loop-turn.stmts ts c.loop-turn-test.true c.loop-turn.invariant fail)

pub returns-in-None : goal.returns-in-None
unfolding stmts
returns-in-None g c =
    let item : List Terminal → Next Stmt = stmt_item (statements c.args.self.now.level.now.lower.readers.height).stmt in
    let ts : List Terminal = terminals c.loop-turn.tokens in
    no_item (run (step_of item) [] (terminals c.args.tokens.now)) item c.len-turn-end.result c.loop-turn._turn c.loop-turn.stmts ts c.loop-turn-test.true c.loop-turn.invariant (terminals c.stmt_item.new.tokens)
    (found_none (item ts) ts c.in_ok-stmt_item.field-0 c.stmt_item.new.tokens c.in_ok-stmt_item.ensures c.in-None.is)

pub loop-turn-preserved : goal.loop-turn-preserved
loop-turn-preserved g c =
    let item : List Terminal → Next Stmt = stmt_item (statements c.args.self.now.level.now.lower.readers.height).stmt in
    let ts : List Terminal = terminals c.loop-turn.tokens in
    one_item (run (step_of item) [] (terminals c.args.tokens.now)) item c.len-turn-end.result c.loop-turn._turn c.loop-turn.stmts ts c.loop-turn-test.true c.loop-turn.invariant c.in-Some.stmt (terminals c.stmt_item.new.tokens)
    (found_one (item ts) ts c.in_ok-stmt_item.field-0 c.stmt_item.new.tokens c.in_ok-stmt_item.ensures c.in-Some.stmt c.in-Some.is) c.push.new.self c.in_ok-push-in-Some.ensures.ok

pub returns : goal.returns
unfolding stmts
returns g c =
    let item : List Terminal → Next Stmt = stmt_item (statements c.args.self.now.level.now.lower.readers.height).stmt in
    let ts : List Terminal = terminals c.loop-turn.tokens in
    ran_out (run (step_of item) [] (terminals c.args.tokens.now)) (step_of item) c.len-turn-end.result c.loop-turn._turn c.loop-turn.stmts ts c.loop-turn-test.false c.loop-turn.invariant
