use Rattle.std.proofs.Common.{◌≡◌, suc, ◌-◌, arith}
use Rattle.go_descent.specs.Levels.{levels}
use Rattle.go_stmt_descent.specs.go_simple_stmts.SimpleStatements.{simple}
use Rattle.go_stmt_descent.specs.Headers.{simple_at}
use Rattle.go_stmt_parts.proofs.Heights.{no_simple, reads_as, simple_below}
use Rattle.go_stmt_parts.proofs.headers.Headers.simple.Goals as goal
use Rattle.go_syntax.specs.grammar.Terminals.{terminals}

pub returns-then-self-eq0 : goal.returns-then-self-eq0
returns-then-self-eq0 c = no_simple c.args.composite c.args.self.now.readers.height (terminals c.args.tokens.now) (omega arith)

pub returns : goal.returns
returns c =
    let e : c.args.self.now.readers.height ≡ suc (c.args.self.now.readers.height - 1) = omega arith in
    reads_as (simple_at c.args.composite c.args.self.now.readers.height (terminals c.args.tokens.now)) (simple c.args.composite (levels (c.args.self.now.readers.height - 1)) (terminals c.args.tokens.now)) c.simple.result c.simple.new.tokens
    (simple_below c.args.composite c.args.self.now.readers.height (c.args.self.now.readers.height - 1) (terminals c.args.tokens.now) e) c.simple.ensures
