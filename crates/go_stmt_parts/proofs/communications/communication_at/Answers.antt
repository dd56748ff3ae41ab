use Rattle.std.proofs.Common.{◌≡◌, suc, ◌-◌, arith}
use Rattle.go_stmt_descent.specs.Communications.{communication, communication_at}
use Rattle.go_stmt_parts.proofs.Heights.{communication_below, no_communication, reads_as}
use Rattle.go_stmt_parts.proofs.communications.communication_at.Goals as goal
use Rattle.go_syntax.specs.grammar.Terminals.{terminals}

pub returns-then-readers-eq0 : goal.returns-then-readers-eq0
returns-then-readers-eq0 c = no_communication c.args.readers.now.height (terminals c.args.tokens.now) (omega arith)

pub returns : goal.returns
returns c =
    let e : c.args.readers.now.height ≡ suc (c.args.readers.now.height - 1) = omega arith in
    reads_as (communication_at c.args.readers.now.height (terminals c.args.tokens.now)) (communication (c.args.readers.now.height - 1) (terminals c.args.tokens.now)) c.communication.result c.communication.new.tokens
    (communication_below c.args.readers.now.height (c.args.readers.now.height - 1) (terminals c.args.tokens.now) e) c.communication.ensures
