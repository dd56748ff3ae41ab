use Rattle.go_stmt_parts.proofs.communications.+receive.Given as goal

abbrev pub decreases-receive : goal.decreases-receive
decreases-receive l = l.readers.height
