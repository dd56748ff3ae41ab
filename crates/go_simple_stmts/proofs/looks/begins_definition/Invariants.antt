use Rattle.std.proofs.Common.{◌≡◌, ◌-◌, ◌≤◌, length}
use Rattle.go_syntax.specs.grammar.Terminals.{terminals}
use Rattle.go_simple_stmts.specs.SimpleStatements.{begins_definition}
use Rattle.go_simple_stmts.proofs.looks.begins_definition.Given as goal

abbrev pub invariant-loop-turn : goal.invariant-loop-turn
invariant-loop-turn l = (begins_definition (terminals l.fn.tokens) ≡ begins_definition (terminals l.ahead)) × (length (terminals l.ahead) ≤ l._turn-end - l._turn)
