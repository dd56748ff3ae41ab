use Rattle.std.proofs.Common.{◌≡◌, ◌-◌}
use Rattle.go_syntax.specs.grammar.Terminals.{terminals}
use Rattle.go_parse.specs.Declarations.{imports, import_item}
use Rattle.go_cursor.specs.Reading.{loop, step_all}
use Rattle.go_parse.proofs.imports.imports.Given as goal

abbrev pub invariant-loop-turn : goal.invariant-loop-turn
invariant-loop-turn l = imports (terminals l.fn.tokens) ≡ loop (step_all import_item) (l._turn-end - l._turn) l.imports (terminals l.tokens)
