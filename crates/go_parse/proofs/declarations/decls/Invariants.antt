use Rattle.std.proofs.Common.{◌≡◌, ◌-◌}
use Rattle.go_syntax.specs.grammar.Terminals.{terminals}
use Rattle.go_parse.specs.Declarations.{decls, decl_item}
use Rattle.go_descent.specs.Levels.{levels}
use Rattle.go_cursor.specs.Reading.{loop, step_of}
use Rattle.go_parse.proofs.declarations.decls.Given as goal

abbrev pub invariant-loop-turn : goal.invariant-loop-turn
invariant-loop-turn l = decls (levels l.readers.height) (terminals l.fn.tokens) ≡ loop (step_of (decl_item (levels l.readers.height))) (l._turn-end - l._turn) l.decls (terminals l.tokens)
