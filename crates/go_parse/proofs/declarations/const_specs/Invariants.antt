use Rattle.std.proofs.Common.{◌≡◌, ◌-◌}
use Rattle.go_syntax.specs.grammar.Terminals.{terminals}
use Rattle.go_parse.specs.Declarations.{specs, const_spec}
use Rattle.go_descent.specs.Levels.{levels}
use Rattle.go_cursor.specs.Reading.{loop, step_of, spec_item}
use Rattle.go_parse.proofs.declarations.const_specs.Given as goal

abbrev pub invariant-loop-turn : goal.invariant-loop-turn
invariant-loop-turn l = specs (const_spec (levels l.readers.height)) (terminals l.fn.tokens) ≡ loop (step_of (spec_item (const_spec (levels l.readers.height)))) (l._turn-end - l._turn) l.specs (terminals l.tokens)
