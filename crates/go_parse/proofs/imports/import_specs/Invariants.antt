use Rattle.std.proofs.Common.{◌≡◌, ◌-◌}
use Rattle.go_syntax.specs.grammar.Terminals.{terminals}
use Rattle.go_parse.specs.Declarations.{specs, import_spec}
use Rattle.go_cursor.specs.Reading.{loop, step_of, spec_item}
use Rattle.go_parse.proofs.imports.import_specs.Given as goal

abbrev pub invariant-loop-turn : goal.invariant-loop-turn
invariant-loop-turn l = specs import_spec (terminals l.fn.tokens) ≡ loop (step_of (spec_item import_spec)) (l._turn-end - l._turn) l.specs (terminals l.tokens)
