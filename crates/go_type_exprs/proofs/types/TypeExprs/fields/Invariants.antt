use Rattle.std.proofs.Common.{◌≡◌, ◌-◌}
use Rattle.go_syntax.specs.grammar.Terminals.{terminals}
use Rattle.go_descent.specs.Rules.{field_of, fields}
use Rattle.go_descent.specs.Levels.{levels}
use Rattle.go_cursor.specs.Reading.{loop, step_of, spec_item}
use Rattle.go_type_exprs.proofs.types.TypeExprs.fields.Given as goal

abbrev pub invariant-loop-turn : goal.invariant-loop-turn
invariant-loop-turn g l = fields (levels l.self.grammar.now.height) (terminals l.fn.tokens) ≡ loop (step_of (spec_item (field_of (levels l.self.grammar.now.height)))) (l._turn-end - l._turn) l.items (terminals l.tokens)
