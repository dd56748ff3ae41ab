use Rattle.std.proofs.Common.{◌≡◌, ◌-◌}
use Rattle.go_syntax.specs.grammar.Terminals.{terminals}
use Rattle.go_descent.specs.Rules.{interface_elem, interface_elems}
use Rattle.go_descent.specs.Levels.{levels}
use Rattle.go_cursor.specs.Reading.{loop, step_of, spec_item}
use Rattle.go_type_exprs.proofs.types.TypeExprs.interface_elems.Given as goal

abbrev pub invariant-loop-turn : goal.invariant-loop-turn
invariant-loop-turn g l = interface_elems (levels l.self.grammar.now.height) (terminals l.fn.tokens) ≡ loop (step_of (spec_item (interface_elem (levels l.self.grammar.now.height)))) (l._turn-end - l._turn) l.items (terminals l.tokens)
