use Rattle.std.proofs.Common.{◌≡◌, ◌-◌, []}
use Rattle.go_tags.specs.inner.RecursiveDescent.{turns, all_turns, or_turn, and_of, or_below}
use Rattle.go_tags.proofs.expression.Grammar.ors.Given as goal

abbrev pub invariant-loop-turn : goal.invariant-loop-turn
invariant-loop-turn g l = all_turns (or_turn (and_of (or_below l.self.depth))) [] l.fn.parts ≡ turns (or_turn (and_of (or_below l.self.depth))) (l._turn-end - l._turn) l.operands l.parts
