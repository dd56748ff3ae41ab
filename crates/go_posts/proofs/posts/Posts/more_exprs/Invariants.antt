use Rattle.std.proofs.Common.{◌≡◌, ◌-◌}
use Rattle.go_syntax.specs.grammar.Terminals.{terminals}
use Rattle.go_descent.specs.Levels.{levels}
use Rattle.go_cursor.specs.Reading.{run, loop, step_of}
use Rattle.go_descent.specs.Rules.{expr_item}
use Rattle.go_posts.proofs.posts.Posts.more_exprs.Given as goal

abbrev pub invariant-loop-turn : goal.invariant-loop-turn
invariant-loop-turn g l = run (step_of (expr_item (levels l.self.grammar.now.height).expr)) l.fn.first (terminals l.fn.tokens) ≡ loop (step_of (expr_item (levels l.self.grammar.now.height).expr)) (l._turn-end - l._turn) l.exprs (terminals l.tokens)
