use Rattle.std.proofs.Common.{◌≡◌, ◌-◌, []}
use Rattle.go_syntax.specs.grammar.Terminals.{terminals}
use Rattle.go_descent.specs.Levels.{levels}
use Rattle.go_cursor.specs.Reading.{run, loop, step_of}
use Rattle.go_descent.specs.Rules.{post_item}
use Rattle.go_posts.proofs.posts.Posts.posts.Given as goal

abbrev pub invariant-loop-turn : goal.invariant-loop-turn
invariant-loop-turn g l = run (step_of (post_item (levels l.self.grammar.now.height))) [] (terminals l.fn.tokens) ≡ loop (step_of (post_item (levels l.self.grammar.now.height))) (l._turn-end - l._turn) l.posts (terminals l.tokens)
