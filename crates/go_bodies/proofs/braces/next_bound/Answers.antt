use Rattle.std.proofs.Common.{◌∙◌, sym, arith}
use Rattle.go_bodies.proofs.BraceSteps.{bound_behind, no_bound, same_bound}
use Rattle.go_bodies.proofs.braces.next_bound.Goals as goal
use Rattle.go_syntax.specs.grammar.Terminals.{terminals}

pub returns-then-not-begins : goal.returns-then-not-begins
returns-then-not-begins c = same_bound c.args.least (terminals c.args.tokens.now) (sym c.begins.ensures ∙ c.if-not-begins.true)

pub returns-then-least-start : goal.returns-then-least-start
returns-then-least-start c = bound_behind c.args.least c.from-start.result (terminals c.args.tokens.now) (sym c.begins.ensures ∙ c.if-not-begins.false) (c.from-start.ensures ∙ c.start.ensures) (omega arith)

pub returns-else-least-start : goal.returns-else-least-start
returns-else-least-start c = no_bound c.args.least c.from-start.result (terminals c.args.tokens.now) (sym c.begins.ensures ∙ c.if-not-begins.false) (c.from-start.ensures ∙ c.start.ensures) (omega arith)
