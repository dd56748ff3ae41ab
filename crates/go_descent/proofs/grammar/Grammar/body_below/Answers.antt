use Rattle.std.proofs.Common.{◌∙◌, sym}
use Rattle.go_syntax.specs.grammar.Terminals.{terminals}
use Rattle.go_descent.proofs.Heights.{no_body}
use Rattle.go_descent.proofs.BodyBelow.{body_above}
use Rattle.go_descent.proofs.grammar.Grammar.body_below.Goals as goal

pub returns-then-not-is_deep : goal.returns-then-not-is_deep
returns-then-not-is_deep g c = no_body c.args.self.now.height (terminals c.args.tokens.now) (sym c.is_deep.ensures ∙ c.if-not-is_deep.true)

pub returns : goal.returns
returns g c = body_above c.args.self.now.height (sym c.is_deep.ensures ∙ c.if-not-is_deep.false) (terminals c.args.tokens.now) c.skipped_body.result c.skipped_body.new.tokens c.skipped_body.ensures
