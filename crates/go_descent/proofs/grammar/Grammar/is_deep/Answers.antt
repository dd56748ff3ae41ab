use Rattle.std.proofs.Common.{◌≡◌, suc, ◌-◌, arith}
use Rattle.go_descent.proofs.Heights.{bottom_deep, higher_deep}
use Rattle.go_descent.proofs.grammar.Grammar.is_deep.Goals as goal

pub returns-then-self-eq0 : goal.returns-then-self-eq0
returns-then-self-eq0 g c = bottom_deep c.args.self.now.height (omega arith)

pub returns-else-self-eq0 : goal.returns-else-self-eq0
returns-else-self-eq0 g c =
    let e : c.args.self.now.height ≡ suc (c.args.self.now.height - 1) = omega arith in
    higher_deep c.args.self.now.height (c.args.self.now.height - 1) e
