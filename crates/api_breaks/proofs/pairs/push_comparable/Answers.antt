use Rattle.std.proofs.Common.{subst}
use Rattle.go_selectors.specs.Answers.{Decides}
use Rattle.api_correspond.specs.Rules.{CoversComparable, KeepsComparable}
use Rattle.api_breaks.proofs.PairLosses.{comparable_free, comparable_kept, comparable_lost}
use Rattle.api_breaks.proofs.pairs.push_comparable.Goals as goal

pub returns-then-not-was : goal.returns-then-not-was
returns-then-not-was c = comparable_free c.args.old.now c.args.new.now c.args.pair.now c.args.losses.now.items (subst (λ b. Decides b (CoversComparable c.args.old.now c.args.new.now c.args.pair.now)) c.if-not-was.true c.in_ok-was.ensures)

pub returns-then-after : goal.returns-then-after
returns-then-after c = comparable_kept c.args.old.now c.args.new.now c.args.pair.now c.args.losses.now.items (subst (λ b. Decides b (KeepsComparable c.args.new.now c.args.pair.now)) c.if-after.true c.in_ok-after.ensures)

pub returns : goal.returns
returns c =
    comparable_lost c.args.old.now c.args.new.now c.args.pair.now c.args.losses.now.items c.push.new.self.items (subst (λ b. Decides b (CoversComparable c.args.old.now c.args.new.now c.args.pair.now)) c.if-not-was.false c.in_ok-was.ensures)
    (subst (λ b. Decides b (KeepsComparable c.args.new.now c.args.pair.now)) c.if-after.false c.in_ok-after.ensures) c.in_ok-push.ensures.items
