use Rattle.std.proofs.Common.{subst}
use Rattle.go_selectors.specs.Answers.{Decides}
use Rattle.api_correspond.specs.Rules.{KeepsConstant}
use Rattle.api_breaks.proofs.PackageBreaks.{constant_kept, constant_lost}
use Rattle.api_breaks.proofs.packages.push_constant.Goals as goal

pub returns-then-keeps_constant : goal.returns-then-keeps_constant
returns-then-keeps_constant c = constant_kept c.args.path.now c.args.before.now c.args.after.now c.args.breaks.now.items (subst (λ b. Decides b (KeepsConstant c.args.before.now.entity c.args.after.now.entity)) c.if-keeps_constant.true c.keeps_constant.ensures)

pub returns : goal.returns
returns c = constant_lost c.args.path.now c.args.before.now c.args.after.now c.args.breaks.now.items c.push_of.new.breaks.items c.in_ok-of.of c.in_ok-old.old c.in_ok-new.new (subst (λ b. Decides b (KeepsConstant c.args.before.now.entity c.args.after.now.entity)) c.if-keeps_constant.false c.keeps_constant.ensures) c.in_ok-of.ensures c.in_ok-old.ensures c.in_ok-new.ensures c.in_ok-push_of.ensures
