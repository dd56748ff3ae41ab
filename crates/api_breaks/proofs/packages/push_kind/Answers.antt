use Rattle.std.proofs.Common.{subst}
use Rattle.go_selectors.specs.Answers.{Decides}
use Rattle.api_correspond.specs.Rules.{KeepsKind}
use Rattle.api_breaks.proofs.PackageBreaks.{kind_kept, kind_lost}
use Rattle.api_breaks.proofs.packages.push_kind.Goals as goal

pub returns-then-keeps_kind : goal.returns-then-keeps_kind
returns-then-keeps_kind c = kind_kept c.args.path.now c.args.before.now c.args.after.now c.args.breaks.now.items (subst (λ b. Decides b (KeepsKind c.args.before.now.entity c.args.after.now.entity)) c.if-keeps_kind.true c.keeps_kind.ensures)

pub returns : goal.returns
returns c = kind_lost c.args.path.now c.args.before.now c.args.after.now c.args.breaks.now.items c.push_of.new.breaks.items c.sort_of.result c.sort_of-2.result (subst (λ b. Decides b (KeepsKind c.args.before.now.entity c.args.after.now.entity)) c.if-keeps_kind.false c.keeps_kind.ensures) c.sort_of.ensures c.sort_of-2.ensures c.in_ok-push_of.ensures
