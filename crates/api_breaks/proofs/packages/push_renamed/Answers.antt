use Rattle.std.proofs.Common.{sym, ◌∙◌}
use mathlib.Core.Bool.{true≢false}
use Rattle.api_breaks.proofs.PackageBreaks.{name_kept, name_lost}
use Rattle.api_breaks.proofs.packages.push_renamed.Goals as goal

pub returns-then-is_same : goal.returns-then-is_same
returns-then-is_same c = name_kept c.args.path.now c.args.before.now c.args.after.now c.args.breaks.now.items (c.is_same.ensures.0 c.if-is_same.true)

pub returns : goal.returns
returns c = name_lost c.args.path.now c.args.before.now c.args.after.now c.args.breaks.now.items c.push.new.breaks.items c.in_ok-name.name (λ e. true≢false (sym (c.is_same.ensures.1 e) ∙ c.if-is_same.false)) c.in_ok-name.ensures c.in_ok-push.ensures
