use Rattle.std.proofs.Common.{sym, ◌∙◌, ◌≡◌}
use mathlib.Core.Bool.{true≢false}
use Rattle.api_breaks.proofs.InterfaceLosses.{serves_not, serves_any, serves_itself, decided}
use Rattle.api_breaks.proofs.interfaces.serves.Goals as goal

pub returns-then-not-same_sel : goal.returns-then-not-same_sel
returns-then-not-same_sel c = serves_not c.args.world.now c.args.method.now c.args.other.now (λ e. true≢false (sym (c.same_sel.ensures.1 e) ∙ c.if-not-same_sel.true))

pub returns-then-not-is_std_sel : goal.returns-then-not-is_std_sel
returns-then-not-is_std_sel c = serves_any c.args.world.now c.args.method.now c.args.other.now c.is_std_sel.result (c.same_sel.ensures.0 c.if-not-same_sel.false) c.is_std_sel.ensures c.if-not-is_std_sel.true

pub returns : goal.returns
returns c = serves_itself c.args.world.now c.args.method.now c.args.other.now c.is_std_sel.result c.is_same.result (c.same_sel.ensures.0 c.if-not-same_sel.false) c.is_std_sel.ensures c.if-not-is_std_sel.false (decided (c.args.other.now ≡ c.args.method.now) c.is_same.result c.is_same.ensures.0 c.is_same.ensures.1)
