use Rattle.std.proofs.Common.{take, ◌+◌, sym, ◌∙◌}
use mathlib.Core.Bool.{true≢false}
use Rattle.go_selectors.proofs.Lists.{taken_next, item_has}
use Rattle.api_breaks.proofs.InterfaceLosses.{is_sealing_method, none_yet, none_at_all}
use Rattle.api_breaks.proofs.interfaces.has_sealing.Goals as goal

pub loop-method-init : goal.loop-method-init
loop-method-init c = λ h. h.1

pub returns-then-is_sealing : goal.returns-then-is_sealing
returns-then-is_sealing c = (c.method-item.result, item_has c.args.methods.now c.loop-method.method-index c.method-item.result c.loop-method-test.true c.method-item.is, sym c.is_sealing.ensures ∙ c.if-is_sealing.true)

pub loop-method-preserved : goal.loop-method-preserved
loop-method-preserved c = none_yet (is_sealing_method c.args.world.now) (take c.loop-method.method-index c.args.methods.now) (take (c.loop-method.method-index + 1) c.args.methods.now) c.method-item.result (taken_next c.args.methods.now c.loop-method.method-index c.method-item.result c.loop-method-test.true c.method-item.is) c.loop-method.invariant (λ e. true≢false (sym e ∙ sym c.is_sealing.ensures ∙ c.if-is_sealing.false))

pub returns : goal.returns
returns c = none_at_all (is_sealing_method c.args.world.now) c.args.methods.now c.loop-method.method-index c.loop-method-test.false c.loop-method.invariant
