use Rattle.std.proofs.Common.{sym, ◌∙◌}
use Rattle.api_breaks.proofs.InterfaceLosses.{interfaces_foreign, interfaces_other, interfaces_lost}
use Rattle.api_breaks.proofs.interfaces.push_interfaces.Goals as goal

pub returns-then-not-are_of_module : goal.returns-then-not-are_of_module
returns-then-not-are_of_module c = interfaces_foreign c.args.old.now c.args.new.now c.args.pair.now c.args.losses.now.items (sym c.are_of_module.ensures ∙ c.if-not-are_of_module.true)

pub returns-then-not-are_interfaces : goal.returns-then-not-are_interfaces
returns-then-not-are_interfaces c = interfaces_other c.args.old.now c.args.new.now c.args.pair.now c.args.losses.now.items c.under-first.result.now c.under-second.result.now c.under-first.ensures c.under-second.ensures (sym c.are_interfaces.ensures ∙ c.if-not-are_interfaces.true)

pub returns : goal.returns
returns c = interfaces_lost c.args.old.now c.args.new.now c.args.pair.now c.args.losses.now.items c.push_methods.new.losses.items c.under-first.result.now c.under-second.result.now c.methods_of-before.result.now c.methods_of-after.result.now (sym c.are_of_module.ensures ∙ c.if-not-are_of_module.false) c.under-first.ensures c.under-second.ensures (sym c.are_interfaces.ensures ∙ c.if-not-are_interfaces.false) c.methods_of-before.ensures c.methods_of-after.ensures c.in_ok-push_methods.ensures
