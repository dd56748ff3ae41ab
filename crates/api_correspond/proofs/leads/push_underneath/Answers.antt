use Rattle.std.proofs.Common.{◌∙◌, sym}
use Rattle.api_correspond.proofs.Leading.{some_underneath}
use Rattle.api_correspond.proofs.leads.push_underneath.Goals as goal

pub returns : goal.returns
returns c = some_underneath c.args.old.now c.args.new.now c.args.pair.now c.args.pairs.now.items c.push_parts.new.pairs.items c.under-before.result.now c.under-after.result.now c.under-before.ensures c.under-after.ensures (sym c.are_of_module.ensures ∙ c.if-not-are_of_module.false) (sym c.is_structured.ensures ∙ c.if-is_structured.false) c.in_ok-push_parts.ensures
