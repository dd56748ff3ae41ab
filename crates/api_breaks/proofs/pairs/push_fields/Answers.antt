use Rattle.std.proofs.Common.{sym, ◌∙◌}
use Rattle.api_breaks.proofs.PairLosses.{fields_foreign, fields_unstructured, fields_lost}
use Rattle.api_breaks.proofs.pairs.push_fields.Goals as goal

pub returns-then-not-are_of_module : goal.returns-then-not-are_of_module
returns-then-not-are_of_module c = fields_foreign c.args.old.now c.args.new.now c.args.pair.now c.args.losses.now.items (sym c.are_of_module.ensures ∙ c.if-not-are_of_module.true)

pub returns-then-not-are_structs : goal.returns-then-not-are_structs
returns-then-not-are_structs c = fields_unstructured c.args.old.now c.args.new.now c.args.pair.now c.args.losses.now.items c.under-first.result.now c.under-second.result.now c.under-first.ensures c.under-second.ensures (sym c.are_structs.ensures ∙ c.if-not-are_structs.true)

pub returns : goal.returns
returns c = fields_lost c.args.old.now c.args.new.now c.args.pair.now c.args.losses.now.items c.push_all_fields.new.losses.items c.under-first.result.now c.under-second.result.now c.fields_of-before.result.now c.fields_of-after.result.now (sym c.are_of_module.ensures ∙ c.if-not-are_of_module.false) c.under-first.ensures c.under-second.ensures (sym c.are_structs.ensures ∙ c.if-not-are_structs.false) c.fields_of-before.ensures c.fields_of-after.ensures c.in_ok-push_all_fields.ensures
