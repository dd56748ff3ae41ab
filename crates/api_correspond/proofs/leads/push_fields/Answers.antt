use Rattle.std.proofs.Common.{ap, ◌∙◌, sym}
use Rattle.go_model.specs.types.Underlying.{fields_of}
use Rattle.api_correspond.proofs.Leading.{some_top_fields}
use Rattle.api_correspond.proofs.leads.push_fields.Goals as goal

pub returns : goal.returns
returns c = some_top_fields c.args.old.now c.args.new.now c.args.pair.now c.args.pairs.now.items c.push_common_fields.new.pairs.items c.fields_of-before.result.now c.fields_of-after.result.now (c.fields_of-before.ensures ∙ ap fields_of c.under-first.ensures) (c.fields_of-after.ensures ∙ ap fields_of c.under-second.ensures) (sym c.are_of_module.ensures ∙ c.if-not-are_of_module.false) c.in_ok-push_common_fields.ensures
