use Rattle.std.proofs.Common.{◌∙◌, sym}
use Rattle.api_correspond.proofs.Leading.{some_members}
use Rattle.api_correspond.proofs.leads.push_members.Goals as goal

pub returns : goal.returns
returns c = some_members c.args.old.now c.args.new.now c.args.pair.now c.args.pairs.now.items c.push_promoted_fields.new.pairs.items c.push_common_methods.new.pairs.items (sym c.have_members.ensures ∙ c.if-not-have_members.false) c.in_ok-push_promoted_fields.ensures c.in_ok-push_common_methods.ensures
