use Rattle.std.proofs.Common.{sym, ◌∙◌}
use Rattle.api_breaks.proofs.SelectableLosses.{sels_foreign, sels_lost}
use Rattle.api_breaks.proofs.selectable.push_selectable.Goals as goal

pub returns-then-not-have_structs : goal.returns-then-not-have_structs
returns-then-not-have_structs c = sels_foreign c.args.old.now c.args.new.now c.args.pair.now c.args.losses.now.items (sym c.have_structs.ensures ∙ c.if-not-have_structs.true)

pub returns : goal.returns
returns c = sels_lost c.args.old.now c.args.new.now c.args.pair.now c.in_ok-sels.sels.items c.args.losses.now.items c.push_sels.new.losses.items (sym c.have_structs.ensures ∙ c.if-not-have_structs.false) c.in_ok-sels.ensures c.in_ok-push_sels.ensures
