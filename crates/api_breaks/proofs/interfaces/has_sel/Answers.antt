use Rattle.std.proofs.Common.{refl, not}
use Rattle.api_breaks.proofs.InterfaceLosses.{sel_told}
use Rattle.api_breaks.proofs.interfaces.has_sel.Goals as goal

pub returns : goal.returns
returns c = sel_told c.args.methods.now c.args.places.now c.args.sel.now c.places_at.result.now c.is_empty.result (not c.is_empty.result) c.requires c.places_at.ensures c.is_empty.ensures refl
