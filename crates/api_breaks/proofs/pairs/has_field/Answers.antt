use Rattle.std.proofs.Common.{refl, not}
use Rattle.api_breaks.proofs.PairLosses.{field_told}
use Rattle.api_breaks.proofs.pairs.has_field.Goals as goal

pub returns : goal.returns
returns c = field_told c.args.fields.now c.args.places.now c.args.sel.now c.places_at.result.now c.is_empty.result (not c.is_empty.result) c.requires c.places_at.ensures c.is_empty.ensures refl
