use Rattle.go_calls.proofs.Making.{slice_decides, map_decides, channel_decides}
use Rattle.go_calls.proofs.makes.takes_sizes.Goals as goal

pub returns-in-Slice : goal.returns-in-Slice
returns-in-Slice c = slice_decides c.args.under.now _ c.args.count _ c.in-Slice.is c.is_one_of.ensures

pub returns-in-Map : goal.returns-in-Map
returns-in-Map c = map_decides c.args.under.now _ _ c.args.count _ c.in-Map.is c.is_one_of-in-Map.ensures

pub returns-in-Chan : goal.returns-in-Chan
returns-in-Chan c = channel_decides c.args.under.now _ _ c.args.count _ c.in-Chan.is c.is_one_of-in-Chan.ensures
