use Rattle.go_model.specs.types.Comparison.{at_slice, at_map, at_func}
use Rattle.go_types.proofs.Levels.{under_slice, under_map, under_func, under_array, under_struct}
use Rattle.go_types.proofs.Walks.{looked_array, looked_struct}
use Rattle.go_types.proofs.comparison.look.Goals as goal

pub returns-in-Slice : goal.returns-in-Slice
returns-in-Slice g c = at_slice (under_slice _ _ _ c.under.ensures _ c.in-Slice.is)

pub returns-in-Map : goal.returns-in-Map
returns-in-Map g c = at_map (under_map _ _ _ c.under.ensures _ _ c.in-Map.is)

pub returns-in-Func : goal.returns-in-Func
returns-in-Func g c = at_func (under_func _ _ _ c.under.ensures _ c.in-Func.is)

pub returns-in_ok-push-in-Array : goal.returns-in_ok-push-in-Array
returns-in_ok-push-in-Array g c = looked_array (g.T.TypeTable.lookup c.args.types.now.table.now) c.args.term.now _ _ _ c.args.all.now.items c.push.new.all.items c.args.seen.now.keys c.push.new.seen.keys (under_array _ _ _ c.under.ensures _ _ c.in-Array.is) c.value.ensures c.in_ok-push-in-Array.ensures

pub returns-in_ok-push_fields-in-Struct : goal.returns-in_ok-push_fields-in-Struct
returns-in_ok-push_fields-in-Struct g c = looked_struct (g.T.TypeTable.lookup c.args.types.now.table.now) c.args.term.now _ _ c.args.all.now.items c.push_fields.new.all.items c.args.seen.now.keys c.push_fields.new.seen.keys (under_struct _ _ _ c.under.ensures _ c.in-Struct.is) c.items.ensures c.in_ok-push_fields-in-Struct.ensures
