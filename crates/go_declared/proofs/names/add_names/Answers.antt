use Rattle.std.proofs.Common.{ap, get_or}
use Rattle.go_declared.proofs.Declared.{names_next}
use Rattle.go_declared.proofs.names.add_names.Goals as goal

pub loop-place-preserved : goal.loop-place-preserved
loop-place-preserved c =
    names_next c.args.entries.now.items c.loop-place.entries.items c.add.new.entries.items c.args.number c.loop-place.place (get_or c.args.names.now c.loop-place.place c.index-names-place.result) c.args.names.now c.loop-place-test.true (ap (get_or c.args.names.now c.loop-place.place) c.index-names-place.is) c.loop-place.invariant c.in_ok-add.ensures
