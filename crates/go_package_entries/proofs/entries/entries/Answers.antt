use Rattle.std.proofs.Common.{subst, sym}
use Rattle.go_settling.specs.Settling.{AreFromBelow}
use Rattle.go_package_entries.specs.PackageStates.{setting_in, source_in}
use Rattle.go_package_entries.proofs.entries.entries.Goals as goal

pub settle_all-requires-clause-below : goal.settle_all-requires-clause-below
settle_all-requires-clause-below c =
    let p = c.in_ok-entries.entries in
    subst (AreFromBelow (setting_in p) (source_in p)) (sym c.in_ok-entries.ensures.none) (c.nothing_had.ensures (setting_in p) (source_in p))
