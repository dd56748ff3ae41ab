use Rattle.go_reading.proofs.OneFolderList.{own_side, std_side}
use Rattle.go_reading.proofs.PackageNames.{one_name}
use Rattle.go_unit_outcomes.proofs.TreeOutcomes.{tree_units_end}
use Rattle.go_unit_outcomes.proofs.laws.units_or_refusal.Goals as goal

pub returns : goal.returns
returns c = λ p barred tree std_tree bars is std.
    tree_units_end p barred tree std_tree (one_name c.one_header.ensures.header c.one_header.ensures.either p) (own_side p barred tree std_tree) (std_side p barred tree std_tree bars) is std
