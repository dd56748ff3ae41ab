use Rattle.go_unit_laws.proofs.AlikeUnits.{same_units}
use Rattle.go_unit_laws.proofs.laws.alike_units.Goals as goal

pub returns : goal.returns
returns c = λ p q barred tree std_tree r a b h. same_units c.files_by_name.ensures.sound barred tree std_tree p q r a b h
