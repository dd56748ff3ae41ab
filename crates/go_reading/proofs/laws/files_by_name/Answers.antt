use Rattle.go_reading.proofs.FilesByName.{sorted, by_name_from, by_name_to}
use Rattle.go_reading.proofs.laws.files_by_name.Goals as goal

pub returns : goal.returns
returns c = record { ordered = sorted; sound = by_name_from; complete = by_name_to }
