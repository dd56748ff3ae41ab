use Rattle.go_package_clauses.proofs.FolderNames.{name_told}
use Rattle.go_package_clauses.proofs.laws.package_of_outlines.Goals as goal

pub returns : goal.returns
returns c = λ p files sources said g n. name_told p files sources said g n
