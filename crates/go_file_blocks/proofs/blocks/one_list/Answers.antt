use Rattle.go_file_blocks.proofs.FileOutcomes.{same_blocks}
use Rattle.go_file_blocks.proofs.blocks.one_list.Goals as goal

pub returns : goal.returns
returns c = record { same = λ tokens f bs cs d e. same_blocks tokens f bs cs d e }
