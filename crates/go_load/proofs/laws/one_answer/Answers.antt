use Rattle.go_load.proofs.OneAnswer.{agree_module, agree_files}
use Rattle.go_load.proofs.laws.one_answer.Goals as goal

pub returns-clause-module_answer : goal.returns-clause-module_answer
returns-clause-module_answer c = agree_module

pub returns-clause-files_answer : goal.returns-clause-files_answer
returns-clause-files_answer c = agree_files
