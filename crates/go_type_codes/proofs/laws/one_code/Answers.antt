use Rattle.go_type_codes.proofs.PrefixFree.{pairs_told, some_code, types_told}
use Rattle.go_type_codes.proofs.laws.one_code.Goals as goal

pub returns-clause-told : goal.returns-clause-told
returns-clause-told c = types_told

pub returns-clause-some : goal.returns-clause-some
returns-clause-some c = some_code

pub returns-clause-pairs : goal.returns-clause-pairs
returns-clause-pairs c = pairs_told
