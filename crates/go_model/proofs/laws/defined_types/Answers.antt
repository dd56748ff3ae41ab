use Rattle.go_model.proofs.WorldTypes.{told}
use Rattle.go_model.proofs.laws.defined_types.Goals as goal

pub returns-clause-named : goal.returns-clause-named
returns-clause-named c = λ w i n d e. (told w i n d e).named

pub returns-clause-kept : goal.returns-clause-kept
returns-clause-kept c = λ w i n d e. (told w i n d e).kept

pub returns-clause-declared : goal.returns-clause-declared
returns-clause-declared c = λ w i n d e. (told w i n d e).declared

pub returns-clause-formed : goal.returns-clause-formed
returns-clause-formed c = λ w i n d e. (told w i n d e).formed
