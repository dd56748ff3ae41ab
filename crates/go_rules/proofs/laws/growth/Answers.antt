use Rattle.std.proofs.Common.{subst}
use Rattle.go_rules.specs.Asks.{HasOperand, IsType}
use Rattle.go_rules.specs.Growth.{unflagged}
use Rattle.go_rules.proofs.GrowAsks.{grows_same, grows_twice, grows_unflagged, operand_more, whole_type_more}
use Rattle.go_rules.proofs.GrowTypes.{joined_is}
use Rattle.go_rules.proofs.laws.growth.Goals as goal

pub returns-clause-same : goal.returns-clause-same
returns-clause-same c = grows_same

pub returns-clause-twice : goal.returns-clause-twice
returns-clause-twice c = grows_twice

pub returns-clause-unflagged : goal.returns-clause-unflagged
returns-clause-unflagged c = grows_unflagged

pub returns-clause-expression : goal.returns-clause-expression
returns-clause-expression c = λ E e o a. subst (λ G. HasOperand G e o) (joined_is E (unflagged E) (grows_unflagged E)) (operand_more E (unflagged E) (grows_unflagged E) a)

pub returns-clause-of_type : goal.returns-clause-of_type
returns-clause-of_type c = λ E t u a. subst (λ G. IsType G t u) (joined_is E (unflagged E) (grows_unflagged E)) (whole_type_more E (unflagged E) (grows_unflagged E) a)
