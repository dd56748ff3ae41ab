use Rattle.go_types.proofs.Agree.{ends_over, agree_in, finds_over, set_over, implements_over, assignable_over, convertible_over, comparable_over, agree_back, closed_back}
use Rattle.go_types.proofs.laws.agreeing_tables.Goals as goal

pub returns-clause-ends : goal.returns-clause-ends
returns-clause-ends c = λ P A B same closed s at depth w. ends_over P A B same closed s at depth w

pub returns-clause-way : goal.returns-clause-way
returns-clause-way c = λ P A B same closed s t w. agree_in P A B same closed s t w

pub returns-clause-find : goal.returns-clause-find
returns-clause-find c = λ P A B same closed s t r w f. finds_over P A B same closed s t r w f

pub returns-clause-method_set : goal.returns-clause-method_set
returns-clause-method_set c = λ P A B same closed t s g w i. set_over P A B same closed t s g w i

pub returns-clause-implements : goal.returns-clause-implements
returns-clause-implements c = λ P A B same closed t interface w v i. implements_over P A B same closed t interface w v i

pub returns-clause-assignable : goal.returns-clause-assignable
returns-clause-assignable c = λ P A B same closed profile t u w v a. assignable_over P A B same closed profile t u w v a

pub returns-clause-convertible : goal.returns-clause-convertible
returns-clause-convertible c = λ P A B same closed profile t u w v a. convertible_over P A B same closed profile t u w v a

pub returns-clause-comparable : goal.returns-clause-comparable
returns-clause-comparable c = λ P A B same closed t w k. comparable_over P A B same closed t w k

pub returns-clause-back : goal.returns-clause-back
returns-clause-back c = λ P A B same. agree_back P A B same

pub returns-clause-closed : goal.returns-clause-closed
returns-clause-closed c = λ P A B same closed. closed_back P A B same closed
