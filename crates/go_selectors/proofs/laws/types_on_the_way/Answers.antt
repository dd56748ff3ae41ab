use Rattle.go_selectors.proofs.Ways.{ends_agree, finds_same, finds_agree, set_agrees, from_back, agree_back}
use Rattle.go_selectors.proofs.laws.types_on_the_way.Goals as goal

pub returns-clause-ends : goal.returns-clause-ends
returns-clause-ends c = λ s A B at h depth. ends_agree s A B depth at h

pub returns-clause-from : goal.returns-clause-from
returns-clause-from c = λ s A B at h hidden r f. finds_same s A B at at (λ k. ends_agree s A B k at h) hidden r f

pub returns-clause-find : goal.returns-clause-find
returns-clause-find c = λ s A B t h r f. finds_agree s A B t h r f

pub returns-clause-method_set : goal.returns-clause-method_set
returns-clause-method_set c = λ s A B t h g i. set_agrees s A B t h g i

pub returns-clause-from_back : goal.returns-clause-from_back
returns-clause-from_back c = λ s A B at h. from_back s A B at h

pub returns-clause-back : goal.returns-clause-back
returns-clause-back c = λ s A B t h. agree_back s A B t h
