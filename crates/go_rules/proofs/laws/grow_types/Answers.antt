use Rattle.std.proofs.Common.{subst}
use Rattle.go_rules.specs.Environments.{Entered, Found, HasMethod}
use Rattle.go_rules.specs.Expressions.{IsTypeName}
use Rattle.go_rules.specs.Usability.{Assignable, Compares, Convertible, Implements, UsableAs}
use Rattle.go_rules.proofs.GrowRelations.{assignable_more, compares_more, convertible_more, implements_more, usable_more}
use Rattle.go_rules.proofs.GrowResults.{type_name_more}
use Rattle.go_rules.proofs.GrowTypes.{entered_more, found_more, joined_is, method_more, under_more}
use Rattle.go_rules.proofs.laws.grow_types.Goals as goal

pub returns-clause-underneath : goal.returns-clause-underneath
returns-clause-underneath c = λ E F t m h. under_more E F m t h

pub returns-clause-entered : goal.returns-clause-entered
returns-clause-entered c = λ E F t m h. subst (λ G. Entered G t) (joined_is E F m) (entered_more E F m t h)

pub returns-clause-found : goal.returns-clause-found
returns-clause-found c = λ E F s t x m a. subst (λ G. Found G s t x) (joined_is E F m) (found_more E F m a)

pub returns-clause-method : goal.returns-clause-method
returns-clause-method c = λ E F a t s g m h. subst (λ G. HasMethod G a t s g) (joined_is E F m) (method_more E F m h)

pub returns-clause-type_name : goal.returns-clause-type_name
returns-clause-type_name c = λ E F q t m h. subst (λ G. IsTypeName G q t) (joined_is E F m) (type_name_more E F m q t h)

pub returns-clause-implements : goal.returns-clause-implements
returns-clause-implements c = λ E F t u m h. subst (λ G. Implements G t u) (joined_is E F m) (implements_more E F m t u h)

pub returns-clause-assignable : goal.returns-clause-assignable
returns-clause-assignable c = λ E F t u m h. subst (λ G. Assignable G t u) (joined_is E F m) (assignable_more E F m h)

pub returns-clause-convertible : goal.returns-clause-convertible
returns-clause-convertible c = λ E F t u m h. subst (λ G. Convertible G t u) (joined_is E F m) (convertible_more E F m h)

pub returns-clause-compares : goal.returns-clause-compares
returns-clause-compares c = λ E F t m h. subst (λ G. Compares G t) (joined_is E F m) (compares_more E F m h)

pub returns-clause-usable : goal.returns-clause-usable
returns-clause-usable c = λ E F o t m h. subst (λ G. UsableAs G o t) (joined_is E F m) (usable_more E F m h)
