use Rattle.go_typings.proofs.HeldImports.{held_empty}
use Rattle.go_exposed.proofs.SameImports.{kept_same, offered_same, refused_same, with_nothing}
use Rattle.go_exposed.proofs.laws.same_imports.Goals as goal

pub returns-clause-kept : goal.returns-clause-kept
returns-clause-kept c = λ u s t S a e f m k. kept_same u s t (with_nothing u s t e f m) (held_empty s.world u m.reached m.are) S a k

pub returns-clause-offered : goal.returns-clause-offered
returns-clause-offered c = λ u s t p e f m o. offered_same u s t (with_nothing u s t e f m) (held_empty s.world u m.reached m.are) p o

pub returns-clause-refused : goal.returns-clause-refused
returns-clause-refused c = λ u s t r e f m k. refused_same u s t (with_nothing u s t e f m) (held_empty s.world u m.reached m.are) r k
