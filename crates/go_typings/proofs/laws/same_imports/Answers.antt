use Rattle.go_typings.proofs.HeldImports.{found_held}
use Rattle.go_typings.proofs.SameTypings.{refused_same, turned, typed_same, typing_same}
use Rattle.go_typings.proofs.laws.same_imports.Goals as goal

pub returns-clause-typing : goal.returns-clause-typing
returns-clause-typing c = λ u s t S a f m k. typing_same u s t m (found_held s.world u m.reached f m.are) S a k

pub returns-clause-typed : goal.returns-clause-typed
returns-clause-typed c = λ u s t p m k. typed_same u s t m p k

pub returns-clause-refused : goal.returns-clause-refused
returns-clause-refused c = λ u s t r m k. refused_same u s t m r k

pub returns-clause-turned : goal.returns-clause-turned
returns-clause-turned c = λ u s t m. turned u s t m
