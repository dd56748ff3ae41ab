use Rattle.go_client_typings.proofs.SamePlaces.{bodies_f, untyped_f}
use Rattle.go_client_typings.proofs.laws.same_bodies.Goals as goal

pub returns-clause-typed : goal.returns-clause-typed
returns-clause-typed c E F blocks f m a = bodies_f E F blocks m f a

pub returns-clause-untyped : goal.returns-clause-untyped
returns-clause-untyped c E F blocks f p m n a = untyped_f E F blocks f p m n a
