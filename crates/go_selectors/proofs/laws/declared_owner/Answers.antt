use Rattle.go_model.specs.types.Selectors.{start}
use Rattle.go_selectors.proofs.Owners.{owned}
use Rattle.go_selectors.proofs.laws.declared_owner.Goals as goal

pub returns-clause-from : goal.returns-clause-from
returns-clause-from c = λ T s at hidden m f. owned T s at f.0 m.through_pointer m.owner m.pointer_receiver m.signature f.1

pub returns-clause-find : goal.returns-clause-find
returns-clause-find c = λ T s t m f. owned T s (start T t) f.0 m.through_pointer m.owner m.pointer_receiver m.signature f.1
