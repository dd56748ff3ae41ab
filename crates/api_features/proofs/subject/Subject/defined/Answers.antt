use Rattle.api_features.proofs.OwnMethodSets.{held_type}
use Rattle.api_features.proofs.subject.Subject.defined.Goals as goal

pub returns-in-Some-clause-held : goal.returns-in-Some-clause-held
returns-in-Some-clause-held c = held_type c.args.self.now.world.now.packages c.args.self.now.path.now c.args.self.now.name.now c.in-Some.found.now c.defined_type.result c.in-Some.ensures.package c.in-Some.ensures.kept c.defined_type.ensures
