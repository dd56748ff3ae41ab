use Rattle.go_rules.specs.Scopes.{env_of}
use Rattle.go_calls.proofs.Making.{fit_no_index, fit_no_second, fit_decides}
use Rattle.go_calls.proofs.makes.fit_two.Goals as goal

pub returns-in-None : goal.returns-in-None
returns-in-None c = fit_no_index (env_of c.args.context.now.env.now) c.args.size.now _ c.in-None.ensures

pub returns-in-None-index_of : goal.returns-in-None-index_of
returns-in-None-index_of c = fit_no_second (env_of c.args.context.now.env.now) c.args.size.now c.args.capacity.now c.in-None-index_of.ensures

pub returns-in-Some-index_of : goal.returns-in-Some-index_of
returns-in-Some-index_of c = fit_decides (env_of c.args.context.now.env.now) c.args.size.now c.args.capacity.now _ _ c.is_up_to.result c.in-Some.ensures c.in-Some-index_of.ensures c.is_up_to.ensures
