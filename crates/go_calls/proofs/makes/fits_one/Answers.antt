use Rattle.go_rules.specs.Scopes.{env_of}
use Rattle.go_calls.proofs.Making.{fit_one, fit_no_index}
use Rattle.go_calls.proofs.makes.fits_one.Goals as goal

pub returns-in-Some : goal.returns-in-Some
returns-in-Some c = fit_one (env_of c.args.context.now.env.now) c.args.size.now _ c.in-Some.ensures

pub returns-in-None : goal.returns-in-None
returns-in-None c = fit_no_index (env_of c.args.context.now.env.now) c.args.size.now _ c.in-None.ensures
