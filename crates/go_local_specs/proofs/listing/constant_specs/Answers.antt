use Rattle.go_local_specs.proofs.ListedForms.{forms_listed}
use Rattle.go_typings.specs.Declarations.{constants_from, no_spec}
use Rattle.go_local_specs.proofs.listing.constant_specs.Goals as goal

pub returns : goal.returns
returns c = forms_listed 0 c.push_constants.new.listed c.new-listed.result (constants_from no_spec 0 c.args.specs.now) c.new-listed.ensures c.in_ok-push_constants.ensures
