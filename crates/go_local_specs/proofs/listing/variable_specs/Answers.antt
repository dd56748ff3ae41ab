use Rattle.go_local_specs.proofs.ListedForms.{forms_listed}
use Rattle.go_typings.specs.Declarations.{variables}
use Rattle.std.proofs.Common.{map}
use Rattle.go_local_specs.proofs.listing.variable_specs.Goals as goal

pub returns : goal.returns
returns c = forms_listed 0 c.push_variables.new.listed c.new-listed.result (map variables c.args.specs.now) c.new-listed.ensures c.in_ok-push_variables.ensures
