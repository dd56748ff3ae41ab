use Rattle.std.proofs.Common.{◌≡◌, ◌++◌, drop, map}
use Rattle.go_declarations.specs.Listings.{declarations_of}
use Rattle.go_typings.specs.Declarations.{in_file, variables}
use Rattle.go_local_specs.proofs.listing.push_variables.Given as goal

abbrev pub invariant-loop-spec : goal.invariant-loop-spec
invariant-loop-spec l = declarations_of l.listed ++ map (in_file l.file) (map variables (drop l.spec-index l.specs)) ≡ declarations_of l.initial.listed ++ map (in_file l.file) (map variables l.specs)
