use Rattle.std.proofs.Common.{◌≡◌, ◌++◌, drop, map}
use Rattle.go_declarations.specs.Listings.{declarations_of}
use Rattle.go_declarations.specs.inner.Repeating.{given_by}
use Rattle.go_typings.specs.Declarations.{constants_from, in_file, no_spec}
use Rattle.go_local_specs.proofs.listing.push_constants.Given as goal

abbrev pub invariant-loop-place : goal.invariant-loop-place
invariant-loop-place l = declarations_of l.listed ++ map (in_file l.file) (constants_from (given_by l.given) l.place (drop l.place l.specs)) ≡ declarations_of l.initial.listed ++ map (in_file l.file) (constants_from no_spec 0 l.specs)
