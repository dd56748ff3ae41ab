use Rattle.go_declarations.specs.Listings.{declarations_of}
use Rattle.go_package_scopes.specs.KeptScopes.{IsMoved}
use Rattle.go_met.proofs.MetFlags.{AreMetBelow}
use Rattle.go_met.proofs.met.are_met.Given as goal

abbrev pub invariant-loop-number : goal.invariant-loop-number
invariant-loop-number l = record {
  moved : IsMoved l.initial.env l.env;
  met : AreMetBelow l.initial.env l.package_name (declarations_of l.declarations) l.number l.flags.items;
}
