use Rattle.go_declarations.specs.Listings.{declarations_of}
use Rattle.go_graphs.specs.Flags.{AreFlagsOf}
use Rattle.go_inexact.specs.inner.NoneLost.{IsInexactThere}
use Rattle.go_package_scopes.specs.KeptScopes.{IsMoved}
use Rattle.go_inexact.proofs.constants.flags_there.Given as goal

abbrev pub invariant-loop-number : goal.invariant-loop-number
invariant-loop-number l = record {
  moved : IsMoved l.initial.env l.env;
  flags : AreFlagsOf l.number (IsInexactThere l.initial.env (declarations_of l.declarations) l.depends l.lost) l.flags.items;
}
