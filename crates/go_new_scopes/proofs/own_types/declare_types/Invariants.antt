use Rattle.std.proofs.Common.{◌≡◌, drop}
use Rattle.go_declarations.specs.Listings.{declarations_of}
use Rattle.go_new_scopes.specs.inner.OwnTypes.{with_declarations}
use Rattle.go_new_scopes.proofs.own_types.declare_types.Given as goal

abbrev pub invariant-loop-number : goal.invariant-loop-number
invariant-loop-number l =
    record l.env { declared = with_declarations l.env.path l.names l.env.declared l.number (declarations_of (drop l.number l.declarations)) } ≡ record l.fn.env { declared = with_declarations l.fn.env.path l.names l.fn.env.declared 0 (declarations_of l.declarations) }
