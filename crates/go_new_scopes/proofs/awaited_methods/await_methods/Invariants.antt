use Rattle.std.proofs.Common.{◌≡◌, drop}
use Rattle.go_declarations.specs.Listings.{declarations_of}
use Rattle.go_new_scopes.specs.inner.AwaitedMethods.{with_declarations}
use Rattle.go_new_scopes.proofs.awaited_methods.await_methods.Given as goal

abbrev pub invariant-loop-number : goal.invariant-loop-number
invariant-loop-number l =
    let ds = declarations_of l.declarations in
    record l.env { awaited = with_declarations ds l.env.path l.names l.methods l.env.awaited l.number (declarations_of (drop l.number l.declarations)) } ≡ record l.fn.env { awaited = with_declarations ds l.fn.env.path l.names l.methods l.fn.env.awaited 0 ds }
