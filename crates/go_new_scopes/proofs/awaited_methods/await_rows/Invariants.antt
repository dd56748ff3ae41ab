use Rattle.std.proofs.Common.{◌≡◌, drop}
use Rattle.go_declarations.specs.Listings.{declarations_of}
use Rattle.go_new_scopes.specs.inner.AwaitedMethods.{with_rows}
use Rattle.go_new_scopes.proofs.awaited_methods.await_rows.Given as goal

abbrev pub invariant-loop-row : goal.invariant-loop-row
invariant-loop-row l =
    record l.env { awaited = with_rows (declarations_of l.declarations) l.env.path l.type_name l.env.awaited (drop l.row-index l.rows) } ≡ record l.fn.env { awaited = with_rows (declarations_of l.declarations) l.fn.env.path l.type_name l.fn.env.awaited l.rows }
