use Rattle.std.proofs.Common.{◌≡◌, take}
use Rattle.go_declarations.specs.Listings.{declarations_of}
use Rattle.go_declared.specs.inner.AddingMethods.{with_forms}
use Rattle.go_declared.specs.inner.LastBases.{IsLast}
use Rattle.go_declared.proofs.filling.fill.Given as goal

abbrev pub invariant-loop-number : goal.invariant-loop-number
invariant-loop-number g l = (l.table ≡ with_forms g.T.MethodTable.with_method (declarations_of l.declarations) l.fn.table 0 (declarations_of (take l.number l.declarations))) × IsLast (declarations_of l.declarations) l.last
