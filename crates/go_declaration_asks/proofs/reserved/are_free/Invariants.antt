use Rattle.std.proofs.Common.{drop}
use Rattle.go_nodes.proofs.EachItems.{EachFrom}
use Rattle.go_declaration_asks.specs.inner.Names.{IsFreeName}
use Rattle.go_declaration_asks.proofs.reserved.are_free.Given as goal

abbrev pub invariant-loop-name : goal.invariant-loop-name
invariant-loop-name l = EachFrom (IsFreeName l.package_name) (drop l.name-index l.names) l.names
