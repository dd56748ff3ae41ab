use Rattle.std.proofs.Common.{drop}
use Rattle.go_nodes.proofs.EachItems.{EachFrom}
use Rattle.go_declaration_asks.specs.inner.MethodsOf.{HasOtherName}
use Rattle.go_declaration_asks.proofs.methods.are_apart.Given as goal

abbrev pub invariant-loop-field : goal.invariant-loop-field
invariant-loop-field l = EachFrom (HasOtherName l.name) (drop l.field-index l.fields) l.fields
