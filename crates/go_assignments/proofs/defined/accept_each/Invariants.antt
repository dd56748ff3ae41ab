use Rattle.std.proofs.Common.{drop}
use Rattle.go_assignments.specs.Definitions.{KeepsOuter}
use Rattle.go_assignments.proofs.Accepting.{Goes}
use Rattle.go_assignments.proofs.defined.accept_each.Given as goal

abbrev pub invariant-loop-offer : goal.invariant-loop-offer
invariant-loop-offer l = record { goes : Goes l.fn.env l.offers l.env (drop l.offer-index l.offers) l.any; kept : KeepsOuter l.fn.env l.env }
