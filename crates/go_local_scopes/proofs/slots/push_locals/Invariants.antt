use Rattle.std.proofs.Common.{◌≡◌, ◌++◌, drop}
use Rattle.go_statement_rules.specs.Scopes.{locals}
use Rattle.go_local_scopes.proofs.slots.push_locals.Given as goal

abbrev pub invariant-loop-term : goal.invariant-loop-term
invariant-loop-term l = l.meanings ++ locals (drop l.term-index l.terms) ≡ l.initial.meanings ++ locals l.terms
