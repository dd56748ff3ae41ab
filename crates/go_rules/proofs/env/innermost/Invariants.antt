use Rattle.std.proofs.Common.{◌≡◌}
use Rattle.go_rules.specs.Scopes.{innermost}
use Rattle.go_rules.proofs.env.innermost.Given as goal

abbrev pub invariant-loop-scope : goal.invariant-loop-scope
invariant-loop-scope l = innermost l.scope-iterator l.name ≡ innermost l.scopes l.name
