use Rattle.std.proofs.Common.{◌≡◌}
use Rattle.std.specs.Prelude.{replicate}
use Rattle.go_model.specs.declared.types.package.Entity.TheVariants as entity
use Rattle.go_entries.proofs.variables.copies.Given as goal

abbrev pub invariant-loop-turn : goal.invariant-loop-turn
invariant-loop-turn l = l.variables ≡ replicate l._turn (entity.Var l.term)
