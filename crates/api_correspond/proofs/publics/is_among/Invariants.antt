use Rattle.std.proofs.Common.{◌-◌, List, ℕ}
use Rattle.go_base.proofs.Ordered.{Narrowed}
use Rattle.api_correspond.proofs.publics.is_among.Given as goal

abbrev pub invariant-loop-low : goal.invariant-loop-low
invariant-loop-low l = Narrowed (λ (t : List ℕ). t) l.texts l.path l.low l.high

abbrev pub decreases-loop-low : goal.decreases-loop-low
decreases-loop-low l = l.high - l.low
