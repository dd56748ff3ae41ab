use Rattle.std.proofs.Common.{◌≡◌, Some, subst}
use Rattle.std.specs.Prelude.{Ok, Result}
use Rattle.go_typings.proofs.Cells.{some_once}
use Rattle.go_taken_units.specs.TakenUnits.{TakesOver}
use Rattle.go_taken_units.proofs.taken.TakenUnits.next.Goals as goal

ok_once : {A E : Type 0} (x y : A) → ◌≡◌ {A = Result A E} (Ok x) (Ok y) → x ≡ y
ok_once x y e = cc

pub returns-in_ok-insert-in-Some-clause-takes : goal.returns-in_ok-insert-in-Some-clause-takes
returns-in_ok-insert-in-Some-clause-takes c = λ m e.
    subst (TakesOver c.args.self.now.earlier.now c.args.self.now.taken.keys c.args.«unit».now) (some_once c.in-Some.number m (ok_once (Some c.in-Some.number) (Some m) e)) (c.takes_over.ensures c.if-not-takes_over.false)
