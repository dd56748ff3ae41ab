-- Answers of tests, from the answers of others.
use Rattle.std.proofs.Common.{◌≡◌, Bool, true, false, Option, None, Some, Result, Ok, Err, sym, subst}
use Rattle.std.specs.Prelude.{IfOk, is_some}
use Rattle.go_base.specs.declared.memory.NoMemory.{NoMemory}
use Rattle.go_selectors.specs.Answers.{Decides}
use Rattle.go_usability.specs.Answers.{Gives}

module _ (P Q : Type 0) where
  decided : (b : Bool) → (P → Q) → (Q → P) → Decides b P → Decides b Q
  decided true to from d = to d
  decided false to from d = λ q. d (from q)

  -- what decides a fact decides one that holds exactly where it does
  pub decided_so : (b : Bool) → (P → Q) → (Q → P) → Decides b P → Decides b Q
  decided_so b to from d = decided b to from d

  pub decided_as : (r : Result Bool NoMemory) → (P → Q) → (Q → P) → IfOk r (λ b. Decides b P) → IfOk r (λ b. Decides b Q)
  decided_as (Ok b) to from d = decided b to from d
  decided_as (Err e) to from d = tt

-- whether there is what a fact holds of, by whether it was given
pub gives_decides : {A : Type 0} (P : A → Type 0) (o : Option A) → Gives P o → (b : Bool) → b ≡ is_some o → Decides b ((a : A) × P a)
gives_decides {A = A} P o g b e = subst (λ (c : Bool). Decides c ((a : A) × P a)) (sym e) (by o g)
  where
    by : (r : Option A) → Gives P r → Decides (is_some r) ((a : A) × P a)
    by None h = λ w. h w.0 w.1
    by (Some a) h = (a, h)
