-- A recursion on the turns that are left, beside a loop that counts them up.
use Rattle.std.proofs.Common.{◌≡◌, ℕ, suc, ◌+◌, ◌-◌, ◌<◌, ◌≤◌, List, Some, None, ap, ◌∙◌, arith}
use Rattle.go_syntax.specs.grammar.Terminals.{Terminal}
use Rattle.go_cursor.specs.Reading.{Next, Stop, Fail, More, turn, loop}

-- one turn is taken
pub one_more : {X : Type 0} {x : X} (f : ℕ → X) (turns at : ℕ) → at < turns → x ≡ f (turns - at) → x ≡ f (suc (turns - (at + 1)))
one_more f turns at below e = let left : turns - at ≡ suc (turns - (at + 1)) = omega arith in e ∙ ap f left

-- none is left
pub no_more : {X : Type 0} {x : X} (f : ℕ → X) (turns at : ℕ) → turns ≤ at → x ≡ f (turns - at) → x ≡ f 0
no_more f turns at done e = let none : turns - at ≡ 0 = omega arith in e ∙ ap f none

-- what a turn that stops, fails or goes on makes of the loop
module _ {A : Type 0} (step : A → List Terminal → Next A) (n : ℕ) (acc : A) (ts : List Terminal) where
  pub turn_stops : step acc ts ≡ Stop → loop step (suc n) acc ts ≡ Some (acc, ts)
  unfolding loop
  turn_stops e = ap (turn (loop step n) acc ts) e

  pub turn_fails : step acc ts ≡ Fail → loop step (suc n) acc ts ≡ None
  unfolding loop
  turn_fails e = ap (turn (loop step n) acc ts) e

  pub turn_goes_on : (b : A) (rest : List Terminal) → step acc ts ≡ More b rest → loop step (suc n) acc ts ≡ loop step n b rest
  unfolding loop
  turn_goes_on b rest e = ap (turn (loop step n) acc ts) e
