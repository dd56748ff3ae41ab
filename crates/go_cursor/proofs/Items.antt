-- A turn of a loop that takes one item more, after a comma say, where a test holds.
use Rattle.std.proofs.Common.{◌≡◌, ℕ, suc, ◌-◌, ◌∙◌, ◌++◌, ◌∷◌, [], Bool, true, false, if◌then◌else◌, List, length, drop, None, Some, ap, sym, arith}
use Rattle.go_syntax.specs.grammar.Terminals.{Terminal}
use Rattle.go_cursor.specs.Reading.{Found, Reader, Next, Stop, run, loop, put, after, step_of}
use Rattle.go_cursor.proofs.Turns.{turn_stops, turn_fails, turn_goes_on}

-- an item after a token, where the test holds
abbrev pub item : {A : Type 0} → (List Terminal → Bool) → Reader A → List Terminal → Next A
item test read ts = if test ts then after (read (drop 1 ts)) else Stop

module _ {A : Type 0} (test : List Terminal → Bool) (read : Reader A) (n : ℕ) (acc : List A) (ts : List Terminal) where
  chosen : (b : Bool) → test ts ≡ b → step_of (item test read) acc ts ≡ put acc (if b then after (read (drop 1 ts)) else Stop)
  chosen b e = ap (λ (t : Bool). put acc (if t then after (read (drop 1 ts)) else Stop)) e

  pub item_stops : test ts ≡ false → loop (step_of (item test read)) (suc n) acc ts ≡ Some (acc, ts)
  item_stops e = turn_stops (step_of (item test read)) n acc ts (chosen false e)

  pub item_fails : (us : List Terminal) → test ts ≡ true → us ≡ drop 1 ts → read us ≡ None → loop (step_of (item test read)) (suc n) acc ts ≡ None
  item_fails us e s q = turn_fails (step_of (item test read)) n acc ts (chosen true e ∙ ap (λ (r : Found A). put acc (after r)) (ap read (sym s) ∙ q))

  pub item_goes_on : (us : List Terminal) (a : A) (rest : List Terminal) → test ts ≡ true → us ≡ drop 1 ts → read us ≡ Some (a, rest) → loop (step_of (item test read)) (suc n) acc ts ≡ loop (step_of (item test read)) n (acc ++ a ∷ []) rest
  item_goes_on us a rest e s q = turn_goes_on (step_of (item test read)) n acc ts (acc ++ a ∷ []) rest (chosen true e ∙ ap (λ (r : Found A). put acc (after r)) (ap read (sym s) ∙ q))

-- before the first turn
pub starts : {A : Type 0} (step : A → List Terminal → Next A) (first : A) (ts : List Terminal) (turns : ℕ) → turns ≡ length ts → run step first ts ≡ loop step (turns - 0) first ts
unfolding run
starts step first ts turns n = let all : length ts ≡ turns - 0 = omega (arith, n) in ap (λ k. loop step k first ts) all
