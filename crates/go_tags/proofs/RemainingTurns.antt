-- Turns of a loop that are left.
use Rattle.std.proofs.Common.{◌≡◌, ℕ, zero, suc, ◌+◌, ◌-◌, ◌<◌, ◌≤◌, ap, ◌∙◌, arith}

-- one more turn is left
pub one_more : {A : Type 0} (f : ℕ → A) (end turn : ℕ) {whole : A} → turn < end → whole ≡ f (end - turn) → whole ≡ f (suc (end - (turn + 1)))
one_more f end turn more is = let same : end - turn ≡ suc (end - (turn + 1)) = omega arith in is ∙ ap f same

-- no turn is left
pub no_more : {A : Type 0} (f : ℕ → A) (end turn : ℕ) {whole : A} → end ≤ turn → whole ≡ f (end - turn) → whole ≡ f zero
no_more f end turn done is = let same : end - turn ≡ zero = omega arith in is ∙ ap f same

-- a level above the bottom
pub above : {A : Type 0} (f : ℕ → A) (depth : ℕ) → 0 < depth → f depth ≡ f (suc (depth - 1))
above f depth some = let same : depth ≡ suc (depth - 1) = omega arith in ap f same
