-- The height below another.
use Rattle.std.proofs.Common.{◌≡◌, ℕ, zero, suc, ◌-◌, refl, arith}
use Rattle.go_function_literals.specs.Places.{below}

pub below_is : (h : ℕ) → below h ≡ h - 1
below_is zero = refl
below_is (suc h) = omega arith
