-- What is kept of an exact number.
use Rattle.std.proofs.Common.{◌≡◌, ℕ, Bool, true, false, ◌&&◌, refl, ap, ◌∙◌, None, Some, Option, ℤ}
use Rattle.std.specs.Bool.{if◌then◌else◌}
use Rattle.std.specs.Option.{option_map}
use Rattle.go_const.specs.inner.Bounds.{bounded}
use Rattle.go_model.specs.constants.Constants.{fits_128_bits, is_of, kept}
use Rattle.go_model.specs.declared.constants.value.Kind.{Kind}
use Rattle.go_model.specs.declared.constants.value.Value.{Value}
use Rattle.go_model.specs.declared.constants.value.Value.TheVariants as v

kept_test : (kind : Kind) (bits : ℕ) (x : ℤ) (t : Bool) → t ≡ fits_128_bits x → kept kind bits (option_map v.Int (if t then Some x else None)) ≡ kept kind bits (Some (v.Int x))
unfolding kept
kept_test kind bits x true e = refl
kept_test kind bits x false e = ap (λ b. if b && is_of (v.Int x) kind bits then Some (v.Int x) else None) e

pub kept_bounded : (kind : Kind) (bits : ℕ) (o : Option ℤ) → kept kind bits (option_map v.Int (bounded o)) ≡ kept kind bits (option_map v.Int o)
kept_bounded kind bits None = refl
kept_bounded kind bits (Some x) = kept_test kind bits x _ refl

pub kept_from : (kind : Kind) (bits : ℕ) (r o : Option ℤ) (answer : Option Value) → answer ≡ kept kind bits (option_map v.Int r) → r ≡ bounded o → answer ≡ kept kind bits (option_map v.Int o)
kept_from kind bits r o answer e f = e ∙ ap (λ p. kept kind bits (option_map v.Int p)) f ∙ kept_bounded kind bits o
