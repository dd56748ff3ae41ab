-- What flags tell of which of the lost declarations may be left out.
use Rattle.std.proofs.Common.{◌≡◌, ◌<◌, ℕ, Bool, true, false, List, length, refl, sym, ◌∙◌, ◌⊎◌, inl, inr}
use Rattle.std.specs.Prelude.{◌&&◌, ◌||◌, not}
use Rattle.go_exposed.specs.BeyondProfile.{IsBeyond}
use Rattle.go_exposed.specs.ExposedDeclarations.{IsExposed}
use Rattle.go_exposed.specs.ToldBeyond.{IsToldBeyond}
use Rattle.go_graphs.specs.Flags.{AreFlagsOf, is_flagged}
use Rattle.go_graphs.proofs.Flagging.{apart, either}
use Rattle.go_left_out.specs.Kept.{MayLeaveOut}
use Rattle.go_left_out.specs.WrongFlags.{is_wrong}
use Rattle.go_typings.specs.Declarations.{declarations}
use Rattle.go_typings.specs.PackageEnvironments.{Entries}
use Rattle.go_typings.specs.Sources.{PackageSource, Setting}

first_of : (l x : Bool) → (l && x) ≡ true → l ≡ true
first_of true x h = refl
first_of false x h = h

unless : (l e b : Bool) → (l && (e || not b)) ≡ true → e ≡ false → b ≡ false
unless true true b h f = apart f
unless true false true h f = sym h
unless true false false h f = refl
unless false e b h f = apart (sym h)

unseen : (l e b : Bool) → (l && (e || not b)) ≡ false → l ≡ true → e ≡ false
unseen true true b h f = h
unseen true false b h f = refl
unseen false e b h f = apart (sym f)

beyond_is : (l e b : Bool) → (l && (e || not b)) ≡ false → l ≡ true → b ≡ true
beyond_is true true b h f = apart h
beyond_is true false true h f = refl
beyond_is true false false h f = sym h
beyond_is false e b h f = apart (sym f)

-- a wrong one is lost
pub wrong_lost : (lost seen beyond : List Bool) (n : ℕ) → is_wrong lost seen beyond n ≡ true → is_flagged lost n ≡ true
wrong_lost lost seen beyond n h = first_of (is_flagged lost n) (is_flagged seen n || not (is_flagged beyond n)) h

module _ (s : Setting) (u : PackageSource) (a : Entries) (lost seen beyond : List Bool) (exposed : AreFlagsOf (length (declarations u)) (IsExposed u) seen) (told : AreFlagsOf (length (declarations u)) (IsToldBeyond s u a (is_flagged lost)) beyond)
    (tells : (n : ℕ) → IsToldBeyond s u a (is_flagged lost) n → IsBeyond s u n) (back : (n : ℕ) → IsBeyond s u n → IsToldBeyond s u a (is_flagged lost) n) where
  pub may_leave_out : (n : ℕ) → n < length (declarations u) → is_wrong lost seen beyond n ≡ false → is_flagged lost n ≡ true → MayLeaveOut s u n
  may_leave_out n l h f = (
    (λ x. apart (sym (exposed.complete n l x) ∙ unseen (is_flagged lost n) (is_flagged seen n) (is_flagged beyond n) h f)),
    tells n (told.sound n (beyond_is (is_flagged lost n) (is_flagged seen n) (is_flagged beyond n) h f)),
  )

  pub wrong_counts : (n : ℕ) → n < length (declarations u) → is_wrong lost seen beyond n ≡ true → IsExposed u n ⊎ (IsBeyond s u n → ⊥)
  wrong_counts n l h = elim (either (is_flagged seen n)) [
    | inl e ↦ inl (exposed.sound n e)
    | inr e ↦ inr (λ x. apart (sym (told.complete n l (back n x)) ∙ unless (is_flagged lost n) (is_flagged seen n) (is_flagged beyond n) h e))
  ]
