-- Words that are versions.
use Rattle.std.proofs.Common.{◌≡◌, ◌≢◌, ℕ, List, [], ◌∷◌, Bool, true, false, eqb-true, refl, ap}
use Rattle.std.specs.Prelude.{nat_eq, if◌then◌else◌}
use Rattle.api_words.specs.Words.{without_v}

kept : (b : ℕ) (bytes : List ℕ) (t : Bool) → nat_eq b 118 ≡ t → ((rest : List ℕ) → b ∷ bytes ≢ 118 ∷ rest) → b ∷ bytes ≡ (if t then bytes else b ∷ bytes)
kept b bytes true e none = absurd (none bytes (ap (λ c. c ∷ bytes) (eqb-true b 118 e)))
kept b bytes false e none = refl

-- a word that doesn't begin with `v` stays as it is
pub without_none : (word : List ℕ) → ((rest : List ℕ) → word ≢ 118 ∷ rest) → word ≡ without_v word
without_none [] none = refl
without_none (b ∷ bytes) none = kept b bytes (nat_eq b 118) refl none
