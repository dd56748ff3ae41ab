-- What functions that decide a fact answer.
-- Own: words on answers.
use Rattle.std.specs.Prelude.{◌≡◌, Bool, true, false}

-- the answer says whether the fact holds
abbrev pub Decides : Bool → Type 0 → Type 0
Decides r P = (r ≡ true → P) × (r ≡ false → P → ⊥)
