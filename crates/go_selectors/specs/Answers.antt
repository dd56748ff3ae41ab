-- What a test answers.
-- Own: words of the contracts inside this crate.
use Rattle.std.specs.Prelude.{Bool, true, false}

-- the test tells whether the fact holds
abbrev pub Decides : Bool → Type 0 → Type 0
Decides true P = P
Decides false P = P → ⊥
