-- Bytes that zeros fill up. No public clause cites this module.
-- Own: how a short text stands in a value.
use Rattle.std.specs.Prelude.{◌≡◌, ◌≤◌, ◌-◌, ◌++◌, ℕ, List, length, take, replicate}

-- so many bytes, and zeros up to fourteen
pub record IsFilledUp (len : ℕ) (bytes : List ℕ) : Type 0 where
  pub fits : len ≤ 14
  pub whole : length bytes ≡ 14
  pub zeros : bytes ≡ take len bytes ++ replicate (14 - len) 0
