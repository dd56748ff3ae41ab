-- The head of a text: its first eight bytes as a number, the highest byte first, with zeros after a shorter text.
-- Own: words of the contracts inside this crate.
use Rattle.std.specs.Prelude.{◌≡◌, ◌<◌, ℕ, List, slice_index}
use Rattle.std.specs.Int.{from_be_bytes, w64}

abbrev pub IsHead : List ℕ → ℕ → Type 0
IsHead text head = (head ≡ from_be_bytes w64 text) × ((i : ℕ) → i < 8 → slice_index text i < 256)
