-- The parts of a file's name from the last one back.
use Rattle.std.specs.Prelude.{◌≡◌, ℕ, Option, None, Some, List, [], ◌∷◌, ◌==◌, reverse}
use Rattle.std.specs.List.{slice_split}

-- the parts that underscores join, from the last one back
abbrev pub parts_back : List ℕ → List (List ℕ)
parts_back text = reverse (slice_split (λ b. b == 95) text)

-- the text is one part, or a last part and the parts before it
abbrev pub IsCutAtLast : List ℕ → Option (List ℕ) → List ℕ → Type 0
IsCutAtLast text None last = parts_back text ≡ last ∷ []
IsCutAtLast text (Some before) last = parts_back text ≡ last ∷ parts_back before
