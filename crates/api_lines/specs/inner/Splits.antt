-- Lines that are taken from the fronts of two lists, and from both where these have the same one.
-- Own.
use Rattle.std.specs.Prelude.{◌≡◌, List, [], ◌∷◌, Option, Some, None}
use Rattle.go_base.specs.Lists.{Has}
use Rattle.api_lines.specs.declared.line.Line.{Line}
use Rattle.api_lines.specs.declared.split.Taken.{Taken}
use Rattle.api_lines.specs.declared.split.Taken.TheVariants as taken

-- what was taken, as a line that both lists had
abbrev pub of_both : Option Line → Taken
of_both None = taken.Nothing
of_both (Some l) = taken.Both l

-- the same as one that the first had alone
abbrev pub of_first : Option Line → Taken
of_first None = taken.Nothing
of_first (Some l) = taken.First l

-- the same as one that the second had alone
abbrev pub of_second : Option Line → Taken
of_second None = taken.Nothing
of_second (Some l) = taken.Second l

-- a first line is taken from both lists, or from the one that has it; or they are empty
abbrev pub IsSplitFirst : List Line → List Line → List Line → List Line → Taken → Type 0
IsSplitFirst old more new rest taken.Nothing = (old ≡ []) × (more ≡ [])
IsSplitFirst old more new rest (taken.Both l) = (old ≡ l ∷ new) × (more ≡ l ∷ rest)
IsSplitFirst old more new rest (taken.First l) = (old ≡ l ∷ new) × (rest ≡ more) × (Has more l → ⊥)
IsSplitFirst old more new rest (taken.Second l) = (new ≡ old) × (more ≡ l ∷ rest) × (Has old l → ⊥)
