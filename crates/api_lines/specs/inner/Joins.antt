-- Lines that are taken from the fronts of two lists.
use Rattle.std.specs.Prelude.{◌≡◌, ◌⊎◌, List, [], ◌∷◌, Option, Some, None}
use Rattle.std.specs.Ordering.{nat_cmp}
use Rattle.std.specs.Cmp.Lexicographic.{slice_cmp}
use Rattle.std.specs.declared.cmp.Ordering.TheVariants.{Less}
use Rattle.go_base.specs.Lists.{Each}
use Rattle.api_lines.specs.declared.line.Line.{Line}
use Rattle.api_lines.specs.Lines.{printed, IsOfEither}

-- the text of the line comes before those of all these
abbrev pub IsBeforeAll : Line → List Line → Type 0
IsBeforeAll l lines = Each (λ m. slice_cmp nat_cmp (printed l) (printed m) ≡ Less) lines

-- what is left of a list without the line's text, which comes before all of it
abbrev pub IsLeft : Line → List Line → List Line → Type 0
IsLeft l old new = ((new ≡ old) ⊎ ((m : Line) × (old ≡ m ∷ new) × (printed m ≡ printed l))) × IsBeforeAll l new

-- a line of one list or the other is taken from both; or they are empty
abbrev pub IsTakenFirst : List Line → List Line → List Line → List Line → Option Line → Type 0
IsTakenFirst old more new rest None = (old ≡ []) × (more ≡ [])
IsTakenFirst old more new rest (Some l) = IsOfEither old more l × IsLeft l old new × IsLeft l more rest
