-- What a scan of a header keeps of its comments.
use Rattle.std.specs.Prelude.{◌≡◌, ◌≤◌, ℕ, true, List, [], ◌∷◌, length}
use Rattle.go_base.specs.Comments.{IsFront}
use Rattle.go_model.specs.files.Headers.{build_texts, has_plus_line, opening_comments}
use Rattle.go_tags.specs.declared.lines.BuildLines.{BuildLines}
use Rattle.go_tags.specs.declared.lines.BuildLines.TheVariants.{Nothing, One, Several}
use Rattle.go_tags.specs.declared.lines.Lines.{Lines}

-- how many build lines there are, and the rest of a lone one
abbrev pub Counts : List (List ℕ) → BuildLines → Type 0
Counts texts Nothing = texts ≡ []
Counts texts (One text) = texts ≡ text.now ∷ []
Counts texts Several = 2 ≤ length texts

-- the comments have these build lines, and a plus line or none
abbrev pub Sums : List (List ℕ) → Lines → Type 0
Sums comments lines = Counts (build_texts comments) lines.build × (lines.has_plus ≡ has_plus_line comments)

-- the bytes' header has these lines, and this rest behind it
abbrev pub IsScan : List ℕ → Lines → List ℕ → Type 0
IsScan bytes lines rest = (pieces : List (List ℕ)) × IsFront bytes pieces rest × Sums (opening_comments true pieces) lines
