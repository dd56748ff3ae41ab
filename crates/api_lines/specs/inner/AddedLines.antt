-- What the functions that merge lists of lines in any order answer.
use Rattle.std.specs.Prelude.{◌≡◌, ℕ, List, [], ◌∷◌, Option, Some, None}
use Rattle.go_base.specs.Lists.{Has}
use Rattle.go_base.specs.Growing.{Grows}
use Rattle.go_model.specs.declared.files.platform.Platform.{Platform}
use Rattle.api_lines.specs.declared.line.Line.{Line}
use Rattle.api_lines.specs.Lines.{printed, in_context, HasText}

-- the texts of each list
abbrev pub AreTexts : List (List Line) → List (List (List ℕ)) → Type 0
AreTexts [] [] = Unit {0}
AreTexts [] (texts ∷ all) = ⊥
AreTexts (lines ∷ lists) [] = ⊥
AreTexts (lines ∷ lists) (texts ∷ all) = Grows (HasText lines) [] texts × AreTexts lists all

-- a line without context is to be common, and one in a context is to be none
abbrev pub Fits : List (List ℕ) → Option Platform → List ℕ → Type 0
Fits common None text = Has common text
Fits common (Some platform) text = Has common text → ⊥

-- the line that is added for another
abbrev pub IsAdded : List (List ℕ) → Option Platform → Line → Line → Type 0
IsAdded common context m l = Fits common context (printed m) × (in_context context m ≡ l)

-- a line that is added for one of a list
abbrev pub IsAddedFrom : List (List ℕ) → Option Platform → List Line → Line → Type 0
IsAddedFrom common context lines l = (m : Line) × Has lines m × IsAdded common context m l

-- a line that is added for one of a platform's list
abbrev pub IsAddedFromSome : List (List ℕ) → List (List Line × Platform) → Line → Type 0
IsAddedFromSome common pairs l = (pair : List Line × Platform) × Has pairs pair × IsAddedFrom common (Some pair.1) pair.0 l
