-- What the functions that merge lists of lines answer.
use Rattle.std.specs.Prelude.{◌≡◌, ℕ, List, Some}
use Rattle.std.specs.Ordering.{nat_cmp}
use Rattle.std.specs.Cmp.Lexicographic.{slice_cmp}
use Rattle.std.specs.declared.cmp.Ordering.TheVariants.{Less}
use Rattle.go_base.specs.Lists.{Has, Each}
use Rattle.go_model.specs.declared.files.platform.Platform.{Platform}
use Rattle.api_lines.specs.declared.line.Line.{Line}
use Rattle.api_lines.specs.Lines.{printed, in_context, AreInOrder, HasText}

-- the texts of all these lines come before the text
abbrev pub AreBefore : List ℕ → List Line → Type 0
AreBefore text lines = Each (λ l. slice_cmp nat_cmp (printed l) text ≡ Less) lines

-- exactly the lines with the property, in the order of their texts
pub record AreExactly (P : Line → Type 0) (lines : List Line) : Type 0 where
  pub sound : (l : Line) → Has lines l → P l
  pub complete : (l : Line) → P l → Has lines l
  pub ordered : AreInOrder lines

-- each list has the text
abbrev pub IsTextOnAll : List (List Line) → List ℕ → Type 0
IsTextOnAll lists text = Each (λ lines. HasText lines text) lists

-- on the platform, a line whose text isn't common
abbrev pub IsPlaced : (List ℕ → Type 0) → Platform → Line → Line → Type 0
IsPlaced IsCommon platform m l = (IsCommon (printed m) → ⊥) × (in_context (Some platform) m ≡ l)

-- the same of a line of the list
abbrev pub IsOwn : (List ℕ → Type 0) → Platform → List Line → Line → Type 0
IsOwn IsCommon platform lines l = (m : Line) × Has lines m × IsPlaced IsCommon platform m l

-- the same of a line of one of these lists
abbrev pub IsOwnOfSome : List Line → List (List Line × Platform) → Line → Type 0
IsOwnOfSome common pairs l = (pair : List Line × Platform) × Has pairs pair × IsOwn (HasText common) pair.1 pair.0 l
