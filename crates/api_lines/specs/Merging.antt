-- One list of lines for several platforms.
-- Public source: the contexts of the lines that Go's cmd/api writes to its files api/go1.txt and later.
use Rattle.std.specs.Prelude.{◌≡◌, List, Option, Some, None}
use Rattle.std.specs.List.{zip}
use Rattle.go_base.specs.Lists.{Has, Each}
use Rattle.go_model.specs.declared.files.platform.Platform.{Platform}
use Rattle.api_lines.specs.declared.line.Line.{Line}
use Rattle.api_lines.specs.Lines.{printed, in_context, HasText}

-- the list of the platform has the line
abbrev pub IsOn : List (List Line) → List Platform → Platform → Line → Type 0
IsOn lists platforms platform l = (lines : List Line) × Has (zip lists platforms) (lines, platform) × Has lines l

-- each list has the text of the line
abbrev pub IsOnAll : List (List Line) → Line → Type 0
IsOnAll lists l = Each (λ lines. HasText lines (printed l)) lists

-- a line without context is on all platforms; one with a context is on that platform, and not on all
abbrev pub IsMergedIn : List (List Line) → List Platform → Option Platform → Line → Type 0
IsMergedIn lists platforms None l = ((p : Platform) × IsOn lists platforms p l) × IsOnAll lists l
IsMergedIn lists platforms (Some p) l = IsOn lists platforms p (in_context None l) × (IsOnAll lists (in_context None l) → ⊥)

abbrev pub IsMerged : List (List Line) → List Platform → Line → Type 0
IsMerged lists platforms l = IsMergedIn lists platforms l.context l

abbrev pub HasNoContext : Line → Type 0
HasNoContext l = l.context ≡ None
