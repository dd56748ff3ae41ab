-- Lists of lines that share the lines that all of them have.
use Rattle.std.specs.Prelude.{◌≡◌, ◌⊎◌, List, [], ◌∷◌}
use Rattle.std.specs.Ordering.{nat_cmp, match_ordering}
use Rattle.std.specs.Cmp.Lexicographic.{slice_cmp}
use Rattle.go_base.specs.Lists.{Has, Each}
use Rattle.api_lines.specs.declared.line.Line.{Line}
use Rattle.api_lines.specs.Lines.{printed, AreInOrder, IsListing, IsOfEither}

-- a line of the list that the others have
abbrev pub IsIn : List Line → List Line → Line → Type 0
IsIn others lines l = Has lines l × Has others l

-- one that they lack
abbrev pub IsNotIn : List Line → List Line → Line → Type 0
IsNotIn others lines l = Has lines l × (Has others l → ⊥)

-- a list with a line put where its text belongs
abbrev pub put : Line → List Line → List Line
put l [] = l ∷ []
put l (m ∷ ms) = match_ordering (slice_cmp nat_cmp (printed l) (printed m)) (l ∷ m ∷ ms) (l ∷ m ∷ ms) (m ∷ put l ms)

-- the whole list of a platform: the common lines, and its own
abbrev pub whole : List Line → List Line → List Line
whole [] own = own
whole (l ∷ common) own = put l (whole common own)

-- no text is in both lists
abbrev pub AreApart : List Line → List Line → Type 0
AreApart xs ys = (l m : Line) → Has xs l → Has ys m → printed l ≡ printed m → ⊥

-- a platform's own lines, beside the common ones
abbrev pub IsRest : List Line → List Line → Type 0
IsRest common own = AreInOrder own × AreApart common own

-- the common lines, and those of each platform
abbrev pub AreShared : List Line → List (List Line) → Type 0
AreShared common owns = AreInOrder common × Each (IsRest common) owns

-- to each list more lines were added
abbrev pub AreJoined : List Line → List (List Line) → List (List Line) → Type 0
AreJoined more [] [] = Unit {0}
AreJoined more (own ∷ owns) (new ∷ news) = IsListing (IsOfEither own more) new × AreJoined more owns news
AreJoined more [] (new ∷ news) = ⊥
AreJoined more (own ∷ owns) [] = ⊥
