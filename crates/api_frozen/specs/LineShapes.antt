-- The shape of feature lines: a path, a context or none, and the rest.
-- Public source: the lines of Go's files api/go1.txt and later, as cmd/api reads them; which bytes a path and a context may have is own.
use Rattle.std.specs.Prelude.{◌≡◌, ◌≢◌, ℕ, Bool, false, ◌||◌, ◌==◌, List, [], ◌++◌, codes, Option, None, Some, IfSome}
use Rattle.go_base.specs.Comments.{is_blank}
use Rattle.go_base.specs.Lists.{Each}

-- a blank or a comma ends a path
abbrev pub ends_path : ℕ → Bool
ends_path b = is_blank b || b == 44

-- a closing parenthesis ends a context
abbrev pub ends_context : ℕ → Bool
ends_context b = b == 41

-- some bytes, none of which ends them
pub record IsWord (ends : ℕ → Bool) (bytes : List ℕ) : Type 0 where
  pub some : bytes ≢ []
  pub plain : Each (λ b. ends b ≡ false) bytes

-- a context as it stands in a line
abbrev pub context_part : Option (List ℕ) → List ℕ
context_part None = []
context_part (Some context) = codes " (" ++ (context ++ codes ")")

-- what follows the path of a line
abbrev pub after_path : Option (List ℕ) → List ℕ → List ℕ
after_path context rest = context_part context ++ (codes ", " ++ rest)

-- a line with these parts
abbrev pub line_of : List ℕ → Option (List ℕ) → List ℕ → List ℕ
line_of path context rest = codes "pkg " ++ (path ++ after_path context rest)

-- a context or none, and a rest
pub record IsAfterPath (bytes : List ℕ) (context : Option (List ℕ)) (rest : List ℕ) : Type 0 where
  pub is : bytes ≡ after_path context rest
  pub context_is : IfSome context (IsWord ends_context)
  pub some : rest ≢ []

-- the text is a feature line with these parts
pub record HasParts (text path : List ℕ) (context : Option (List ℕ)) (rest : List ℕ) : Type 0 where
  pub is : text ≡ line_of path context rest
  pub path_is : IsWord ends_path path
  pub context_is : IfSome context (IsWord ends_context)
  pub some : rest ≢ []

-- the text has the shape of a feature line
abbrev pub IsFeatureLine : List ℕ → Type 0
IsFeatureLine text = (path : List ℕ) × (context : Option (List ℕ)) × (rest : List ℕ) × HasParts text path context rest

-- the text is a feature line in a context, and this is the line without it
abbrev pub IsInContext : List ℕ → List ℕ → Type 0
IsInContext text plain = (path : List ℕ) × (context : List ℕ) × (rest : List ℕ) × HasParts text path (Some context) rest × (plain ≡ line_of path None rest)
