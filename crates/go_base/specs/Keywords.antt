-- The keywords of Go.
-- Public source: Go specification, "Keywords".
use Rattle.std.specs.Prelude.{ℕ, List, [], ◌∷◌, codes}

-- their texts, by length
unfoldable pub keywords : List (List ℕ)
keywords =
    codes "go" ∷ codes "if" ∷ codes "for" ∷ codes "map" ∷ codes "var"
    ∷ codes "case" ∷ codes "chan" ∷ codes "else" ∷ codes "func" ∷ codes "goto" ∷ codes "type"
    ∷ codes "break" ∷ codes "const" ∷ codes "defer" ∷ codes "range"
    ∷ codes "import" ∷ codes "return" ∷ codes "select" ∷ codes "struct" ∷ codes "switch"
    ∷ codes "default" ∷ codes "package" ∷ codes "continue" ∷ codes "interface" ∷ codes "fallthrough" ∷ []
