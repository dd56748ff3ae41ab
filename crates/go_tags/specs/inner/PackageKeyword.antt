-- The keyword of a package clause.
use Rattle.std.specs.Prelude.{◌≡◌, ℕ, List, ◌++◌, codes}
use Rattle.go_base.specs.Characters.{is_name_character, BeginsPassing}

-- the bytes begin with the whole word `package`, and these are behind it
abbrev pub IsBehindKeyword : List ℕ → List ℕ → Type 0
IsBehindKeyword bytes behind = (bytes ≡ codes "package" ++ behind) × (BeginsPassing is_name_character behind → ⊥)
