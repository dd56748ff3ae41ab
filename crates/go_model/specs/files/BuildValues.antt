-- The value of a build expression on a platform, and the choice of a file.
-- Public source: "Build constraints" of Go's package go/build.
-- In crate go_tags, src/choice.rt computes these.
use Rattle.std.specs.Prelude.{ℕ, Bool, ◌||◌, ◌&&◌, ◌==◌, not, if◌then◌else◌, Option, None, Some, List, [], ◌∷◌, drop, reverse, codes, bytes_eq}
use Rattle.std.specs.List.{slice_split, before_first, list_any, list_all}
use Rattle.go_model.specs.declared.files.platform.Platform.{Platform}
use Rattle.go_model.specs.declared.files.build.Constraint.{Constraint, Constraint-F, fold-Constraint}
use Rattle.go_model.specs.files.BuildTags.{is_one_of, known_systems, known_architectures, is_satisfied}

-- the value of one level of an expression, from the values of its parts
abbrev pub level_holds : Platform → Constraint-F Bool → Bool
level_holds platform (Constraint-F.Or first others) = first || list_any (λ v. v) others
level_holds platform (Constraint-F.And first others) = first && list_all (λ v. v) others
level_holds platform (Constraint-F.Not operand) = not operand
level_holds platform (Constraint-F.Paren inner) = inner
level_holds platform (Constraint-F.Tag tag) = is_satisfied platform tag

-- the expression holds on the platform
abbrev pub holds : Platform → Constraint → Bool
holds platform = fold-Constraint Bool (level_holds platform)

-- the parts of a file's name that may constrain it: up to the first dot, those after the first underscore
abbrev pub name_parts : List ℕ → List (List ℕ)
name_parts name = drop 1 (slice_split (λ b. b == 95) (before_first (λ b. b == 46) name))

-- the parts from the last one back, without a last part `test`
abbrev pub without_test : List (List ℕ) → List (List ℕ)
without_test [] = []
without_test (last ∷ before) = if bytes_eq last (codes "test") then before else last ∷ before

-- the tag that the last part demands, where it is a system or an architecture
abbrev pub last_demanded : List ℕ → List (List ℕ)
last_demanded last = if is_one_of known_systems last || is_one_of known_architectures last then last ∷ [] else []

-- the tags that the parts demand, which are given from the last one back: a system and an architecture, or one of them
abbrev pub demanded : List (List ℕ) → List (List ℕ)
demanded [] = []
demanded (last ∷ []) = last_demanded last
demanded (last ∷ previous ∷ more) =
    if is_one_of known_systems previous && is_one_of known_architectures last then previous ∷ last ∷ [] else last_demanded last

-- the file's name allows it on the platform
abbrev pub name_holds : Platform → List ℕ → Bool
name_holds platform name = list_all (is_satisfied platform) (demanded (without_test (reverse (name_parts name))))

-- the file with this name and build expression is chosen on the platform
abbrev pub is_chosen : Platform → List ℕ → Option Constraint → Bool
is_chosen platform name None = name_holds platform name
is_chosen platform name (Some constraint) = name_holds platform name && holds platform constraint
