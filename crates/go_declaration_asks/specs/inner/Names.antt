-- Names that only functions have, by the name of the package.
use Rattle.std.specs.Prelude.{◌≡◌, ℕ, Bool, true, false, ◌&&◌, List, codes}
use Rattle.std.specs.Str.{bytes_eq}
use Rattle.go_syntax.specs.declared.declaration.Func.{Func}
use Rattle.go_syntax.specs.declared.name.Name.{Name}
use Rattle.go_typings.specs.DeclarationAsks.{IsBare}
use Rattle.go_typings.specs.Declarations.{is_init}

-- `main` in a package of this name
abbrev pub is_main_of : List ℕ → List ℕ → Bool
is_main_of package_name name = bytes_eq name (codes "main") && bytes_eq package_name (codes "main")

-- in a package of this name more than functions may be named so
abbrev pub IsFreeName : List ℕ → Name → Type 0
IsFreeName package_name n = (is_init n.text ≡ false) × (is_main_of package_name n.text ≡ false)

-- in a package of this name a function that is called by itself has neither parameters nor results
abbrev pub IsBareWhereSpecial : List ℕ → Func → Type 0
IsBareWhereSpecial package_name f = (is_init f.name.text ≡ true → IsBare f.signature) × (is_main_of package_name f.name.text ≡ true → IsBare f.signature)
