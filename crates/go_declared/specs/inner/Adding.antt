-- Entries of names that grow by those of declarations, in their order, each name as often as it is declared.
-- Own: words of the contracts inside this crate.
use Rattle.std.specs.Prelude.{ℕ, suc, ◌||◌, if◌then◌else◌, List, [], ◌∷◌, ◌++◌}
use Rattle.go_rules.specs.Expressions.{is_blank}
use Rattle.go_rules.specs.Names.{Named}
use Rattle.go_syntax.specs.declared.name.Name.{Name}
use Rattle.go_declarations.specs.go_typings.Declarations.{Declaration, is_init, names_of}
use Rattle.go_declared.specs.declared.names.NamePlace.{NamePlace}

-- the name is at the place too, unless it is left out
abbrev pub with_name : Named NamePlace → List ℕ → NamePlace → Named NamePlace
with_name t name place = if is_blank name || is_init name then t else t ++ (name, place) ∷ []

abbrev pub with_names : Named NamePlace → ℕ → ℕ → List Name → Named NamePlace
with_names t number place [] = t
with_names t number place (n ∷ ns) = with_names (with_name t n.text (record { number = number; place = place })) number (suc place) ns

abbrev pub with_declarations : Named NamePlace → ℕ → List Declaration → Named NamePlace
with_declarations t number [] = t
with_declarations t number (d ∷ ds) = with_declarations (with_names t number 0 (names_of d.form)) (suc number) ds
