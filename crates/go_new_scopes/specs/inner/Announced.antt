-- The names that a package is known to declare.
-- Own: words of the contracts inside this crate.
use Rattle.std.specs.Prelude.{[], ◌∷◌}
use Rattle.go_declared.specs.declared.names.NamePlace.{NamePlace}
use Rattle.go_rules.specs.Names.{Named, with_value}

abbrev pub Known : Type 0
Known = Named (Unit {0})

-- with the names of the table, one after another
abbrev pub with_names : Known → Named NamePlace → Known
with_names t [] = t
with_names t (e ∷ es) = with_names (with_value t e.0 tt) es
