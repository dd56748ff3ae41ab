-- The names at the leaves of a type.
-- Own: words on types.
use Rattle.std.specs.Prelude.{◌≡◌, Bool, true}
use Rattle.go_base.specs.Lists.{Has}
use Rattle.go_model.specs.declared.types.names.TypeName.{TypeName}
use Rattle.go_model.specs.declared.types.term.Term.{Term, Term-F, out-Term}
use Rattle.go_type_images.specs.Parts.{parts}

-- each name in the type passes the test
pub data Leaves (P : TypeName → Bool) : Term → Type 0 where
  leaves : {t : Term} → ((n : TypeName) → out-Term t ≡ Term-F.Named n → P n ≡ true) → ((u : Term) → Has (parts (out-Term t)) u → Leaves P u) → Leaves P t
