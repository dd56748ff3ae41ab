-- The public name of a type, where it has one.
-- Own: words of the contracts inside this crate.
use Rattle.std.specs.Prelude.{◌≡◌, Option, None, Some}
use denote.Ref.{Bor}
use Rattle.go_model.specs.worlds.Worlds.{Packages}
use Rattle.go_model.specs.declared.types.names.TypeName.{TypeName}
use Rattle.go_model.specs.declared.types.term.Term.{Term, Term-F, out-Term}
use Rattle.api_correspond.specs.Publics.{IsPublicName}

abbrev pub HasNoPublicName : Packages → Term → Type 0
HasNoPublicName w t = (n : TypeName) → out-Term t ≡ Term-F.Named n → IsPublicName w n → ⊥

abbrev pub IsPublicNameOf : Packages → Term → Option (Bor TypeName) → Type 0
IsPublicNameOf w t None = HasNoPublicName w t
IsPublicNameOf w t (Some n) = (out-Term t ≡ Term-F.Named n.now) × IsPublicName w n.now
