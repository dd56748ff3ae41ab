-- The names that pairs of types rename, and those that they don't.
-- Own: words on names of types.
use Rattle.std.specs.Prelude.{◌≡◌, not, Bool, List}
use Rattle.go_base.specs.Lists.{Has}
use Rattle.go_model.specs.worlds.Worlds.{Packages}
use Rattle.go_model.specs.declared.types.names.TypeName.{TypeName}
use Rattle.go_model.specs.declared.types.term.Term.{Term-F, out-Term}
use Rattle.go_type_images.specs.declared.pair.TypePair.{TypePair}
use Rattle.api_correspond.specs.Publics.{of_module, package_at}

-- the old type of some pair is the name
abbrev pub IsOwnedName : List TypePair → TypeName → Type 0
IsOwnedName pairs n = (p : TypePair) × Has pairs p × (out-Term p.old ≡ Term-F.Named n)

-- no type of the module: `error`, or one of the standard library
abbrev pub is_foreign : Packages → TypeName → Bool
is_foreign w n = not (of_module (package_at w n.path))
