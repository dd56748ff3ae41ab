-- The spec whose type and values others repeat.
use Rattle.std.specs.Prelude.{◌≡◌, List, Option, None, Some}
use denote.Ref.{Bor}
use Rattle.go_syntax.specs.declared.declaration.ConstSpec.{ConstSpec}
use Rattle.go_syntax.specs.declared.name.Name.{Name}
use Rattle.go_typings.specs.Declarations.{no_spec}

abbrev pub given_by : Option (Bor ConstSpec) → ConstSpec
given_by None = no_spec
given_by (Some s) = s.now

-- the specs have the same type and values
abbrev pub HasSame : ConstSpec → ConstSpec → Type 0
HasSame a b = (a.type_ ≡ b.type_) × (a.values ≡ b.values)

-- these names with the type and values of the spec
abbrev pub with_names : List Name → ConstSpec → ConstSpec
with_names names s = record { names = names; type_ = s.type_; values = s.values }
