-- The base type that was told last.
-- Own: words of the contracts inside this crate.
use Rattle.std.specs.Prelude.{◌≡◌, ℕ, List, Some}
use Rattle.go_syntax.specs.declared.types.ParameterDecl.{ParameterDecl}
use Rattle.go_declarations.specs.go_typings.Declarations.{Declaration}
use Rattle.go_declarations.specs.go_typings.Receivers.{base, receiver_name}
use Rattle.go_declared.specs.ReceiverNames.{text_of}
use Rattle.go_declared.specs.declared.last_base.LastBase.{LastBase}

-- each receiver that is written by the last name has the last base type
abbrev pub IsLast : List Declaration → LastBase → Type 0
IsLast ds last = (receiver : ParameterDecl) (text : List ℕ) → text_of last.name ≡ Some text → receiver_name receiver ≡ Some text → text_of last.base ≡ base ds receiver
