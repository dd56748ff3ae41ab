-- What is told of the receiver where a declaration declares a method.
-- Own: words of the contracts.
use Rattle.std.specs.Prelude.{◌≡◌, ℕ, Option, None, Some}
use Rattle.go_selectors.specs.Answers.{Decides}
use Rattle.go_syntax.specs.declared.declaration.Func.{Func}
use Rattle.go_syntax.specs.declared.types.ParameterDecl.{ParameterDecl}
use Rattle.go_typings.specs.DeclarationAsks.{IsOnly}
use Rattle.go_typings.specs.Declarations.{Form, constants, variables, alias, definition, function, method, declarations}
use Rattle.go_typings.specs.Receivers.{base}
use Rattle.go_typings.specs.Sources.{PackageSource}
use Rattle.go_declaration_asks.specs.declared.base.Base.{Base}

-- the base type of the receiver, where it has one, and whether no other method of that type has the method's name
abbrev pub TellsReceiver : PackageSource → ℕ → ParameterDecl → Func → Option Base → Type 0
TellsReceiver u number receiver f None = base (declarations u) receiver ≡ None
TellsReceiver u number receiver f (Some b) = (base (declarations u) receiver ≡ Some b.name.now) × Decides b.is_only (IsOnly u number b.name.now f.name.text)

-- the same, where the declaration declares a method
abbrev pub TellsBase : PackageSource → ℕ → Form → Option Base → Type 0
TellsBase u number (constants s place) told = Unit {0}
TellsBase u number (variables s) told = Unit {0}
TellsBase u number (alias s) told = Unit {0}
TellsBase u number (definition s) told = Unit {0}
TellsBase u number (function f) told = Unit {0}
TellsBase u number (method receiver f) told = TellsReceiver u number receiver f told
