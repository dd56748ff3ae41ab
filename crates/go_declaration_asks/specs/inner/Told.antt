-- What a declaration is asked by its kind, by the package's name and what is told of a method's receiver.
use Rattle.std.specs.Prelude.{ℕ, List, length, Option, None, Some}
use Rattle.go_base.specs.Lists.{Each}
use Rattle.go_rules.specs.Environments.{Env}
use Rattle.go_syntax.specs.declared.declaration.Func.{Func}
use Rattle.go_syntax.specs.declared.types.ParameterDecl.{ParameterDecl}
use Rattle.go_typings.specs.DeclarationAsks.{ValuesFit}
use Rattle.go_typings.specs.Declarations.{Form, constants, variables, alias, definition, function, method}
use Rattle.go_declaration_asks.specs.declared.base.Base.{Base}
use Rattle.go_declaration_asks.specs.inner.MethodsOf.{IsMethodOf}
use Rattle.go_declaration_asks.specs.inner.Names.{IsBareWhereSpecial, IsFreeName}

abbrev pub IsMethodTold : Env → Option Base → ParameterDecl → Func → Type 0
IsMethodTold E None receiver f = ⊥
IsMethodTold E (Some b) receiver f = IsMethodOf E b receiver f

abbrev pub AsksTold : Env → List ℕ → Option Base → Form → Type 0
AsksTold E package_name b (constants s place) = Each (IsFreeName package_name) s.names
AsksTold E package_name b (variables s) = Each (IsFreeName package_name) s.names × ValuesFit E s.type_ (length s.names) s.values
AsksTold E package_name b (alias s) = IsFreeName package_name s.name
AsksTold E package_name b (definition s) = IsFreeName package_name s.name
AsksTold E package_name b (function f) = IsBareWhereSpecial package_name f
AsksTold E package_name b (method receiver f) = IsMethodTold E b receiver f
