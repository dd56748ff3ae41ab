-- The types and kinds of constant strings.
use Rattle.std.specs.Prelude.{◌≡◌}
use Rattle.go_model.specs.declared.constants.value.Basic.TheVariants as basic
use Rattle.go_model.specs.declared.types.package.ConstTerm.{ConstTerm}
use Rattle.go_model.specs.declared.types.package.ConstTerm.TheVariants as constant
use Rattle.go_model.specs.declared.types.term.Term.{Term-F}
use Rattle.go_model.specs.types.Underlying.{under}
use Rattle.go_rules.specs.Environments.{Env}

-- a string type, or an untyped kind
abbrev pub IsStringKind : Env → ConstTerm → Type 0
IsStringKind E (constant.OfTerm t) = under E.table t ≡ Term-F.Plain basic.Str
IsStringKind E (constant.OfKind k) = Unit {0}
