-- Scopes that keep the typing of a package.
use Rattle.go_package_scopes.specs.PackageScopes.{IsScopeOf}
use Rattle.go_rules.specs.Scopes.{Scopes}
use Rattle.go_typings.specs.PackageEnvironments.{Entries}
use Rattle.go_typings.specs.Sources.{PackageSource, Setting}
use Rattle.go_typings.specs.Typings.{IsTyping}

abbrev pub KeepsTyping : Setting → PackageSource → Scopes → Type 0
KeepsTyping s u c = (a : Entries) → IsTyping s u a → IsScopeOf s u a c
