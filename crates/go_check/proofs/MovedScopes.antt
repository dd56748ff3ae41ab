-- Scopes in which another file is in turn, or `iota` has another value, keep the same of a package.
use Rattle.std.proofs.Common.{sym, subst}
use Rattle.go_package_scopes.specs.KeptScopes.{IsMoved}
use Rattle.go_package_scopes.specs.PackageScopes.{IsScopeOf}
use Rattle.go_rules.specs.Scopes.{Scopes}
use Rattle.go_typings.specs.PackageEnvironments.{Entries}
use Rattle.go_typings.specs.Sources.{PackageSource, Setting}

pub moved_scope : (s : Setting) (u : PackageSource) (a : Entries) (c d : Scopes) → IsMoved c d → IsScopeOf s u a c → IsScopeOf s u a d
moved_scope s u a c d m i = subst (IsScopeOf s u a) (sym m) (record {
  world = i.world;
  path = i.path;
  bits = i.bits;
  profile = i.profile;
  opened = i.opened;
  imports = i.imports;
  announced = i.announced;
  objects = i.objects;
  types = i.types;
})
