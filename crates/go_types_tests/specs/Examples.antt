-- Small packages of Go that the tests build, as closed terms, and worlds of one package.
-- Own: examples.
use Rattle.std.specs.Prelude.{ℕ, List, [], ◌∷◌, map, true, false, codes}
use Rattle.go_model.specs.declared.constants.value.Basic.TheVariants as basic
use Rattle.go_model.specs.declared.types.term.Term.{Term, Term-F, roll-Term}
use Rattle.go_model.specs.declared.types.term.Direction.TheVariants as direction
use Rattle.go_model.specs.declared.types.package.MethodOf.{MethodOf}
use Rattle.go_model.specs.declared.types.package.Defined.{Defined}
use Rattle.go_model.specs.declared.types.package.Package.{Package}
use Rattle.go_model.specs.worlds.Worlds.{Packages, with_package, type_object}

-- a defined type
abbrev pub type_of : List ℕ → Term → List MethodOf → Defined
type_of name underlying methods = record { name = name; underlying = underlying; methods = methods }

-- a package `p` with this path, which holds only types and their names
abbrev pub package_of : List ℕ → List Defined → Package
package_of path types = record { path = path; name = codes "p"; from_std = false; objects = map (λ d. type_object path d.name) types; defined = types }

-- `type D <-chan int`
unfoldable pub channels : Package
channels = package_of (codes "m/p") (type_of (codes "D") (roll-Term (Term-F.Chan direction.ReceiveOnly (roll-Term (Term-F.Plain basic.Int)))) [] ∷ [])

-- no package
abbrev pub no_package : Packages
no_package = record { packages = []; publics = [] }

-- this package alone, which isn't public
abbrev pub world_of : Package → Packages
world_of p = with_package no_package p false

-- `m/b`, which is public, and `m/a`, which isn't, both without types
unfoldable pub two_packages : Packages
two_packages = with_package (with_package no_package (package_of (codes "m/b") []) true) (package_of (codes "m/a") []) false
