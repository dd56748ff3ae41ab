-- The declarations of a package, with tables of what they declare.
-- Own: words of the contracts.
use Rattle.go_declarations.specs.Listings.{declarations_of}
use Rattle.go_declared.specs.MethodTables.{AreMethods}
use Rattle.go_declared.specs.NameTables.{AreDeclared}
use Rattle.go_declared.specs.declared.package.PackageTables.{PackageTables}

-- the tables tell where the declarations declare names, and which methods
pub record AreTables (t : PackageTables) : Type 0 where
  pub names : AreDeclared (declarations_of t.declarations.now) t.names.now
  pub methods : AreMethods (declarations_of t.declarations.now) t.methods.now
