-- Names of imported packages, by the objects that they mean.
use Rattle.go_model.specs.declared.types.package.Entity.{Entity}
use Rattle.go_syntax.specs.declared.name.Name.{Name}
use Rattle.go_rules.specs.Environments.{Env}
use Rattle.go_rules.specs.Expressions.{DenotesImported}
use Rattle.go_rules.specs.declared.operand.Operand.{Operand}
use Rattle.go_operations.specs.inner.Imported.{DeclaresImported}

-- an object of an imported package is what its name denotes
pub from_imported : (E : Env) (q n : Name) → ((object : Entity) → DeclaresImported E q n object → ⊥) → (o : Operand) → DenotesImported E q n o → ⊥
from_imported E q n none o d = none d.object (record { names = d.names; path = d.path; imported = d.imported; exported = d.exported; declared = d.declared })
