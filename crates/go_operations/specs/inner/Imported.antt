-- Objects of imported packages.
-- Public source: Go specification, "Qualified identifiers" and "Exported identifiers".
use Rattle.std.specs.Prelude.{◌≡◌, ℕ, true, false, List, Some}
use Rattle.go_model.specs.declared.types.package.Entity.{Entity}
use Rattle.go_rules.specs.Environments.{Env, is_exported}
use Rattle.go_rules.specs.Expressions.{is_blank}
use Rattle.go_rules.specs.declared.seen.Seen.TheVariants as seen
use Rattle.go_syntax.specs.declared.name.Name.{Name}

-- the object that the imported package exports under the name
pub record DeclaresImported (E : Env) (package_name name : Name) (object : Entity) : Type 0 where
  pub names : is_blank package_name.text ≡ false
  pub path : List ℕ
  pub imported : E.meaning package_name.text ≡ Some (seen.Import path)
  pub exported : is_exported name.text ≡ true
  pub declared : E.object path name.text ≡ Some object
