-- A reference as a contract sees it: a name by which a declaration refers to another, and how it stands there.
-- Own: words of the contracts.
use Rattle.std.specs.Prelude.{Bool, Option}
use Rattle.go_syntax.specs.declared.name.Name.{Name}

pub record Reference : Type 0 where
  pub name : Name
  pub selected : Option Name
  pub is_key : Bool
  pub in_length : Bool
  pub by_value : Bool
