-- Facts of some member of a list.
use Rattle.std.specs.Prelude.{List}
use Rattle.go_base.specs.Lists.{Has}
use Rattle.go_rules.specs.Environments.{Env}
use Rattle.go_syntax.specs.declared.name.Name.{Name}
use Rattle.go_leads.specs.inner.Bares.{Literal}
use Rattle.go_leads.specs.inner.FieldKeys.{KeyIn}

-- the fact holds of the second and of a member of the list
abbrev pub SomeIn : {A B : Type 0} → (A → B → Type 0) → List A → B → Type 0
SomeIn {A} P xs b = (x : A) × Has xs x × P x b

abbrev pub keys_of : Env → Literal → Name → Type 0
keys_of E l n = KeyIn E l.0 l.1 n
