-- Interface types of values, and names that mean `nil`.
use Rattle.std.specs.Prelude.{◌≡◌, List, None, Some}
use Rattle.go_model.specs.declared.types.term.Method.{Method}
use Rattle.go_model.specs.declared.types.term.Term.{Term, Term-F}
use Rattle.go_model.specs.types.Underlying.{under}
use Rattle.go_rules.specs.Asks.{IsType}
use Rattle.go_rules.specs.Environments.{Env}
use Rattle.go_rules.specs.Expressions.{MayHold}
use Rattle.go_rules.specs.Operands.{IsTyped}
use Rattle.go_rules.specs.declared.operand.Operand.{Operand}
use Rattle.go_rules.specs.declared.predeclared.Predeclared.TheVariants as p
use Rattle.go_rules.specs.declared.seen.Seen.TheVariants as seen
use Rattle.go_syntax.specs.declared.name.QualifiedName.{QualifiedName}
use Rattle.go_syntax.specs.declared.types.«Type».{«Type» as Typ}

-- the value is of this interface type
abbrev pub IsInterfaceOf : Env → Operand → Term → Type 0
IsInterfaceOf E o t = (ms : List Method) × IsTyped o t × (under E.table t ≡ Term-F.Interface ms)

-- the name means the predeclared `nil`
abbrev pub IsNilName : Env → QualifiedName → Type 0
IsNilName E q = (q.qualifier ≡ None) × (E.meaning q.name.text ≡ Some (seen.Universe p.Nil))

-- the form stands for a type of which a value of the interface type may be
abbrev pub ListsType : Env → Term → Typ → Term → Type 0
ListsType E interface t u = IsType E t u × MayHold E interface u
