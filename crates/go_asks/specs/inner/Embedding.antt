-- What the name of an embedded type denotes, and which types may be embedded as fields.
use Rattle.std.specs.Prelude.{◌≡◌, Bool, Option, None, Some}
use Rattle.go_model.specs.declared.types.term.Term.{Term}
use Rattle.go_model.specs.types.Underlying.{under}
use Rattle.go_rules.specs.Asks.{MayEmbed, MayStandUnder}
use Rattle.go_rules.specs.Environments.{Env, Entered}
use Rattle.go_rules.specs.Expressions.{Denotes, DenotesImported}
use Rattle.go_rules.specs.Operands.{type_name}
use Rattle.go_rules.specs.declared.operand.Operand.{Operand}
use Rattle.go_syntax.specs.declared.name.Name.{Name}
use Rattle.go_syntax.specs.declared.name.QualifiedName.{QualifiedName}

abbrev pub NameDenotesBy : Env → Option Name → Name → Operand → Type 0
NameDenotesBy E None n o = Denotes E n o
NameDenotesBy E (Some q) n o = DenotesImported E q n o

-- a name denotes this operand, with its qualifier where there is one
abbrev pub NameDenotes : Env → QualifiedName → Operand → Type 0
NameDenotes E q o = NameDenotesBy E q.qualifier q.name o

-- the type has its entry, and may be embedded as a field, behind a star or not
abbrev pub StandsAsField : Env → Bool → Term → Type 0
StandsAsField E star t = Entered E t × MayStandUnder star (under E.table t) × MayEmbed E t

-- the operand is a type of which the fact holds
abbrev pub IsTypeWith : (Term → Type 0) → Operand → Type 0
IsTypeWith fact o = (t : Term) × (o ≡ type_name t) × fact t
