-- A worklist over the types that paths through fields and elements lead to.
use Rattle.std.specs.Prelude.{List}
use Rattle.go_base.specs.Lists.{Has}
use Rattle.go_model.specs.declared.types.names.TypeName.{TypeName}
use Rattle.go_model.specs.declared.types.term.Field.{Field, out-Field}
use Rattle.go_model.specs.declared.types.term.Term.{Term, Term-F}
use Rattle.go_model.specs.types.Tables.{Table}
use Rattle.go_model.specs.types.Terms.{Layer}
use Rattle.go_model.specs.types.Underlying.{under}
use Rattle.go_rules.specs.Environments.{Env, Entered}
use Rattle.go_rules.specs.Usability.{LeadsTo}
use Rattle.go_types.specs.Parts.{Known, Pushed}

-- the fact holds of the element of an array, and of the type of each field
abbrev pub OfParts : (Term → Type 0) → Layer → Type 0
OfParts P (Term-F.Array n e) = P e
OfParts P (Term-F.Struct fs) = (f : Field) → Has fs f → P (out-Field f).term
OfParts P l = Unit {0}

-- the element of an array or the types of fields were added
abbrev pub PushesParts : Table → Term → List Term → List TypeName → List Term → List TypeName → Type 0
PushesParts T t old seen new newer = Pushed (LeadsTo T t) old seen new newer × (Known old seen → OfParts (Has new) (under T t))

-- each type to which a path leads has its entry
abbrev pub EnteredBelow : Env → Term → Type 0
EnteredBelow E t = (u : Term) → LeadsTo E.table t u → Entered E u
