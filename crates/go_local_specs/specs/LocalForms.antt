-- What a spec of a declaration in a function is given, but for the blocks of function literals in it.
-- Public source: Go specification, "Constant declarations" and "Variable declarations".
use Rattle.std.specs.Prelude.{Bool, true, false, List, [], map}
use Rattle.go_base.specs.Lists.{Each}
use Rattle.go_declarations.specs.Forms.{form_of}
use Rattle.go_declarations.specs.declared.listing.Declaration.{Declaration}
use Rattle.go_declaration_asks.specs.go_entries.declared.entry.Entry.{Entry}
use Rattle.go_declaration_asks.specs.go_entries.declared.entry.Entry.TheVariants as entry
use Rattle.go_model.specs.declared.types.package.Entity.{Entity}
use Rattle.go_rules.specs.Asks.{Meets}
use Rattle.go_rules.specs.Environments.{Env}
use Rattle.go_statement_rules.specs.Statements.{fits}
use Rattle.go_typings.specs.DeclarationNodes.{nodes}
use Rattle.go_typings.specs.DeclarationRules.{Gives}
use Rattle.go_typings.specs.Declarations.{Form, constants, variables}
use Rattle.go_typings.specs.PackageEnvironments.{objects}

-- constants or variables, which alone are declared in functions
abbrev pub IsLocal : Form → Type 0
IsLocal (constants s place) = Unit {0}
IsLocal (variables s) = Unit {0}
IsLocal f = ⊥

-- what the names denote, where all that is asked is met
abbrev pub GivesLocal : Env → Form → List Entity → Type 0
GivesLocal E f xs = Gives E [] f (objects xs) × fits E f × Each (Meets E) (nodes f)

-- the objects of an entry
abbrev pub objects_in : Entry → List Entity
objects_in (entry.Objects xs) = xs
objects_in x = []

abbrev pub is_objects : Entry → Bool
is_objects (entry.Objects xs) = true
is_objects x = false

abbrev pub form_in : Declaration → Form
form_in d = form_of d.form

abbrev pub forms_in : List Declaration → List Form
forms_in ds = map form_in ds

abbrev pub AreLocal : List Form → Type 0
AreLocal fs = Each IsLocal fs
