-- The entry that a value of the code is, and what is told for it.
-- Own: words of the contracts.
use Rattle.std.specs.Prelude.{◌≡◌, Bool, true, List}
use Rattle.go_entries.specs.declared.entry.Entry.{Entry}
use Rattle.go_entries.specs.declared.entry.Entry.TheVariants as entry
use Rattle.go_rules.specs.Environments.{Env}
use Rattle.go_typings.specs.DeclarationRules.{is_qualified}
use Rattle.go_typings.specs.Declarations.{Form, definition, Declaration}
use Rattle.go_typings.specs.PackageEnvironments.{Entry as Given, objects, underlying, signed}
use Rattle.go_typings.specs.Receivers.{name_form, written_name}

abbrev pub entry_of : Entry → Given
entry_of (entry.Objects xs) = objects xs
entry_of (entry.Underlying t) = underlying t
entry_of (entry.Signed g) = signed g

-- where a type is defined in a client of the profile, the flag tells whether that by which it is defined is written as the name of
-- another package, after the package's aliases
abbrev pub TellsQualified : Env → List Declaration → Form → Bool → Type 0
TellsQualified E ds (definition s) qualified = E.profile ≡ true → is_qualified ds (written_name (name_form s.type_)) ≡ qualified
TellsQualified E ds f qualified = Unit {0}
