-- Lists of borrowed declarations.
-- Own: words of the contracts.
use Rattle.std.specs.Prelude.{List, map}
use Rattle.go_declarations.specs.Forms.{form_of}
use Rattle.go_declarations.specs.declared.listing.Declaration.{Declaration}
use Rattle.go_typings.specs.Declarations.{Declaration as Declared}

-- the declaration that is borrowed, with the number of its file
abbrev pub declaration_of : Declaration → Declared
declaration_of d = record { file = d.file; form = form_of d.form }

abbrev pub declarations_of : List Declaration → List Declared
declarations_of ds = map declaration_of ds
