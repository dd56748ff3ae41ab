use Rattle.std.proofs.Common.{◌∙◌, ap, sym}
use Rattle.go_declarations.specs.Forms.{form_of}
use Rattle.go_declarations.specs.Listings.{declarations_of}
use Rattle.go_declared.specs.NameTables.{found_form}
use Rattle.go_packages.proofs.PlacedNames.{none_found, some_found}
use Rattle.go_typings.specs.Declarations.{declared}
use Rattle.go_packages.proofs.found.found.Goals as goal

pub returns-in-None : goal.returns-in-None
returns-in-None c =
    none_found (declared (declarations_of c.args.declarations.now) c.args.listed.name.now) (sym (ap found_form c.in-None.is) ∙ c.form_there.ensures c.args.listed.name.now c.requires)

pub returns-in-Some : goal.returns-in-Some
returns-in-Some c =
    some_found (declared (declarations_of c.args.declarations.now) c.args.listed.name.now) c.args.listed.place (form_of c.in-Some.form) c.requires
    (sym (ap found_form c.in-Some.is) ∙ c.form_there.ensures c.args.listed.name.now c.requires)
