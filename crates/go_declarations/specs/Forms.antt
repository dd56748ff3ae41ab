-- The declarations that borrowed parts of the syntax stand for.
-- Own: words of the contracts.
use Rattle.std.specs.Prelude.{List, map}
use Rattle.go_typings.specs.go_base.Keys.{item_of}
use Rattle.go_declarations.specs.declared.form.Constants.{Constants}
use Rattle.go_declarations.specs.declared.form.Form.{Form}
use Rattle.go_declarations.specs.declared.form.Form.TheVariants as form
use Rattle.go_syntax.specs.declared.declaration.ConstSpec.{ConstSpec}
use Rattle.go_typings.specs.Declarations.{Form as Declared, constants, variables, alias, definition, function, method}

-- a spec of constants with the type and the values that it has or repeats
abbrev pub spec_of : Constants → ConstSpec
spec_of c = record { names = c.names.now; type_ = item_of c.type_; values = c.values.now }

-- what is declared
abbrev pub form_of : Form → Declared
form_of (form.Constants c) = constants (spec_of c) c.place
form_of (form.Variables s) = variables s.now
form_of (form.Alias s) = alias s.now
form_of (form.Definition s) = definition s.now
form_of (form.Function f) = function f.now
form_of (form.Method receiver f) = method receiver.now f.now
