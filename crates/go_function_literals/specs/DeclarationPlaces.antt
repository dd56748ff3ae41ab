-- The function literals of the declarations of a file that stand in no body, and the bodies of its functions: for each one the range
-- of its body, in the order in which they stand.
-- Public source: Go specification, "Function declarations" and "Function literals".
use Rattle.std.specs.Prelude.{[], ◌++◌, map, Option, Some, None}
use Rattle.go_function_literals.specs.Places.{Places, const_places, joined, literal, parameter_places, signature_places, type_places, var_places}
use Rattle.go_syntax.specs.declared.body.BodyRange.{BodyRange}
use Rattle.go_syntax.specs.declared.declaration.Decl.{Decl}
use Rattle.go_syntax.specs.declared.declaration.Decl.TheVariants as decl
use Rattle.go_syntax.specs.declared.declaration.File.{File}
use Rattle.go_syntax.specs.declared.declaration.Func.{Func}
use Rattle.go_syntax.specs.declared.declaration.TypeSpec.{TypeSpec}
use Rattle.go_syntax.specs.declared.types.ParameterDecl.{ParameterDecl}

abbrev pub type_spec_places : TypeSpec → Places
type_spec_places t h = type_places t.type_ h

abbrev pub receiver_places : Option ParameterDecl → Places
receiver_places None h = []
receiver_places (Some p) h = parameter_places p h

abbrev pub body_places : Option BodyRange → Places
body_places None h = []
body_places (Some b) h = literal b h

abbrev pub func_places : Func → Places
func_places f h = receiver_places f.receiver h ++ (signature_places f.signature h ++ body_places f.body h)

abbrev pub decl_places : Decl → Places
decl_places (decl.ConstGroup specs) h = joined (map const_places specs) h
decl_places (decl.VarGroup specs) h = joined (map var_places specs) h
decl_places (decl.TypeGroup specs) h = joined (map type_spec_places specs) h
decl_places (decl.FuncDecl f) h = func_places f h

abbrev pub file_places : File → Places
file_places f = joined (map decl_places f.decls)
