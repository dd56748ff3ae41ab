-- The types, values and signatures that stand in a declaration, and the names by which it refers to others, outside of bodies.
-- Public source: Go specification, "Declarations and scope". The selection is own.
use Rattle.std.specs.Prelude.{◌||◌, List, [], ◌∷◌, ◌++◌, map, filter, Option, None, Some}
use Rattle.go_references.specs.References.{behind, const_references, exprs_refs, func_references, in_lengths, optional_type, outermost, parameter_refs, signature_refs, type_references, var_references}
use Rattle.go_references.specs.declared.references.Reference.{Reference}
use Rattle.go_rules.specs.Nodes.{Node, expression, optional, signature, type}
use Rattle.go_references.specs.go_syntax.declared.declaration.Func.{Func}
use Rattle.go_references.specs.go_syntax.declared.declaration.VarSpec.{VarSpec}
use Rattle.go_references.specs.go_syntax.declared.types.ParameterDecl.{ParameterDecl, out-ParameterDecl}
use Rattle.go_references.specs.go_syntax.declared.types.«Type».{«Type» as Typ}
use Rattle.go_typings.specs.Declarations.{Form, constants, variables, alias, definition, function, method}

-- the types, values and signatures of a declaration
abbrev pub nodes : Form → List Node
nodes (constants s place) = optional type s.type_ ++ map expression s.values
nodes (variables s) = optional type s.type_ ++ map expression s.values
nodes (alias s) = type s.type_ ∷ []
nodes (definition s) = type s.type_ ∷ []
nodes (function f) = signature f.signature ∷ []
nodes (method receiver f) = type (out-ParameterDecl receiver).type_ ∷ signature f.signature ∷ []

-- the references of a method: those of the receiver's type and of the signature
abbrev pub method_references : ParameterDecl → Func → List Reference
method_references receiver f = parameter_refs receiver (behind outermost) ++ signature_refs f.signature outermost

-- the references of a declaration
abbrev pub references : Form → List Reference
references (constants s place) = const_references s
references (variables s) = var_references s
references (alias s) = type_references s
references (definition s) = type_references s
references (function f) = func_references f
references (method receiver f) = method_references receiver f

-- those that stand in the length of an array, in the declaration of a type, a function or a method
abbrev pub length_references : Form → List Reference
length_references (alias s) = in_lengths (type_references s)
length_references (definition s) = in_lengths (type_references s)
length_references (function f) = in_lengths (func_references f)
length_references (method receiver f) = in_lengths (method_references receiver f)
length_references f = []

-- variables with a type refer to what it is made of, and those without one to what their values are
abbrev pub variable_references : Option Typ → VarSpec → List Reference
variable_references (Some t) s = optional_type (Some t) outermost
variable_references None s = exprs_refs s.values outermost

-- those that have to be settled first: all of constants, those of a variable's type or else of its values, and those of a
-- type that stand by value or in the length of an array
abbrev pub strong_references : Form → List Reference
strong_references (constants s place) = const_references s
strong_references (variables s) = variable_references s.type_ s
strong_references (alias s) = filter (λ r. r.by_value || r.in_length) (type_references s)
strong_references (definition s) = filter (λ r. r.by_value || r.in_length) (type_references s)
strong_references f = []
