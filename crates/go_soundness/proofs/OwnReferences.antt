-- What a declaration comes after, and what a length in it names, are among its references.
use Rattle.std.proofs.Common.{ℕ, ◌||◌, ◌++◌, Option, Some, None}
use Rattle.go_base.specs.Lists.{Has}
use Rattle.go_typings.specs.go_references.References.{exprs_refs, func_references, optional_type, outermost, type_references}
use Rattle.go_typings.specs.go_references.declared.references.Reference.{Reference}
use Rattle.go_typings.specs.go_syntax.declared.declaration.VarSpec.{VarSpec}
use Rattle.go_typings.specs.go_syntax.declared.types.«Type».{«Type» as Typ}
use Rattle.go_typings.specs.DeclarationNodes.{length_references, method_references, references, strong_references, variable_references}
use Rattle.go_typings.specs.Declarations.{Form, constants, variables, alias, definition, function, method}
use Rattle.go_typings.specs.go_rules.Environments.{Env}
use Rattle.go_typings.specs.References.{DependsOn, by_name, NamesDeclaration}
use Rattle.go_typings.specs.Sources.{PackageSource}
use Rattle.go_soundness.proofs.Members.{filtered, has_left}

variable_in : (t : Option Typ) (v : VarSpec) (r : Reference) → Has (variable_references t v) r → Has (optional_type t outermost ++ exprs_refs v.values outermost) r
variable_in None v r h = h
variable_in (Some t) v r h = has_left (optional_type (Some t) outermost) (exprs_refs v.values outermost) r h

strong_in : (f : Form) (r : Reference) → Has (strong_references f) r → Has (references f) r
strong_in (constants s place) r h = h
strong_in (variables s) r h = variable_in s.type_ s r h
strong_in (alias s) r h = filtered (λ x. x.by_value || x.in_length) (type_references s) r h
strong_in (definition s) r h = filtered (λ x. x.by_value || x.in_length) (type_references s) r h
strong_in (function f) r h = absurd h
strong_in (method m f) r h = absurd h

length_in : (f : Form) (r : Reference) → Has (length_references f) r → Has (references f) r
length_in (alias s) r h = filtered (λ x. x.in_length) (type_references s) r h
length_in (definition s) r h = filtered (λ x. x.in_length) (type_references s) r h
length_in (function f) r h = filtered (λ x. x.in_length) (func_references f) r h
length_in (method m f) r h = filtered (λ x. x.in_length) (method_references m f) r h
length_in (constants s place) r h = absurd h
length_in (variables s) r h = absurd h

module _ (E : Env) (u : PackageSource) (f : Form) (n : ℕ) where
  pub names_depends : NamesDeclaration E u f (references f) n → DependsOn u f n
  names_depends k = by_name k.reference k.has k.names

  pub strong_depends : NamesDeclaration E u f (strong_references f) n → DependsOn u f n
  strong_depends k = by_name k.reference (strong_in f k.reference k.has) k.names

  pub length_depends : NamesDeclaration E u f (length_references f) n → DependsOn u f n
  length_depends k = by_name k.reference (length_in f k.reference k.has) k.names
