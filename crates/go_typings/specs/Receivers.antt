-- The receivers of methods, and which methods a defined type has, as the declarations say.
-- Public source: Go specification, "Method declarations" and "Alias declarations".
use Rattle.std.specs.Prelude.{ℕ, zero, suc, Bool, true, false, not, if◌then◌else◌, List, [], ◌∷◌, ◌++◌, filter, length, Option, None, Some}
use Rattle.std.specs.Str.{bytes_eq}
use Rattle.go_rules.specs.go_model.declared.types.names.Sel.{Sel}
use Rattle.go_rules.specs.Environments.{is_exported}
use Rattle.go_rules.specs.Expressions.{is_blank}
use Rattle.go_references.specs.go_syntax.declared.name.Name.{Name}
use Rattle.go_references.specs.go_syntax.declared.name.QualifiedName.{QualifiedName}
use Rattle.go_references.specs.go_syntax.declared.types.ParameterDecl.{ParameterDecl, out-ParameterDecl}
use Rattle.go_references.specs.go_syntax.declared.types.«Type».{«Type» as Typ, «Type-F» as Typ-F, «fold-Type» as fold-Type}
use Rattle.go_typings.specs.Declarations.{Form, alias, definition, method, Declaration, Declared, declared, declarations}
use Rattle.go_typings.specs.Sources.{PackageSource}

-- ---- types that are written as a name, or as a pointer to one

-- the name of a type, and whether `*` stands before it
pub record NameForm : Type 0 where
  pub pointer : Bool
  pub name : QualifiedName

-- a pointer to a name, but not to a pointer
abbrev pub pointer_form : Option NameForm → Option NameForm
pointer_form None = None
pointer_form (Some f) = if f.pointer then None else Some (record { pointer = true; name = f.name })

abbrev pub form_step : Typ-F (Unit {0}) (Unit {0}) (Unit {0}) (Unit {0}) (Unit {0}) (Unit {0}) (Option NameForm) (Unit {0}) (Unit {0}) (Unit {0}) → Option NameForm
form_step (Typ-F.«Type::Named» name) = Some (record { pointer = false; name = name })
form_step (Typ-F.«Type::Paren» inner) = inner
form_step (Typ-F.Pointer base) = pointer_form base
form_step l = None

-- a type that is written as a name or as a pointer to one, parentheses aside
abbrev pub name_form : Typ → Option NameForm
name_form = fold-Type (Unit {0}) (Unit {0}) (Unit {0}) (Unit {0}) (Unit {0}) (Unit {0}) (Option NameForm) (Unit {0}) (Unit {0}) (Unit {0}) (λ x. tt) (λ x. tt) (λ x. tt) (λ x. tt) (λ x. tt) (λ x. tt) form_step (λ x. tt) (λ x. tt) (λ x. tt)

-- ---- aliases of the package

-- the name of a type that is written as a name
abbrev pub written_name : Option NameForm → Option QualifiedName
written_name None = None
written_name (Some f) = if f.pointer then None else Some f.name

-- the name that a declaration makes its own an alias of
abbrev pub aliased_by : Form → Option QualifiedName
aliased_by (alias s) = written_name (name_form s.type_)
aliased_by f = None

abbrev pub aliased : Option Declared → Option QualifiedName
aliased None = None
aliased (Some d) = aliased_by d.form

-- a name by itself, or after a qualifier
abbrev pub own_aliased : List Declaration → Option Name → Name → Option QualifiedName
own_aliased ds None name = aliased (declared ds name.text)
own_aliased ds (Some qualifier) name = None

abbrev pub next_or : QualifiedName → Option QualifiedName → (QualifiedName → QualifiedName) → QualifiedName
next_or q None further = q
next_or q (Some next) further = further next

-- the name that a type's name is after so many aliases of the package
unfoldable pub unaliased : List Declaration → ℕ → QualifiedName → QualifiedName
unaliased ds zero q = q
unaliased ds (suc n) q = next_or q (own_aliased ds q.qualifier q.name) (unaliased ds n)

-- the name that a type's name is after the aliases of the package
abbrev pub after_aliases : List Declaration → QualifiedName → QualifiedName
after_aliases ds q = unaliased ds (length ds) q

-- ---- the defined type that a method is declared for

abbrev pub definition_name : Form → Option (List ℕ)
definition_name (definition s) = Some s.name.text
definition_name f = None

-- the defined type of the package that a name stands for
abbrev pub defined_name : Option Declared → Option (List ℕ)
defined_name None = None
defined_name (Some d) = definition_name d.form

abbrev pub own_definition : List Declaration → Option Name → Name → Option (List ℕ)
own_definition ds None name = defined_name (declared ds name.text)
own_definition ds (Some qualifier) name = None

abbrev pub named_definition : List Declaration → QualifiedName → Option (List ℕ)
named_definition ds q = own_definition ds q.qualifier q.name

-- a receiver's type as a name or a pointer to one
abbrev pub receiver_form : ParameterDecl → Option NameForm
receiver_form receiver = name_form (out-ParameterDecl receiver).type_

abbrev pub base_in : List Declaration → Option NameForm → Option (List ℕ)
base_in ds None = None
base_in ds (Some f) = named_definition ds (after_aliases ds f.name)

-- the receiver's base type: the defined type of the package whose name, after the aliases of the package, the receiver's
-- type is or points to
abbrev pub base : List Declaration → ParameterDecl → Option (List ℕ)
base ds receiver = base_in ds (receiver_form receiver)

abbrev pub is_pointer_form : Option NameForm → Bool
is_pointer_form None = false
is_pointer_form (Some f) = f.pointer

-- the name that a receiver's type is written by
abbrev pub bare : Option Name → Name → Option (List ℕ)
bare None name = Some name.text
bare (Some qualifier) name = None

abbrev pub form_text : Option NameForm → Option (List ℕ)
form_text None = None
form_text (Some f) = bare f.name.qualifier f.name.name

abbrev pub receiver_name : ParameterDecl → Option (List ℕ)
receiver_name receiver = form_text (receiver_form receiver)

-- ---- the methods of a type

-- a method, as its declaration says: the number of this, the selector, and whether the receiver is a pointer
pub record DeclaredMethod : Type 0 where
  pub number : ℕ
  pub sel : Sel
  pub pointer : Bool

-- the selector of a name in the package of this path
abbrev pub selector : List ℕ → List ℕ → Sel
selector path name = record { name = name; «package» = if is_exported name then [] else path }

abbrev pub is_named : List ℕ → Option (List ℕ) → Bool
is_named name None = false
is_named name (Some other) = bytes_eq other name

-- the method that a declaration declares, where it is one of the type of this name
abbrev pub method_by : PackageSource → List ℕ → ℕ → Form → List DeclaredMethod
method_by u type number (method receiver f) =
    if is_named type (base (declarations u) receiver) then record { number = number; sel = selector u.path f.name.text; pointer = is_pointer_form (receiver_form receiver) } ∷ [] else []
method_by u type number f = []

abbrev pub methods_from : PackageSource → List ℕ → ℕ → List Declaration → List DeclaredMethod
methods_from u type number [] = []
methods_from u type number (d ∷ ds) = method_by u type number d.form ++ methods_from u type (suc number) ds

-- all methods that are declared for the defined type of this name
abbrev pub declared_methods : PackageSource → List ℕ → List DeclaredMethod
declared_methods u type = methods_from u type 0 (declarations u)

abbrev pub is_selectable : DeclaredMethod → Bool
is_selectable m = not (is_blank m.sel.name)

-- those that a selector can find: the blank ones can't be
abbrev pub methods : PackageSource → List ℕ → List DeclaredMethod
methods u type = filter is_selectable (declared_methods u type)
