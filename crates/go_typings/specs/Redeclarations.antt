-- Names that are declared twice.
-- Public source: Go specification, "Declarations and scope", "Uniqueness of identifiers", "Import declarations",
-- "Method declarations" and "Blank identifier". That a used import alone counts is own.
use Rattle.std.specs.Prelude.{◌≡◌, ◌≢◌, ◌<◌, ℕ, suc, false, if◌then◌else◌, List, [], ◌∷◌, ◌++◌, Option, None, Some, slice_get}
use Rattle.go_references.specs.go_base.Gathered.{gather}
use Rattle.go_references.specs.go_syntax.declared.name.Name.{Name}
use Rattle.go_references.specs.go_syntax.declared.name.Place.{Place}
use Rattle.go_rules.specs.Expressions.{is_blank}
use Rattle.go_typings.specs.Declarations.{Form, method, Declaration, file_declarations, is_init, names_of}
use Rattle.go_typings.specs.Receivers.{receiver_name}
use Rattle.go_typings.specs.Sources.{Import, PackageSource, SourceFile}

-- what a name is declared as
pub data Role : Type 0 where
  -- an import of the file of this number
  of_import : ℕ → Role
  -- an object of the package
  of_package : Role
  -- a method of the receiver of this name
  of_receiver : List ℕ → Role

-- a name where it is declared
pub record Site : Type 0 where
  pub place : Place
  pub name : List ℕ
  pub role : Role

abbrev pub site : ℕ → ℕ → List ℕ → Role → List Site
site file offset name role = if is_blank name then [] else record { place = record { file = file; offset = offset }; name = name; role = role } ∷ []

abbrev pub import_site : ℕ → Import → List Site
import_site file i = site file i.place i.name (of_import file)

abbrev pub name_site : ℕ → Name → List Site
name_site file n = site file n.place n.text of_package

abbrev pub method_site : ℕ → Option (List ℕ) → Name → List Site
method_site file None n = []
method_site file (Some receiver) n = site file n.place n.text (of_receiver receiver)

-- the names that a declaration declares, but for blank ones
abbrev pub form_sites : ℕ → Form → List Site
form_sites file (method receiver f) = method_site file (receiver_name receiver) f.name
form_sites file f = gather (name_site file) (names_of f)

abbrev pub declaration_sites : Declaration → List Site
declaration_sites d = form_sites d.file d.form

-- the names that a file declares, its imports before its declarations
abbrev pub file_sites : ℕ → SourceFile → List Site
file_sites file f = gather (import_site file) f.imports ++ gather declaration_sites (file_declarations file f)

abbrev pub sites_from : ℕ → List SourceFile → List Site
sites_from file [] = []
sites_from file (f ∷ fs) = file_sites file f ++ sites_from (suc file) fs

-- the names that a package declares, in the order of the lists: file by file, and in each the imports before the declarations
abbrev pub sites : PackageSource → List Site
sites u = sites_from 0 u.files

-- one name can't be declared in both roles; but several functions may be named `init`, and several imports have no name
abbrev pub Collide : List ℕ → Role → Role → Type 0
Collide name (of_import file) (of_import other) = (file ≡ other) × (name ≢ [])
Collide name (of_import file) of_package = name ≢ []
Collide name of_package (of_import file) = name ≢ []
Collide name of_package of_package = is_init name ≡ false
Collide name (of_receiver receiver) (of_receiver other) = receiver ≡ other
Collide name r q = ⊥

abbrev pub Clash : Site → Site → Type 0
Clash s t = (s.name ≡ t.name) × Collide s.name s.role t.role

-- the name at this number was declared before
pub record IsLater (ss : List Site) (n : ℕ) (s : Site) : Type 0 where
  pub is : slice_get ss n ≡ Some s
  pub earlier : ℕ
  pub site : Site
  pub comes : earlier < n
  pub stands : slice_get ss earlier ≡ Some site
  pub clash : Clash site s

-- the first name, in the order of the lists, that was declared before stands at this place
pub record IsRedeclared (u : PackageSource) (p : Place) : Type 0 where
  pub number : ℕ
  pub site : Site
  pub later : IsLater (sites u) number site
  pub first : (m : ℕ) (t : Site) → m < number → IsLater (sites u) m t → ⊥
  pub place : site.place ≡ p
