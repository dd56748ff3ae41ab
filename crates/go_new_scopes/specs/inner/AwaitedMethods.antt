-- The selectors of the methods that the defined types of a package are known to have.
-- Own: words of the contracts inside this crate.
use Rattle.std.specs.Prelude.{ℕ, suc, if◌then◌else◌, List, [], ◌∷◌, ◌++◌}
use Rattle.go_declared.specs.MethodTables.{method_name}
use Rattle.go_declared.specs.NameTables.{is_first}
use Rattle.go_declared.specs.declared.methods.MethodRow.{MethodRow}
use Rattle.go_declared.specs.declared.names.NamePlace.{NamePlace}
use Rattle.go_model.specs.declared.types.names.Sel.{Sel}
use Rattle.go_rules.specs.Expressions.{is_blank}
use Rattle.go_rules.specs.Names.{Named, items_at, with_value}
use Rattle.go_typings.specs.Declarations.{Declaration, Form, definition}
use Rattle.go_typings.specs.Receivers.{selector}

-- with the selector of a method of the type, unless no selector can find it
abbrev pub with_method : List ℕ → List ℕ → Named (List Sel) → List ℕ → Named (List Sel)
with_method path type t name = if is_blank name then t else with_value t type (items_at t type ++ selector path name ∷ [])

module _ (ds : List Declaration) (path : List ℕ) where
  abbrev pub with_rows : List ℕ → Named (List Sel) → List MethodRow → Named (List Sel)
  with_rows type t [] = t
  with_rows type t (r ∷ rs) = with_rows type (with_method path type t (method_name ds r.number)) rs

  module _ (names : Named NamePlace) (methods : Named (List MethodRow)) where
    abbrev pub with_form : Named (List Sel) → ℕ → Form → Named (List Sel)
    with_form t number (definition s) = if is_first names number s.name.text then with_rows s.name.text t (items_at methods s.name.text) else t
    with_form t number f = t

    -- with the methods of the types that these declarations declare, which are numbered from one on
    abbrev pub with_declarations : Named (List Sel) → ℕ → List Declaration → Named (List Sel)
    with_declarations t number [] = t
    with_declarations t number (x ∷ xs) = with_declarations (with_form t number x.form) (suc number) xs
