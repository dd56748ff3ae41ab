-- Tables of methods that grow by those of declarations.
-- Own: words of the contracts inside this crate.
use Rattle.std.specs.Prelude.{ℕ, suc, List, [], ◌∷◌, ◌++◌, Option, None, Some}
use Rattle.go_rules.specs.Names.{Named, items_at, with_value}
use Rattle.go_declarations.specs.go_typings.Declarations.{Declaration, Form, method}
use Rattle.go_declarations.specs.go_typings.Receivers.{base, is_pointer_form, receiver_form}
use Rattle.go_declared.specs.declared.methods.MethodRow.{MethodRow}

abbrev pub with_row : Named (List MethodRow) → List ℕ → MethodRow → Named (List MethodRow)
with_row t name row = with_value t name (items_at t name ++ row ∷ [])

-- the same of methods by their names
abbrev pub with_namesake : Named (Named (List MethodRow)) → List ℕ → List ℕ → MethodRow → Named (Named (List MethodRow))
with_namesake t type name row = with_value t type (with_row (items_at t type) name row)

-- any table, by what it is with one more method of a type and a name
module _ {T : Type 0} (with_method : T → List ℕ → List ℕ → MethodRow → T) where
  abbrev pub with_based : Option (List ℕ) → T → List ℕ → MethodRow → T
  with_based None t name row = t
  with_based (Some type) t name row = with_method t type name row

  abbrev pub with_form : List Declaration → T → ℕ → Form → T
  with_form ds t number (method receiver f) = with_based (base ds receiver) t f.name.text (record { number = number; pointer = is_pointer_form (receiver_form receiver) })
  with_form ds t number f = t

  -- with the methods of these declarations, from a number on
  abbrev pub with_forms : List Declaration → T → ℕ → List Declaration → T
  with_forms all t number [] = t
  with_forms all t number (d ∷ ds) = with_forms all (with_form all t number d.form) (suc number) ds
