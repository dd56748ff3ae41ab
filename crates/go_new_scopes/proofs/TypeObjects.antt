-- Which names mean types, where the types of declarations were declared in turn.
use Rattle.std.proofs.Common.{◌≡◌, ℕ, suc, Bool, true, false, ◌||◌, ◌&&◌, List, [], ◌∷◌, Option, None, Some, refl, sym, ap, ◌∙◌}
use Rattle.std.specs.Prelude.{if◌then◌else◌, is_some}
use Rattle.std.specs.Cmp.Lexicographic.{bytes_decides}
use Rattle.std.specs.Option.{option_or}
use Rattle.std.specs.Str.{bytes_eq}
use Rattle.go_declared.proofs.BaseTypes.{own_name}
use Rattle.go_declared.specs.NameTables.{AreDeclared, is_first}
use Rattle.go_declared.specs.declared.names.NamePlace.{NamePlace}
use Rattle.go_rules.specs.Names.{Named, value_at, with_value}
use Rattle.go_rules.specs.declared.seen.Seen.{Seen}
use Rattle.go_typings.specs.Declarations.{alias, constants, declared, Declaration, Declared, definition, Form, function, method, variables}
use Rattle.go_typings.specs.PackageEnvironments.{as_object, entity_at}
use Rattle.go_new_scopes.proofs.Lookups.{none_or, or_none, or_or, put_told, some_or}
use Rattle.go_new_scopes.proofs.OwnDeclarations.{is_definition, names_type, own_by, own_first, own_from}
use Rattle.go_new_scopes.specs.inner.OwnTypes.{type_object, with_declarations, with_form, with_type}

module _ (path : List ℕ) (names : Named NamePlace) (q : List ℕ) where
  abbrev object_if : Bool → Option Seen
  object_if b = if b then Some (type_object path q) else None

  type_by : (t : Named Seen) (n : List ℕ) (p e : Bool) → is_some (value_at t n) ≡ p → bytes_eq n q ≡ e → value_at (if p then t else with_value t n (type_object path n)) q ≡ option_or (value_at t q) (object_if e)
  type_by t n true true hp he = some_or (value_at t q) (object_if true) (ap (λ k. is_some (value_at t k)) (sym ((bytes_decides n q).0 he)) ∙ hp)
  type_by t n true false hp he = or_none (value_at t q)
  type_by t n false true hp he =
      put_told t n (type_object path n) q true he
      ∙ ap (λ (k : List ℕ). Some (type_object path k)) ((bytes_decides n q).0 he)
      ∙ none_or (value_at t q) (object_if true) (ap (λ k. is_some (value_at t k)) (sym ((bytes_decides n q).0 he)) ∙ hp)
  type_by t n false false hp he = put_told t n (type_object path n) q false he ∙ or_none (value_at t q)

  type_told : (t : Named Seen) (n : List ℕ) → value_at (with_type path t n) q ≡ option_or (value_at t q) (object_if (bytes_eq n q))
  type_told t n = type_by t n (is_some (value_at t n)) (bytes_eq n q) refl refl

  definition_by : (t : Named Seen) (number : ℕ) (n : List ℕ) (b e : Bool) → is_first names number n ≡ b → bytes_eq n q ≡ e
      → value_at (if b then with_type path t n else t) q ≡ option_or (value_at t q) (object_if (e && is_first names number q))
  definition_by t number n true true hb he = type_told t n ∙ ap (λ c. option_or (value_at t q) (object_if c)) (he ∙ sym hb ∙ ap (is_first names number) ((bytes_decides n q).0 he))
  definition_by t number n true false hb he = type_told t n ∙ ap (λ c. option_or (value_at t q) (object_if c)) he
  definition_by t number n false true hb he = or_none (value_at t q) ∙ ap (λ c. option_or (value_at t q) (object_if c)) (sym hb ∙ ap (is_first names number) ((bytes_decides n q).0 he))
  definition_by t number n false false hb he = or_none (value_at t q)

  form_told : (t : Named Seen) (number : ℕ) (f : Form) → value_at (with_form path names t number f) q ≡ option_or (value_at t q) (object_if (own_by names q number f))
  form_told t number (constants s place) = or_none (value_at t q)
  form_told t number (variables s) = or_none (value_at t q)
  form_told t number (alias s) = or_none (value_at t q)
  form_told t number (definition s) = definition_by t number s.name.text (is_first names number s.name.text) (bytes_eq s.name.text q) refl refl
  form_told t number (function f) = or_none (value_at t q)
  form_told t number (method receiver f) = or_none (value_at t q)

  if_or : (a b : Bool) → option_or (object_if a) (object_if b) ≡ object_if (a || b)
  if_or true b = refl
  if_or false b = refl

  declarations_told : (t : Named Seen) (number : ℕ) (ds : List Declaration) → value_at (with_declarations path names t number ds) q ≡ option_or (value_at t q) (object_if (own_from names q number ds))
  declarations_told t number [] = or_none (value_at t q)
  declarations_told t number (d ∷ ds) =
      declarations_told (with_form path names t number d.form) (suc number) ds
      ∙ ap (λ o. option_or o (object_if (own_from names q (suc number) ds))) (form_told t number d.form)
      ∙ or_or (value_at t q) (object_if (own_by names q number d.form)) (object_if (own_from names q (suc number) ds))
      ∙ ap (option_or (value_at t q)) (if_or (own_by names q number d.form) (own_from names q (suc number) ds))

  -- with no entry a name denotes an object where it is that of a defined type
  object_of : (ds : List Declaration) (o : Option Declared) → declared ds q ≡ o → object_if (names_type o) ≡ as_object (entity_at path (λ n. None) o)
  object_of ds None e = refl
  object_of ds (Some w) e = by w.form refl
    where
      by : (f : Form) → w.form ≡ f → object_if (is_definition f) ≡ as_object (entity_at path (λ n. None) (Some (record { number = w.number; form = f; place = w.place })))
      by (constants s place) h = refl
      by (variables s) h = refl
      by (alias s) h = refl
      by (definition s) h = ap (λ (k : List ℕ). Some (type_object path k)) (sym (own_name ds q w s e h))
      by (function f) h = refl
      by (method receiver f) h = refl

  pub objects_at_first : (ds : List Declaration) → AreDeclared ds names → value_at (with_declarations path names [] 0 ds) q ≡ as_object (entity_at path (λ n. None) (declared ds q))
  objects_at_first ds are = declarations_told [] 0 ds ∙ ap object_if (own_first names q ds are) ∙ object_of ds (declared ds q) refl
