-- Which declaration of a defined type is the first of its name.
use Rattle.std.proofs.Common.{◌≡◌, ◌<◌, nat_eq, ℕ, suc, Bool, true, false, ◌||◌, ◌&&◌, List, [], ◌∷◌, Option, None, Some, refl, sym, ap, ◌∙◌, arith}
use Rattle.std.specs.Prelude.{if◌then◌else◌}
use Rattle.std.specs.Cmp.Lexicographic.{bytes_decides}
use Rattle.std.specs.Option.{option_or}
use Rattle.std.specs.Str.{bytes_eq}
use Rattle.std.proofs.lemmas.Bool.{eqb-true, eq-eqb}
use Rattle.go_declared.proofs.BaseTypes.{only_name}
use Rattle.go_declared.specs.NameTables.{AreDeclared, is_first, is_in, place_of}
use Rattle.go_declared.specs.declared.names.NamePlace.{NamePlace}
use Rattle.go_rules.specs.Asks.{texts}
use Rattle.go_rules.specs.Expressions.{is_blank}
use Rattle.go_rules.specs.Names.{Named, value_at}
use Rattle.go_typings.proofs.Cells.{none_some, some_once}
use Rattle.go_typings.specs.Declarations.{alias, constants, declared, declared_by, declared_from, Declaration, Declared, definition, Form, function, is_init, method, names_of, place_from, variables}

-- the declaration of the name is that of a defined type
abbrev pub is_definition : Form → Bool
is_definition (definition s) = true
is_definition f = false

abbrev pub names_type : Option Declared → Bool
names_type None = false
names_type (Some d) = is_definition d.form

abbrev zero_if : Bool → Option ℕ
zero_if b = if b then Some 0 else None

no_name : (n q : List ℕ) → place_from 0 (n ∷ []) q ≡ None → bytes_eq n q ≡ false
no_name n q e = by (bytes_eq n q) refl e
  where
    by : (b : Bool) → bytes_eq n q ≡ b → zero_if b ≡ None → b ≡ false
    by true h f = none_some {A = ℕ} (Some 0) 0 f refl
    by false h f = refl

module _ (names : Named NamePlace) (q : List ℕ) where
  -- the declaration is that of a defined type of the name, and the first of this
  abbrev pub own_by : ℕ → Form → Bool
  own_by number (definition s) = bytes_eq s.name.text q && is_first names number q
  own_by number f = false

  abbrev pub own_from : ℕ → List Declaration → Bool
  own_from number [] = false
  own_from number (d ∷ ds) = own_by number d.form || own_from (suc number) ds

  and_no : (a b : Bool) → b ≡ false → (a && b) ≡ false
  and_no true b e = e
  and_no false b e = refl

  by_no : (number : ℕ) (f : Form) → is_first names number q ≡ false → own_by number f ≡ false
  by_no number (constants s place) e = refl
  by_no number (variables s) e = refl
  by_no number (alias s) e = refl
  by_no number (definition s) e = and_no (bytes_eq s.name.text q) (is_first names number q) e
  by_no number (function f) e = refl
  by_no number (method receiver f) e = refl

  -- nowhere from a number on, where the first declaration of the name is before it
  pub own_past : (p : NamePlace) (number : ℕ) (ds : List Declaration) → value_at names q ≡ Some p → p.number < number → own_from number ds ≡ false
  own_past p number [] e h = refl
  own_past p number (d ∷ ds) e h =
      ap (λ b. b || own_from (suc number) ds) (by_no number d.form (ap (is_in number) e ∙ other (nat_eq p.number number) refl))
      ∙ own_past p (suc number) ds e (omega arith)
    where
      other : (b : Bool) → nat_eq p.number number ≡ b → b ≡ false
      other true f = let same = eqb-true p.number number f in absurd (omega arith)
      other false f = refl

  own_nowhere : (number : ℕ) (ds : List Declaration) → value_at names q ≡ None → own_from number ds ≡ false
  own_nowhere number [] e = refl
  own_nowhere number (d ∷ ds) e = ap (λ b. b || own_from (suc number) ds) (by_no number d.form (ap (is_in number) e)) ∙ own_nowhere (suc number) ds e

  -- a declaration that declares another name isn't its own
  not_by : (number : ℕ) (f : Form) → place_from 0 (texts (names_of f)) q ≡ None → own_by number f ≡ false
  not_by number (constants s place) e = refl
  not_by number (variables s) e = refl
  not_by number (alias s) e = refl
  not_by number (definition s) e = ap (λ b. b && is_first names number q) (no_name s.name.text q e)
  not_by number (function f) e = refl
  not_by number (method receiver f) e = refl

  by_place : (number place : ℕ) (f : Form) → place_from 0 (texts (names_of f)) q ≡ Some place → is_first names number q ≡ true → own_by number f ≡ is_definition f
  by_place number place (constants s at) e h = refl
  by_place number place (variables s) e h = refl
  by_place number place (alias s) e h = refl
  by_place number place (definition s) e h = ap (λ b. b && is_first names number q) ((bytes_decides s.name.text q).1 (only_name s.name.text q place e)) ∙ h
  by_place number place (function f) e h = refl
  by_place number place (method receiver f) e h = refl

  or_no : (b c : Bool) → c ≡ false → (b || c) ≡ b
  or_no true c e = refl
  or_no false c e = e

  own_declared : (w : Declared) (number : ℕ) (ds : List Declaration) → value_at names q ≡ place_of (Some w) → declared_from number ds q ≡ Some w → own_from number ds ≡ is_definition w.form
  own_declared w number [] t e = none_some {A = Declared} None w refl e
  own_declared w number (d ∷ ds) t e = by (place_from 0 (texts (names_of d.form)) q) refl e (own_declared w (suc number) ds t)
    where
      by : (o : Option ℕ) → place_from 0 (texts (names_of d.form)) q ≡ o → option_or (declared_by number d.form o) (declared_from (suc number) ds q) ≡ Some w
          → (declared_from (suc number) ds q ≡ Some w → own_from (suc number) ds ≡ is_definition w.form) → (own_by number d.form || own_from (suc number) ds) ≡ is_definition w.form
      by None h f later = ap (λ b. b || own_from (suc number) ds) (not_by number d.form h) ∙ later f
      by (Some place) h f later =
          let same = some_once (record { number = number; form = d.form; place = place }) w f in
          let here : w.number ≡ number = sym (ap (λ (x : Declared). x.number) same) in
          or_no (own_by number d.form) (own_from (suc number) ds) (own_past (record { number = w.number; place = w.place }) (suc number) ds t (omega (arith, here)))
          ∙ by_place number place d.form h (ap (is_in number) t ∙ eq-eqb w.number number here)
          ∙ ap (λ (x : Declared). is_definition x.form) same

  left_out : (b : Bool) (ds : List Declaration) → value_at names q ≡ place_of (if b then None else declared_from 0 ds q) → own_from 0 ds ≡ names_type (if b then None else declared_from 0 ds q)
  left_out true ds t = own_nowhere 0 ds t
  left_out false ds t = by (declared_from 0 ds q) refl
    where
      by : (o : Option Declared) → declared_from 0 ds q ≡ o → own_from 0 ds ≡ names_type o
      by None h = own_nowhere 0 ds (t ∙ ap place_of h)
      by (Some w) h = own_declared w 0 ds (t ∙ ap place_of h) h

  -- one of the declarations is the first of the name and declares a type, where the name is declared as a type
  pub own_first : (ds : List Declaration) → AreDeclared ds names → own_from 0 ds ≡ names_type (declared ds q)
  own_first ds are = left_out (is_blank q || is_init q) ds (are q)
