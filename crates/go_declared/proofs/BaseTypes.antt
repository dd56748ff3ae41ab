-- The defined types for which methods are declared are declared by their own names.
use Rattle.std.proofs.Common.{◌≡◌, ℕ, suc, Bool, true, false, ◌||◌, List, [], ◌∷◌, Option, None, Some, is_some, refl, sym, ap, ◌∙◌}
use mathlib.Core.Bool.{true≢false}
use Rattle.std.specs.Prelude.{if◌then◌else◌}
use Rattle.std.specs.Cmp.Lexicographic.{bytes_decides}
use Rattle.std.specs.Option.{option_or}
use Rattle.std.specs.Str.{bytes_eq}
use Rattle.go_rules.specs.Asks.{texts}
use Rattle.go_rules.specs.Expressions.{is_blank}
use Rattle.go_syntax.specs.declared.declaration.TypeSpec.{TypeSpec}
use Rattle.go_syntax.specs.declared.name.Name.{Name}
use Rattle.go_syntax.specs.declared.name.QualifiedName.{QualifiedName}
use Rattle.go_syntax.specs.declared.types.ParameterDecl.{ParameterDecl}
use Rattle.go_declarations.proofs.go_typings_proofs.Cells.{none_some, some_once}
use Rattle.go_declarations.specs.go_typings.Declarations.{alias, constants, declared, declared_by, declared_from, Declaration, Declared, definition, Form, function, is_init, method, names_of, place_from, variables}
use Rattle.go_declarations.specs.go_typings.Receivers.{after_aliases, base, base_in, defined_name, definition_name, named_definition, NameForm, own_definition, receiver_form}

pub only_name : (n q : List ℕ) (place : ℕ) → place_from 0 (n ∷ []) q ≡ Some place → n ≡ q
only_name n q place e = by (bytes_eq n q) refl e
  where
    by : (b : Bool) → bytes_eq n q ≡ b → (if b then Some 0 else None) ≡ Some place → n ≡ q
    by true h f = (bytes_decides n q).0 h
    by false h f = none_some {A = ℕ} None place refl f

by_form : (number : ℕ) (f : Form) (o : Option ℕ) (q : List ℕ) (w : Declared) → place_from 0 (texts (names_of f)) q ≡ o → declared_by number f o ≡ Some w → (place : ℕ) × (place_from 0 (texts (names_of w.form)) q ≡ Some place)
by_form number f None q w h e = none_some {A = Declared} None w refl e
by_form number f (Some place) q w h e = (place, ap (λ (x : Form). place_from 0 (texts (names_of x)) q) (sym (ap (λ (x : Declared). x.form) (some_once (record { number = number; form = f; place = place }) w e))) ∙ h)

place_in : (number : ℕ) (ds : List Declaration) (q : List ℕ) (w : Declared) → declared_from number ds q ≡ Some w → (place : ℕ) × (place_from 0 (texts (names_of w.form)) q ≡ Some place)
place_in number [] q w e = none_some {A = Declared} None w refl e
place_in number (d ∷ ds) q w e = by (declared_by number d.form (place_from 0 (texts (names_of d.form)) q)) refl e (place_in (suc number) ds q w)
  where
    by : (o : Option Declared) → declared_by number d.form (place_from 0 (texts (names_of d.form)) q) ≡ o → option_or o (declared_from (suc number) ds q) ≡ Some w
        → (declared_from (suc number) ds q ≡ Some w → (place : ℕ) × (place_from 0 (texts (names_of w.form)) q ≡ Some place)) → (place : ℕ) × (place_from 0 (texts (names_of w.form)) q ≡ Some place)
    by None h f later = later f
    by (Some x) h f later = by_form number d.form (place_from 0 (texts (names_of d.form)) q) q w refl (h ∙ f)

unless : (b : Bool) (o : Option Declared) (w : Declared) → (if b then None else o) ≡ Some w → o ≡ Some w
unless true o w e = none_some {A = Declared} None w refl e
unless false o w e = e

-- a defined type is declared by its own name
pub own_name : (ds : List Declaration) (q : List ℕ) (w : Declared) (s : TypeSpec) → declared ds q ≡ Some w → w.form ≡ definition s → s.name.text ≡ q
own_name ds q w s e f =
    let p = place_in 0 ds q w (unless (is_blank q || is_init q) (declared_from 0 ds q) w e) in
    only_name s.name.text q p.0 (ap (λ (x : Form). place_from 0 (texts (names_of x)) q) (sym f) ∙ p.1)

-- the name is that of a defined type, by which it is declared first
pub record IsDefined (ds : List Declaration) (type : List ℕ) : Type 0 where
  pub declaration : Declared
  pub spec : TypeSpec
  pub is : declared ds type ≡ Some declaration
  pub form : declaration.form ≡ definition spec
  pub name : spec.name.text ≡ type

module _ (ds : List Declaration) (type : List ℕ) where
  by_name : (q : List ℕ) (o : Option Declared) → declared ds q ≡ o → defined_name o ≡ Some type → IsDefined ds type
  by_name q None e f = none_some {A = List ℕ} None type refl f
  by_name q (Some w) e f = by w.form refl f
    where
      by : (x : Form) → w.form ≡ x → definition_name x ≡ Some type → IsDefined ds type
      by (constants s place) h g = none_some {A = List ℕ} None type refl g
      by (variables s) h g = none_some {A = List ℕ} None type refl g
      by (alias s) h g = none_some {A = List ℕ} None type refl g
      by (definition s) h g =
          let n : s.name.text ≡ type = some_once s.name.text type g in
          record {
            declaration = w;
            spec = s;
            is = ap (declared ds) (sym n ∙ own_name ds q w s e h) ∙ e;
            form = h;
            name = n;
          }
      by (function f) h g = none_some {A = List ℕ} None type refl g
      by (method receiver f) h g = none_some {A = List ℕ} None type refl g

  by_qualifier : (qualifier : Option Name) (name : Name) → own_definition ds qualifier name ≡ Some type → IsDefined ds type
  by_qualifier None name e = by_name name.text (declared ds name.text) refl e
  by_qualifier (Some x) name e = none_some {A = List ℕ} None type refl e

  by_written : (f : Option NameForm) → base_in ds f ≡ Some type → IsDefined ds type
  by_written None e = none_some {A = List ℕ} None type refl e
  by_written (Some f) e = by_qualifier (after_aliases ds f.name).qualifier (after_aliases ds f.name).name e

  -- the base type of a receiver is a defined type of its name
  pub base_defined : (receiver : ParameterDecl) → base ds receiver ≡ Some type → IsDefined ds type
  base_defined receiver e = by_written (receiver_form receiver) e

-- ---- the definition of a name as it is written

pub definition_qualified : (ds : List Declaration) (q : QualifiedName) → is_some q.qualifier ≡ true → named_definition ds q ≡ None
definition_qualified ds q e = by q.qualifier e
  where
    by : (o : Option Name) → is_some o ≡ true → own_definition ds o q.name ≡ None
    by None h = absurd (true≢false (sym h))
    by (Some x) h = refl

pub definition_own : (ds : List Declaration) (q : QualifiedName) → is_some q.qualifier ≡ false → named_definition ds q ≡ defined_name (declared ds q.name.text)
definition_own ds q e = by q.qualifier e
  where
    by : (o : Option Name) → is_some o ≡ false → own_definition ds o q.name ≡ defined_name (declared ds q.name.text)
    by None h = refl
    by (Some x) h = absurd (true≢false h)
