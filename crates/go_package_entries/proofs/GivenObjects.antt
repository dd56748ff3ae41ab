-- The names of a declaration that are given their objects in turn mean them.
use Rattle.std.proofs.Common.{◌≡◌, ◌≤◌, ℕ, suc, Bool, true, false, ◌&&◌, ◌||◌, List, [], ◌∷◌, nat_eq, Option, None, Some, refl, sym, ap, ◌∙◌, subst, arith}
use Rattle.std.specs.Prelude.{if◌then◌else◌, is_some, slice_get}
use Rattle.std.specs.Option.{option_or}
use Rattle.std.specs.Str.{bytes_eq}
use Rattle.std.specs.Cmp.Lexicographic.{bytes_decides}
use Rattle.std.proofs.lemmas.Bool.Decides.{nat_tests}
use mathlib.Core.Bool.{true≢false}
use Rattle.go_declared.specs.NameTables.{AreDeclared, place_of}
use Rattle.go_declared.specs.declared.names.NamePlace.{NamePlace}
use Rattle.go_model.specs.declared.types.package.Entity.{Entity}
use Rattle.go_package_scopes.proofs.DeclaredNames.{form_of}
use Rattle.go_package_scopes.proofs.OneMoreEntry.{itself, same_number}
use Rattle.go_package_scopes.proofs.Tables.{put_elsewhere, put_here}
use Rattle.go_package_scopes.specs.KeptScopes.{HasObjects, object_here}
use Rattle.go_rules.specs.Asks.{texts}
use Rattle.go_rules.specs.Expressions.{is_blank}
use Rattle.go_rules.specs.Names.{Named, value_at, with_value}
use Rattle.go_rules.specs.declared.seen.Seen.{Seen}
use Rattle.go_syntax.specs.declared.name.Name.{Name}
use Rattle.go_typings.proofs.Cells.{if_false, if_true, some_once}
use Rattle.go_typings.specs.Declarations.{declared, declared_by, declared_from, Declaration, Declared, is_init, names_of, place_from}
use Rattle.go_typings.specs.PackageEnvironments.{as_object}
use Rattle.go_package_entries.specs.inner.GivenObjects.{is_at, object_at, with_new, with_objects}

none_is : {A B : Type 0} (x : A) → ◌≡◌ {A = Option A} None (Some x) → B
none_is x e = absurd cc

turned : (a b : List ℕ) (c : Bool) → bytes_eq a b ≡ c → bytes_eq b a ≡ c
turned a b true e = (bytes_decides b a).1 (sym ((bytes_decides a b).0 e))
turned a b false e = other (bytes_eq b a) refl
  where
    other : (d : Bool) → bytes_eq b a ≡ d → d ≡ false
    other true h = absurd (true≢false (sym ((bytes_decides a b).1 (sym ((bytes_decides b a).0 h))) ∙ e))
    other false h = refl

-- ---- the place of a name

placed_by : (number : ℕ) (d : Declaration) (o : Option ℕ) (r : Option Declared) (w : Declared) (name : List ℕ) → place_from 0 (texts (names_of d.form)) name ≡ o → option_or (declared_by number d.form o) r ≡ Some w
    → (r ≡ Some w → place_from 0 (texts (names_of w.form)) name ≡ Some w.place) → place_from 0 (texts (names_of w.form)) name ≡ Some w.place
placed_by number d None r w name e h rest = rest h
placed_by number d (Some place) r w name e h rest =
    subst (λ (v : Declared). place_from 0 (texts (names_of v.form)) name ≡ Some v.place) (some_once (record { number = number; form = d.form; place = place }) w h) e

placed_from : (number : ℕ) (ds : List Declaration) (name : List ℕ) (w : Declared) → declared_from number ds name ≡ Some w → place_from 0 (texts (names_of w.form)) name ≡ Some w.place
placed_from number [] name w e = none_is w e
placed_from number (d ∷ ds) name w e =
    placed_by number d (place_from 0 (texts (names_of d.form)) name) (declared_from (suc number) ds name) w name refl e (placed_from (suc number) ds name w)

-- a name stands at its place among those of its declaration
placed : (ds : List Declaration) (name : List ℕ) (w : Declared) → declared ds name ≡ Some w → place_from 0 (texts (names_of w.form)) name ≡ Some w.place
placed ds name w e = by (is_blank name || is_init name) e
  where
    by : (b : Bool) → (if b then None else declared_from 0 ds name) ≡ Some w → place_from 0 (texts (names_of w.form)) name ≡ Some w.place
    by true f = none_is w f
    by false f = placed_from 0 ds name w f

-- ---- one meaning more

module _ (old : Named Seen) (name : List ℕ) where
  new_elsewhere : (o : Option Seen) (q : List ℕ) → bytes_eq q name ≡ false → value_at (with_new old name o) q ≡ value_at old q
  new_elsewhere None q e = refl
  new_elsewhere (Some s) q e = by (is_some (value_at old name))
    where
      by : (b : Bool) → value_at (if b then old else with_value old name s) q ≡ value_at old q
      by true = refl
      by false = put_elsewhere name s old q e

  new_here : (o : Option Seen) → value_at old name ≡ None → value_at (with_new old name o) name ≡ o
  new_here None e = e
  new_here (Some s) e = ap (λ (t : Named Seen). value_at t name) (if_false (is_some (value_at old name)) old (with_value old name s) (ap is_some e)) ∙ put_here name s old

-- ---- the meanings of the names of a declaration

module _ (t : Named NamePlace) (number : ℕ) (xs : List Entity) (q : List ℕ) where
  -- a name that isn't declared first at any of the places keeps its meaning
  unchanged : (place : ℕ) (ns : List Name) (old : Named Seen) → ((j : ℕ) → place ≤ j → is_at (value_at t q) number j ≡ false) → value_at (with_objects t number xs place ns old) q ≡ value_at old q
  unchanged place [] old h = refl
  unchanged place (n ∷ ns) old h =
      unchanged (suc place) ns (with_new old n.text (object_at t number xs place n.text)) (λ j l. h j (omega (arith, l))) ∙ by (bytes_eq q n.text) refl
    where
      by : (b : Bool) → bytes_eq q n.text ≡ b → value_at (with_new old n.text (object_at t number xs place n.text)) q ≡ value_at old q
      by true e =
          ap (λ o. value_at (with_new old n.text o) q)
          (if_false (is_at (value_at t n.text) number place) (as_object (slice_get xs place)) None (ap (λ k. is_at (value_at t k) number place) (sym ((bytes_decides q n.text).0 e)) ∙ h place (omega arith)))
      by false e = new_elsewhere old n.text (object_at t number xs place n.text) q e

  module _ (p : ℕ) (is : value_at t q ≡ Some (record { number = number; place = p })) where
    no_further : (place : ℕ) → place ≡ p → (j : ℕ) → suc place ≤ j → is_at (value_at t q) number j ≡ false
    no_further place same j l = ap (λ o. is_at o number j) is ∙ ap (λ b. b && nat_eq p j) (itself number) ∙ grind (arith, nat_tests, same, l)

    -- one that is declared first at one of the places means the object there
    given_there : (place : ℕ) (ns : List Name) (old : Named Seen) → place_from place (texts ns) q ≡ Some p → value_at old q ≡ None → value_at (with_objects t number xs place ns old) q ≡ as_object (slice_get xs p)
    given_there place [] old e none = none_is p e
    given_there place (n ∷ ns) old e none = by (bytes_eq n.text q) refl e (given_there (suc place) ns (with_new old n.text (object_at t number xs place n.text)))
      where
        by : (b : Bool) → bytes_eq n.text q ≡ b → (if b then Some place else place_from (suc place) (texts ns) q) ≡ Some p
            → (place_from (suc place) (texts ns) q ≡ Some p → value_at (with_new old n.text (object_at t number xs place n.text)) q ≡ None → value_at (with_objects t number xs place (n ∷ ns) old) q ≡ as_object (slice_get xs p))
            → value_at (with_objects t number xs place (n ∷ ns) old) q ≡ as_object (slice_get xs p)
        by true f g rest =
            unchanged (suc place) ns (with_new old n.text (object_at t number xs place n.text)) (no_further place here)
            ∙ ap (λ k. value_at (with_new old n.text (object_at t number xs place n.text)) k) (sym same)
            ∙ new_here old n.text (object_at t number xs place n.text) (ap (value_at old) same ∙ none)
            ∙ if_true (is_at (value_at t n.text) number place) (as_object (slice_get xs place)) None (ap (λ k. is_at (value_at t k) number place) same ∙ ap (λ o. is_at o number place) is ∙ ap (λ b. b && nat_eq p place) (itself number) ∙ ap (nat_eq p) here ∙ itself p)
            ∙ ap (λ k. as_object (slice_get xs k)) here
          where
            same : n.text ≡ q
            same = (bytes_decides n.text q).0 f

            here : place ≡ p
            here = some_once place p g
        by false f g rest = rest g (new_elsewhere old n.text (object_at t number xs place n.text) q (turned n.text q false f) ∙ none)

-- ---- as the table tells where names are declared

module _ (ds : List Declaration) (t : Named NamePlace) (are : AreDeclared ds t) (n : ℕ) (d : Declaration) (at : slice_get ds n ≡ Some d) (xs : List Entity) (old : Named Seen)
    (none : (name : List ℕ) (w : Declared) → declared ds name ≡ Some w → w.number ≡ n → value_at old name ≡ None) where
  pub objects_given : HasObjects ds n xs old (with_objects t n xs 0 (names_of d.form) old)
  objects_given q = by (declared ds q) refl
    where
      by : (o : Option Declared) → declared ds q ≡ o → value_at (with_objects t n xs 0 (names_of d.form) old) q ≡ option_or (object_here n xs o) (value_at old q)
      by None e = unchanged t n xs q 0 (names_of d.form) old (λ j l. ap (λ v. is_at v n j) (are q ∙ ap place_of e))
      by (Some w) e = at_number (nat_eq w.number n) refl
        where
          at_number : (b : Bool) → nat_eq w.number n ≡ b → value_at (with_objects t n xs 0 (names_of d.form) old) q ≡ option_or (if b then as_object (slice_get xs w.place) else None) (value_at old q)
          at_number false f = unchanged t n xs q 0 (names_of d.form) old (λ j l. ap (λ v. is_at v n j) (are q ∙ ap place_of e) ∙ ap (λ b. b && nat_eq w.place j) f)
          at_number true f =
              given_there t n xs q w.place (are q ∙ ap place_of e ∙ ap (λ (k : ℕ). Some (record { number = k; place = w.place })) same) 0 (names_of d.form) old
              (ap (λ g. place_from 0 (texts (names_of g)) q) (sym (form_of ds q w n d e same at)) ∙ placed ds q w e) absent
              ∙ or_none (as_object (slice_get xs w.place)) ∙ ap (option_or (as_object (slice_get xs w.place))) (sym absent)
            where
              same : w.number ≡ n
              same = same_number w.number n f

              absent : value_at old q ≡ None
              absent = none q w e same

              or_none : (o : Option Seen) → o ≡ option_or o None
              or_none None = refl
              or_none (Some s) = refl
