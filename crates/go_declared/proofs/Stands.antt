-- The declaration of a name stands at its number.
use Rattle.std.proofs.Common.{◌≡◌, ◌+◌, ◌<◌, ℕ, zero, suc, Bool, true, false, ◌||◌, List, [], ◌∷◌, length, get_or, Option, None, Some, refl, sym, ap, ◌∙◌, arith}
use Rattle.std.specs.Prelude.{if◌then◌else◌, slice_get}
use Rattle.std.specs.Option.{option_or}
use Rattle.std.proofs.lemmas.Option.{slice_get_within}
use Rattle.go_declarations.specs.Forms.{form_of}
use Rattle.go_declarations.specs.Listings.{declaration_of, declarations_of}
use Rattle.go_declarations.specs.declared.form.Form.{Form as BorrowedForm}
use Rattle.go_declarations.specs.declared.listing.Declaration.{Declaration as Borrowed}
use Rattle.go_rules.proofs.OneName.{none_some}
use Rattle.go_rules.specs.Asks.{texts}
use Rattle.go_rules.specs.Expressions.{is_blank}
use Rattle.go_rules.specs.Names.{Named, value_at}
use Rattle.go_declarations.proofs.go_typings_proofs.Cells.{some_once}
use Rattle.go_declarations.specs.go_typings.Declarations.{declared, declared_by, declared_from, Declaration, Declared, Form, is_init, names_of, place_from}
use Rattle.go_declared.specs.NameTables.{AreDeclared, declared_form, found_form, place_of}
use Rattle.go_declared.specs.inner.FormsAt.{FormAt}
use Rattle.go_declared.specs.declared.names.NamePlace.{NamePlace}

-- so many declarations further on one of this form stands
abbrev StandsOn : List Declaration → ℕ → Declared → Type 0
StandsOn ds from d = (k : ℕ) × (d.number ≡ from + k) × (x : Declaration) × (slice_get ds k ≡ Some x) × (x.form ≡ d.form)

stands_here : (from : ℕ) (d : Declaration) (ds : List Declaration) (o : Option ℕ) (r : Option Declared) (found : Declared) → option_or (declared_by from d.form o) r ≡ Some found
    → (r ≡ Some found → StandsOn ds (suc from) found) → StandsOn (d ∷ ds) from found
stands_here from d ds None r found e h =
    let k = h e in (suc k.0, (k.1 ∙ one from k.0), k.2, k.3, k.4)
  where
    one : (n m : ℕ) → suc n + m ≡ n + suc m
    one n m = omega arith
stands_here from d ds (Some place) r found e h =
    let f = some_once (record { number = from; form = d.form; place = place }) found e in
    (0, (ap (λ (x : Declared). x.number) (sym f) ∙ none from), d, refl, ap (λ (x : Declared). x.form) f)
  where
    none : (n : ℕ) → n ≡ n + 0
    none n = omega arith

stands_from : (from : ℕ) (ds : List Declaration) (name : List ℕ) (d : Declared) → declared_from from ds name ≡ Some d → StandsOn ds from d
stands_from from [] name d e = absurd (none_some e)
stands_from from (x ∷ ds) name d e = stands_here from x ds (place_from 0 (texts (names_of x.form)) name) (declared_from (suc from) ds name) d e (stands_from (suc from) ds name d)

if_some : (b : Bool) (r : Option Declared) (d : Declared) → (if b then None else r) ≡ Some d → r ≡ Some d
if_some true r d e = absurd (none_some e)
if_some false r d e = e

pub stands : (ds : List Declaration) (name : List ℕ) (d : Declared) → declared ds name ≡ Some d → (x : Declaration) × (slice_get ds d.number ≡ Some x) × (x.form ≡ d.form)
stands ds name d e =
    let k = stands_from 0 ds name d (if_some (is_blank name || is_init name) (declared_from 0 ds name) d e) in
    (k.2, (ap (slice_get ds) (k.1 ∙ none k.0) ∙ k.3), k.4)
  where
    none : (n : ℕ) → 0 + n ≡ n
    none n = omega arith

get_borrowed : (xs : List Borrowed) (n : ℕ) (x : Declaration) → slice_get (declarations_of xs) n ≡ Some x → (b : Borrowed) × (slice_get xs n ≡ Some b) × (declaration_of b ≡ x)
get_borrowed [] n x e = absurd (none_some e)
get_borrowed (b ∷ xs) zero x e = (b, refl, some_once (declaration_of b) x e)
get_borrowed (b ∷ xs) (suc n) x e = get_borrowed xs n x e

-- ---- by a table

-- a name that the table doesn't have isn't declared
pub not_declared : (ds : List Declaration) (t : Named NamePlace) (name : List ℕ) → AreDeclared ds t → value_at t name ≡ None → declared ds name ≡ None
not_declared ds t name are e = by (declared ds name) (sym (are name) ∙ e)
  where
    by : (o : Option Declared) → place_of o ≡ None → o ≡ None
    by None h = refl
    by (Some d) h = absurd (none_some (sym h))

-- the declaration at the place of a name is the name's
pub declared_at : (xs : List Borrowed) (name : List ℕ) (p : NamePlace) → place_of (declared (declarations_of xs) name) ≡ Some p
    → (d : Declared) × (declared (declarations_of xs) name ≡ Some d) × (b : Borrowed) × (slice_get xs p.number ≡ Some b) × (form_of b.form ≡ d.form) × (p.place ≡ d.place)
declared_at xs name p e = by (declared (declarations_of xs) name) refl e
  where
    by : (o : Option Declared) → declared (declarations_of xs) name ≡ o → place_of o ≡ Some p
        → (d : Declared) × (declared (declarations_of xs) name ≡ Some d) × (b : Borrowed) × (slice_get xs p.number ≡ Some b) × (form_of b.form ≡ d.form) × (p.place ≡ d.place)
    by None f h = absurd (none_some h)
    by (Some d) f h =
        let s = stands (declarations_of xs) name d f in
        let g = get_borrowed xs d.number s.0 s.1 in
        let q = some_once (record { number = d.number; place = d.place }) p h in
        (d, f, g.0, (ap (slice_get xs) (sym (ap (λ (z : NamePlace). z.number) q)) ∙ g.1), (ap (λ (z : Declaration). z.form) g.2 ∙ s.2), sym (ap (λ (z : NamePlace). z.place) q))

-- the declaration at the place that the table tells is the name's
pub declared_there : (xs : List Borrowed) (t : Named NamePlace) (name : List ℕ) (p : NamePlace) → AreDeclared (declarations_of xs) t → value_at t name ≡ Some p
    → (d : Declared) × (declared (declarations_of xs) name ≡ Some d) × (b : Borrowed) × (slice_get xs p.number ≡ Some b) × (form_of b.form ≡ d.form) × (p.place ≡ d.place)
declared_there xs t name p are e = declared_at xs name p (sym (are name) ∙ e)

-- the form at the place of a name is the name's
pub form_at_place : (xs : List Borrowed) (name : List ℕ) (p : NamePlace) (r : Option BorrowedForm) → place_of (declared (declarations_of xs) name) ≡ Some p → FormAt xs p.number r
    → found_form r ≡ declared_form (declared (declarations_of xs) name)
form_at_place xs name p None e h = let s = declared_at xs name p e in let w = slice_get_within xs p.number s.2 s.3 in absurd (omega (arith, h, w))
form_at_place xs name p (Some f) e h =
    let s = declared_at xs name p e in
    let same = some_once h.0 s.2 (sym h.1 ∙ s.3) in
    ap (λ (x : BorrowedForm). Some (form_of x)) (sym h.2 ∙ ap (λ (b : Borrowed). b.form) same) ∙ ap (λ (x : Form). Some x) s.4 ∙ ap declared_form (sym s.1)

-- the form at the place that the table tells is the name's
pub form_of_name : (xs : List Borrowed) (t : Named NamePlace) (name : List ℕ) (p : NamePlace) (r : Option BorrowedForm) → AreDeclared (declarations_of xs) t → Some p ≡ value_at t name → FormAt xs p.number r
    → found_form r ≡ declared_form (declared (declarations_of xs) name)
form_of_name xs t name p r are e h = form_at_place xs name p r (sym (are name) ∙ sym e) h

pub borrowed_at : (xs : List Borrowed) (n : ℕ) (d : Borrowed) → n < length xs → slice_get xs n ≡ Some (get_or xs n d)
borrowed_at [] n d h = absurd (omega arith)
borrowed_at (x ∷ xs) zero d h = refl
borrowed_at (x ∷ xs) (suc n) d h = borrowed_at xs n d (omega arith)
