-- Entries to which the names of declarations were added in turn tell where each is declared first.
use Rattle.std.proofs.Common.{◌≡◌, ◌+◌, ◌<◌, ◌≤◌, ℕ, suc, Bool, true, false, ◌||◌, cond, List, [], ◌∷◌, ◌++◌, length, take, get_or, Option, None, Some, refl, sym, ap, ◌∙◌, arith}
use mathlib.Core.Bool.{true≢false}
use Rattle.std.specs.Prelude.{if◌then◌else◌}
use Rattle.std.specs.Option.{option_or}
use Rattle.std.specs.Str.{bytes_eq}
use Rattle.std.specs.Cmp.Lexicographic.{bytes_decides}
use Rattle.std.proofs.lemmas.List.{map-append, take_more}
use Rattle.go_base.proofs.Lists.{length_take, take_past}
use Rattle.go_declarations.specs.Forms.{form_of}
use Rattle.go_declarations.specs.Listings.{declaration_of, declarations_of}
use Rattle.go_declarations.specs.declared.listing.Declaration.{Declaration as Borrowed}
use Rattle.go_rules.specs.Asks.{texts}
use Rattle.go_rules.specs.Expressions.{is_blank}
use Rattle.go_rules.specs.Names.{Named, value_at}
use Rattle.go_syntax.specs.declared.name.Name.{Name}
use Rattle.go_declarations.specs.go_typings.Declarations.{declared_by, declared_from, Declaration, Declared, Form, is_init, names_of, place_from}
use Rattle.go_declared.specs.NameTables.{AreDeclared, place_of}
use Rattle.go_declared.specs.declared.names.NamePlace.{NamePlace}
use Rattle.go_declared.specs.inner.Adding.{with_declarations, with_name, with_names}

abbrev is_left_out : List ℕ → Bool
is_left_out name = is_blank name || is_init name

abbrev at : ℕ → Option ℕ → Option NamePlace
at number None = None
at number (Some place) = Some (record { number = number; place = place })

or_none : (o : Option NamePlace) → o ≡ option_or o None
or_none None = refl
or_none (Some x) = refl

same_left_out : (a b : List ℕ) → bytes_eq a b ≡ true → is_left_out b ≡ is_left_out a
same_left_out a b e = ap is_left_out (sym ((bytes_decides a b).0 e))

module _ (q : List ℕ) where
  value_append : (t : Named NamePlace) (n : List ℕ) (v : NamePlace) (e : Bool) → bytes_eq q n ≡ e → value_at (t ++ (n, v) ∷ []) q ≡ option_or (value_at t q) (if e then Some v else None)
  value_append [] n v e h = ap (λ b. cond b (Some v) None) h
  value_append (x ∷ t) n v e h = ap (cond (bytes_eq q x.0) (Some x.1)) (value_append t n v e h) ∙ past (bytes_eq q x.0)
    where
      past : (b : Bool) → cond b (Some x.1) (option_or (value_at t q) (if e then Some v else None)) ≡ option_or (cond b (Some x.1) (value_at t q)) (if e then Some v else None)
      past true = refl
      past false = refl

  turned : (n : List ℕ) (e : Bool) → bytes_eq n q ≡ e → bytes_eq q n ≡ e
  turned n true h = (bytes_decides q n).1 (sym ((bytes_decides n q).0 h))
  turned n false h = other (bytes_eq q n) refl
    where
      other : (b : Bool) → bytes_eq q n ≡ b → b ≡ false
      other true f = absurd (true≢false (sym ((bytes_decides n q).1 (sym ((bytes_decides q n).0 f))) ∙ h))
      other false f = refl

module _ (q : List ℕ) (counts : is_left_out q ≡ false) where
  -- one name more
  added : (t : Named NamePlace) (n : List ℕ) (v : NamePlace) (l e : Bool) → is_left_out n ≡ l → bytes_eq n q ≡ e
      → value_at (if l then t else t ++ (n, v) ∷ []) q ≡ option_or (value_at t q) (if e then Some v else None)
  added t n v true true hl he = absurd (true≢false (sym hl ∙ sym (same_left_out n q he) ∙ counts))
  added t n v true false hl he = or_none (value_at t q)
  added t n v false e hl he = value_append q t n v e (turned q n e he)

  name_added : (t : Named NamePlace) (n : List ℕ) (v : NamePlace) → value_at (with_name t n v) q ≡ option_or (value_at t q) (if bytes_eq n q then Some v else None)
  name_added t n v = added t n v (is_left_out n) (bytes_eq n q) refl refl

  or_or : (a b c : Option NamePlace) → option_or (option_or a b) c ≡ option_or a (option_or b c)
  or_or None b c = refl
  or_or (Some x) b c = refl

  here_or_on : (number place : ℕ) (n : List ℕ) (ns : List (List ℕ)) (b : Bool) → bytes_eq n q ≡ b
      → option_or (if b then Some (record { number = number; place = place }) else None) (at number (place_from (suc place) ns q)) ≡ at number (if b then Some place else place_from (suc place) ns q)
  here_or_on number place n ns true e = refl
  here_or_on number place n ns false e = refl

  names_added : (t : Named NamePlace) (number place : ℕ) (ns : List Name) → value_at (with_names t number place ns) q ≡ option_or (value_at t q) (at number (place_from place (texts ns) q))
  names_added t number place [] = or_none (value_at t q)
  names_added t number place (n ∷ ns) =
      names_added (with_name t n.text (record { number = number; place = place })) number (suc place) ns
      ∙ ap (λ o. option_or o (at number (place_from (suc place) (texts ns) q))) (name_added t n.text (record { number = number; place = place }))
      ∙ or_or (value_at t q) (if bytes_eq n.text q then Some (record { number = number; place = place }) else None) (at number (place_from (suc place) (texts ns) q))
      ∙ ap (option_or (value_at t q)) (here_or_on number place n.text (texts ns) (bytes_eq n.text q) refl)

  declared_at : (number : ℕ) (f : Form) (o : Option ℕ) (r : Option Declared) → option_or (at number o) (place_of r) ≡ place_of (option_or (declared_by number f o) r)
  declared_at number f None r = refl
  declared_at number f (Some place) r = refl

  all_added : (t : Named NamePlace) (number : ℕ) (ds : List Declaration) → value_at (with_declarations t number ds) q ≡ option_or (value_at t q) (place_of (declared_from number ds q))
  all_added t number [] = or_none (value_at t q)
  all_added t number (d ∷ ds) =
      all_added (with_names t number 0 (names_of d.form)) (suc number) ds
      ∙ ap (λ o. option_or o (place_of (declared_from (suc number) ds q))) (names_added t number 0 (names_of d.form))
      ∙ or_or (value_at t q) (at number (place_from 0 (texts (names_of d.form)) q)) (place_of (declared_from (suc number) ds q))
      ∙ ap (option_or (value_at t q)) (declared_at number d.form (place_from 0 (texts (names_of d.form)) q) (declared_from (suc number) ds q))

module _ (q : List ℕ) (left : is_left_out q ≡ true) where
  -- a name that is left out stands nowhere
  passed : (t : Named NamePlace) (n : List ℕ) (v : NamePlace) (l e : Bool) → is_left_out n ≡ l → bytes_eq q n ≡ e → value_at (if l then t else t ++ (n, v) ∷ []) q ≡ value_at t q
  passed t n v true e hl he = refl
  passed t n v false true hl he = absurd (true≢false (sym left ∙ sym (same_left_out q n he) ∙ hl))
  passed t n v false false hl he = value_append q t n v false he ∙ sym (or_none (value_at t q))

  name_passed : (t : Named NamePlace) (n : List ℕ) (v : NamePlace) → value_at (with_name t n v) q ≡ value_at t q
  name_passed t n v = passed t n v (is_left_out n) (bytes_eq q n) refl refl

  names_passed : (t : Named NamePlace) (number place : ℕ) (ns : List Name) → value_at (with_names t number place ns) q ≡ value_at t q
  names_passed t number place [] = refl
  names_passed t number place (n ∷ ns) = names_passed (with_name t n.text (record { number = number; place = place })) number (suc place) ns ∙ name_passed t n.text (record { number = number; place = place })

  all_passed : (t : Named NamePlace) (number : ℕ) (ds : List Declaration) → value_at (with_declarations t number ds) q ≡ value_at t q
  all_passed t number [] = refl
  all_passed t number (d ∷ ds) = all_passed (with_names t number 0 (names_of d.form)) (suc number) ds ∙ names_passed t number 0 (names_of d.form)

declared_by_table : (ds : List Declaration) (q : List ℕ) (l : Bool) → is_left_out q ≡ l → value_at (with_declarations [] 0 ds) q ≡ place_of (if l then None else declared_from 0 ds q)
declared_by_table ds q true e = all_passed q e [] 0 ds
declared_by_table ds q false e = all_added q e [] 0 ds

pub table_declared : (ds : List Declaration) (t : Named NamePlace) → t ≡ with_declarations [] 0 ds → AreDeclared ds t
table_declared ds t e = λ q. ap (λ (n : Named NamePlace). value_at n q) e ∙ declared_by_table ds q (is_left_out q) refl

-- ---- in turn

names_split : (t : Named NamePlace) (number place : ℕ) (xs ys : List Name) → with_names t number place (xs ++ ys) ≡ with_names (with_names t number place xs) number (place + length xs) ys
names_split t number place [] ys = ap (λ (k : ℕ). with_names t number k ys) (none place)
  where
    none : (k : ℕ) → k ≡ k + 0
    none k = omega arith
names_split t number place (x ∷ xs) ys = names_split (with_name t x.text (record { number = number; place = place })) number (suc place) xs ys ∙ ap (λ (k : ℕ). with_names (with_names t number place (x ∷ xs)) number k ys) (one place (length xs))
  where
    one : (k m : ℕ) → suc k + m ≡ k + suc m
    one k m = omega arith

all_split : (t : Named NamePlace) (number : ℕ) (xs ys : List Declaration) → with_declarations t number (xs ++ ys) ≡ with_declarations (with_declarations t number xs) (number + length xs) ys
all_split t number [] ys = ap (λ (k : ℕ). with_declarations t k ys) (none number)
  where
    none : (k : ℕ) → k ≡ k + 0
    none k = omega arith
all_split t number (x ∷ xs) ys = all_split (with_names t number 0 (names_of x.form)) (suc number) xs ys ∙ ap (λ (k : ℕ). with_declarations (with_declarations t number (x ∷ xs)) k ys) (one number (length xs))
  where
    one : (k m : ℕ) → suc k + m ≡ k + suc m
    one k m = omega arith

pub names_next : (t u v : Named NamePlace) (number i : ℕ) (x : Name) (xs : List Name) → i < length xs → x ≡ get_or xs i x → u ≡ with_names t number 0 (take i xs) → v ≡ with_name u x.text (record { number = number; place = i }) → v ≡ with_names t number 0 (take (i + 1) xs)
names_next t u v number i x xs h e f g =
    g ∙ ap (λ (w : Named NamePlace). with_name w x.text (record { number = number; place = i })) f
    ∙ ap (λ (k : ℕ). with_name (with_names t number 0 (take i xs)) x.text (record { number = number; place = k })) (sym (length_take i xs (omega (arith, h))) ∙ none (length (take i xs)))
    ∙ sym (names_split t number 0 (take i xs) (x ∷ [])) ∙ ap (with_names t number 0) (sym (take_more xs i x h ∙ ap (λ (z : Name). take i xs ++ z ∷ []) (sym e)))
  where
    none : (k : ℕ) → k ≡ 0 + k
    none k = omega arith

pub names_whole : (t u : Named NamePlace) (number i : ℕ) (xs : List Name) → length xs ≤ i → u ≡ with_names t number 0 (take i xs) → u ≡ with_names t number 0 xs
names_whole t u number i xs h f = f ∙ ap (with_names t number 0) (take_past i xs h)

pub as_long : (xs : List Borrowed) → length (declarations_of xs) ≡ length xs
as_long [] = refl
as_long (x ∷ xs) = ap suc (as_long xs)

pub declarations_next : (u v : Named NamePlace) (i : ℕ) (x : Borrowed) (xs : List Borrowed) → i < length xs → x ≡ get_or xs i x → u ≡ with_declarations [] 0 (declarations_of (take i xs)) → v ≡ with_names u i 0 (names_of (form_of x.form))
    → v ≡ with_declarations [] 0 (declarations_of (take (i + 1) xs))
declarations_next u v i x xs h e f g =
    g ∙ ap (λ (w : Named NamePlace). with_names w i 0 (names_of (form_of x.form))) f
    ∙ ap (λ (k : ℕ). with_names (with_declarations [] 0 (declarations_of (take i xs))) k 0 (names_of (form_of x.form))) (sym (length_take i xs (omega (arith, h))) ∙ sym (as_long (take i xs)) ∙ none (length (declarations_of (take i xs))))
    ∙ sym (all_split [] 0 (declarations_of (take i xs)) (declaration_of x ∷ []))
    ∙ ap (with_declarations [] 0) (sym (map-append declaration_of (take i xs) (x ∷ [])))
    ∙ ap (λ (ds : List Borrowed). with_declarations [] 0 (declarations_of ds)) (sym (take_more xs i x h ∙ ap (λ (z : Borrowed). take i xs ++ z ∷ []) (sym e)))
  where
    none : (k : ℕ) → k ≡ 0 + k
    none k = omega arith

pub declarations_whole : (u : Named NamePlace) (i : ℕ) (xs : List Borrowed) → length xs ≤ i → u ≡ with_declarations [] 0 (declarations_of (take i xs)) → AreDeclared (declarations_of xs) u
declarations_whole u i xs h f = table_declared (declarations_of xs) u (f ∙ ap (λ (ds : List Borrowed). with_declarations [] 0 (declarations_of ds)) (take_past i xs h))
