-- Which methods are awaited, where those of the types of declarations were awaited in turn.
use Rattle.std.proofs.Common.{◌≡◌, ℕ, suc, Bool, true, false, ◌||◌, ◌&&◌, List, [], ◌∷◌, ◌++◌, map, Option, None, Some, refl, sym, ap, ◌∙◌, arith, append_assoc, append-nil}
use mathlib.Core.Bool.{true≢false}
use Rattle.std.specs.Prelude.{filter, if◌then◌else◌, not}
use Rattle.std.specs.Cmp.Lexicographic.{bytes_decides}
use Rattle.std.specs.Option.{unwrap_or}
use Rattle.std.specs.Str.{bytes_eq}
use Rattle.std.proofs.lemmas.Bool.{eqb-true}
use Rattle.go_base.specs.Gathered.{gather}
use Rattle.go_declared.specs.MethodTables.{AreMethods, method_name, method_of}
use Rattle.go_declared.proofs.BaseTypes.{base_defined}
use Rattle.go_declared.specs.NameTables.{AreDeclared, is_first, is_in}
use Rattle.go_declared.specs.declared.methods.MethodRow.{MethodRow}
use Rattle.go_declared.specs.declared.names.NamePlace.{NamePlace}
use Rattle.go_model.specs.declared.types.names.Sel.{Sel}
use Rattle.go_package_scopes.specs.KeptScopes.{selector_of, selectors}
use Rattle.go_rules.specs.Expressions.{is_blank}
use Rattle.go_rules.specs.Names.{Named, items_at, value_at, with_value}
use Rattle.go_syntax.specs.declared.types.ParameterDecl.{ParameterDecl}
use Rattle.go_typings.specs.Declarations.{alias, constants, declarations, declared, Declaration, definition, Form, function, method, variables}
use Rattle.go_typings.specs.Receivers.{base, DeclaredMethod, is_named, is_pointer_form, is_selectable, method_by, methods_from, receiver_form, selector}
use Rattle.go_typings.specs.Sources.{PackageSource}
use Rattle.go_new_scopes.proofs.Lookups.{put_told}
use Rattle.go_new_scopes.proofs.OwnDeclarations.{is_definition, names_type, own_by, own_first, own_from, own_past}
use Rattle.go_new_scopes.specs.inner.AwaitedMethods.{with_declarations, with_form, with_method, with_rows}

-- ---- a type that isn't declared has no methods

module _ (ds : List Declaration) (type : List ℕ) where
  -- the base type of a receiver is declared
  base_declared : (receiver : ParameterDecl) → base ds receiver ≡ Some type → names_type (declared ds type) ≡ true
  base_declared receiver e = let d = base_defined ds type receiver e in ap names_type d.is ∙ ap is_definition d.form

  other_base : (receiver : ParameterDecl) → names_type (declared ds type) ≡ false → is_named type (base ds receiver) ≡ false
  other_base receiver n = by (base ds receiver) refl
    where
      by : (o : Option (List ℕ)) → base ds receiver ≡ o → is_named type o ≡ false
      by None e = refl
      by (Some k) e = same (bytes_eq k type) refl
        where
          same : (b : Bool) → bytes_eq k type ≡ b → b ≡ false
          same true h = absurd (true≢false (sym (base_declared receiver (e ∙ ap (λ (x : List ℕ). Some x) ((bytes_decides k type).0 h))) ∙ n))
          same false h = refl

abbrev only_if : Bool → DeclaredMethod → List DeclaredMethod
only_if b m = if b then m ∷ [] else []

module _ (u : PackageSource) (type : List ℕ) (n : names_type (declared (declarations u) type) ≡ false) where
  none_by : (number : ℕ) (f : Form) → method_by u type number f ≡ []
  none_by number (constants s place) = refl
  none_by number (variables s) = refl
  none_by number (alias s) = refl
  none_by number (definition s) = refl
  none_by number (function f) = refl
  none_by number (method receiver f) =
      ap (λ b. only_if b (record { number = number; sel = selector u.path f.name.text; pointer = is_pointer_form (receiver_form receiver) })) (other_base (declarations u) type receiver n)

  none_from : (number : ℕ) (ds : List Declaration) → methods_from u type number ds ≡ []
  none_from number [] = refl
  none_from number (d ∷ ds) = ap (λ ms. ms ++ methods_from u type (suc number) ds) (none_by number d.form) ∙ none_from (suc number) ds

  no_selectors : selectors u type ≡ []
  no_selectors = ap (λ ms. map selector_of (filter is_selectable ms)) (none_from 0 (declarations u))

-- ---- rows

module _ (ds : List Declaration) (path : List ℕ) (q : List ℕ) where
  -- the selector of a method that a selector can find
  abbrev found : List ℕ → List Sel
  found name = if is_blank name then [] else selector path name ∷ []

  abbrev all_found : List MethodRow → List Sel
  all_found rows = gather (λ r. found (method_name ds r.number)) rows

  abbrev if_own : Bool → List Sel → List Sel
  if_own b ss = if b then ss else []

  put_at : (t : Named (List Sel)) (type : List ℕ) (ss : List Sel) (e : Bool) → bytes_eq type q ≡ e → items_at (with_value t type (items_at t type ++ ss)) q ≡ items_at t q ++ if_own e ss
  put_at t type ss true he =
      ap (λ o. unwrap_or o []) (put_told t type (items_at t type ++ ss) q true he)
      ∙ ap (λ (k : List ℕ). items_at t k ++ ss) ((bytes_decides type q).0 he)
  put_at t type ss false he =
      ap (λ o. unwrap_or o []) (put_told t type (items_at t type ++ ss) q false he)
      ∙ sym (append-nil (items_at t q))

  method_by_name : (t : Named (List Sel)) (type name : List ℕ) (b e : Bool) → is_blank name ≡ b → bytes_eq type q ≡ e
      → items_at (if b then t else with_value t type (items_at t type ++ selector path name ∷ [])) q ≡ items_at t q ++ if_own e (if b then [] else selector path name ∷ [])
  method_by_name t type name true true hb he = sym (append-nil (items_at t q))
  method_by_name t type name true false hb he = sym (append-nil (items_at t q))
  method_by_name t type name false e hb he = put_at t type (selector path name ∷ []) e he

  both : (e : Bool) (xs ys : List Sel) → if_own e xs ++ if_own e ys ≡ if_own e (xs ++ ys)
  both true xs ys = refl
  both false xs ys = refl

  rows_told : (type : List ℕ) (t : Named (List Sel)) (rows : List MethodRow) → items_at (with_rows ds path type t rows) q ≡ items_at t q ++ if_own (bytes_eq type q) (all_found rows)
  rows_told type t [] = sym (append-nil (items_at t q)) ∙ ap (λ ss. items_at t q ++ ss) (none (bytes_eq type q))
    where
      none : (b : Bool) → [] ≡ if_own b []
      none true = refl
      none false = refl
  rows_told type t (r ∷ rs) =
      rows_told type (with_method path type t (method_name ds r.number)) rs
      ∙ ap (λ ss. ss ++ if_own (bytes_eq type q) (all_found rs)) (method_by_name t type (method_name ds r.number) (is_blank (method_name ds r.number)) (bytes_eq type q) refl refl)
      ∙ append_assoc (items_at t q) (if_own (bytes_eq type q) (found (method_name ds r.number))) (if_own (bytes_eq type q) (all_found rs))
      ∙ ap (λ ss. items_at t q ++ ss) (both (bytes_eq type q) (found (method_name ds r.number)) (all_found rs))

  -- ---- types

  module _ (names : Named NamePlace) (methods_at : Named (List MethodRow)) where
    abbrev told : List Sel
    told = all_found (items_at methods_at q)

    definition_by : (t : Named (List Sel)) (number : ℕ) (n : List ℕ) (b e : Bool) → is_first names number n ≡ b → bytes_eq n q ≡ e
        → items_at (if b then with_rows ds path n t (items_at methods_at n) else t) q ≡ items_at t q ++ if_own (e && is_first names number q) told
    definition_by t number n true true hb he =
        rows_told n t (items_at methods_at n)
        ∙ ap (λ c. items_at t q ++ if_own c (all_found (items_at methods_at n))) (he ∙ sym hb ∙ ap (is_first names number) ((bytes_decides n q).0 he))
        ∙ ap (λ (k : List ℕ). items_at t q ++ if_own (is_first names number q) (all_found (items_at methods_at k))) ((bytes_decides n q).0 he)
    definition_by t number n true false hb he = rows_told n t (items_at methods_at n) ∙ ap (λ c. items_at t q ++ if_own c (all_found (items_at methods_at n))) he
    definition_by t number n false true hb he = sym (append-nil (items_at t q)) ∙ ap (λ c. items_at t q ++ if_own c told) (sym hb ∙ ap (is_first names number) ((bytes_decides n q).0 he))
    definition_by t number n false false hb he = sym (append-nil (items_at t q))

    form_told : (t : Named (List Sel)) (number : ℕ) (f : Form) → items_at (with_form ds path names methods_at t number f) q ≡ items_at t q ++ if_own (own_by names q number f) told
    form_told t number (constants s place) = sym (append-nil (items_at t q))
    form_told t number (variables s) = sym (append-nil (items_at t q))
    form_told t number (alias s) = sym (append-nil (items_at t q))
    form_told t number (definition s) = definition_by t number s.name.text (is_first names number s.name.text) (bytes_eq s.name.text q) refl refl
    form_told t number (function f) = sym (append-nil (items_at t q))
    form_told t number (method receiver f) = sym (append-nil (items_at t q))

    -- a type is declared first but once
    by_first : (number : ℕ) (f : Form) → own_by names q number f ≡ true → is_first names number q ≡ true
    by_first number (constants s place) h = absurd (true≢false (sym h))
    by_first number (variables s) h = absurd (true≢false (sym h))
    by_first number (alias s) h = absurd (true≢false (sym h))
    by_first number (definition s) h = right (bytes_eq s.name.text q) (is_first names number q) h
      where
        right : (a b : Bool) → (a && b) ≡ true → b ≡ true
        right true b e = e
        right false b e = absurd (true≢false (sym e))
    by_first number (function f) h = absurd (true≢false (sym h))
    by_first number (method receiver f) h = absurd (true≢false (sym h))

    once : (number : ℕ) (xs : List Declaration) (o : Option NamePlace) → value_at names q ≡ o → is_in number o ≡ true → own_from names q (suc number) xs ≡ false
    once number xs None e h = absurd (true≢false (sym h))
    once number xs (Some p) e h = own_past names q p (suc number) xs e (let same = eqb-true p.number number h in omega arith)

    one_of : (number : ℕ) (f : Form) (xs : List Declaration) (b : Bool) → own_by names q number f ≡ b
        → if_own b told ++ if_own (own_from names q (suc number) xs) told ≡ if_own (b || own_from names q (suc number) xs) told
    one_of number f xs true h =
        ap (λ c. told ++ if_own c told) (once number xs (value_at names q) refl (by_first number f h)) ∙ append-nil told
    one_of number f xs false h = refl

    declarations_told : (t : Named (List Sel)) (number : ℕ) (xs : List Declaration) → items_at (with_declarations ds path names methods_at t number xs) q ≡ items_at t q ++ if_own (own_from names q number xs) told
    declarations_told t number [] = sym (append-nil (items_at t q))
    declarations_told t number (x ∷ xs) =
        declarations_told (with_form ds path names methods_at t number x.form) (suc number) xs
        ∙ ap (λ ss. ss ++ if_own (own_from names q (suc number) xs) told) (form_told t number x.form)
        ∙ append_assoc (items_at t q) (if_own (own_by names q number x.form) told) (if_own (own_from names q (suc number) xs) told)
        ∙ ap (λ ss. items_at t q ++ ss) (one_of number x.form xs (own_by names q number x.form) refl)

-- the rows of a type tell its selectors
selected : (u : PackageSource) (q : List ℕ) (rows : List MethodRow) → all_found (declarations u) u.path q rows ≡ map selector_of (filter is_selectable (map (method_of u) rows))
selected u q [] = refl
selected u q (r ∷ rs) = by (is_blank (method_name (declarations u) r.number)) (selected u q rs)
  where
    by : (b : Bool) → all_found (declarations u) u.path q rs ≡ map selector_of (filter is_selectable (map (method_of u) rs))
        → (if b then [] else selector u.path (method_name (declarations u) r.number) ∷ []) ++ all_found (declarations u) u.path q rs ≡ map selector_of (if not b then method_of u r ∷ filter is_selectable (map (method_of u) rs) else filter is_selectable (map (method_of u) rs))
    by true later = later
    by false later = ap (λ ss. selector u.path (method_name (declarations u) r.number) ∷ ss) later

pub awaited_at_first : (u : PackageSource) (names : Named NamePlace) (methods_at : Named (List MethodRow)) (q : List ℕ) → AreDeclared (declarations u) names → AreMethods (declarations u) methods_at
    → items_at (with_declarations (declarations u) u.path names methods_at [] 0 (declarations u)) q ≡ selectors u q
awaited_at_first u names methods_at q are rows =
    declarations_told (declarations u) u.path q names methods_at [] 0 (declarations u)
    ∙ ap (λ b. if b then all_found (declarations u) u.path q (items_at methods_at q) else []) (own_first names q (declarations u) are)
    ∙ by (names_type (declared (declarations u) q)) refl
  where
    by : (b : Bool) → names_type (declared (declarations u) q) ≡ b → (if b then all_found (declarations u) u.path q (items_at methods_at q) else []) ≡ selectors u q
    by true h = selected u q (items_at methods_at q) ∙ ap (λ ms. map selector_of (filter is_selectable ms)) (rows u refl q)
    by false h = sym (no_selectors u q h)
