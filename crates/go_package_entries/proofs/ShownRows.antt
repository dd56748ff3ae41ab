-- The methods of one name that are shown are those of its selector, and the methods that a type is put into the table with are those
-- that it shows.
use Rattle.std.proofs.Common.{◌≡◌, ℕ, Bool, true, false, ◌&&◌, ◌||◌, not, List, [], ◌∷◌, ◌++◌, map, filter, Option, None, Some, refl, sym, ap, ◌∙◌, subst}
use Rattle.std.specs.Prelude.{if◌then◌else◌, is_some}
use Rattle.std.specs.List.{AllByRecursion}
use Rattle.std.specs.Str.{bytes_eq}
use Rattle.std.specs.Cmp.Lexicographic.{bytes_decides}
use mathlib.Core.Bool.{true≢false}
use Rattle.go_base.specs.Gathered.{gather}
use Rattle.go_declared.specs.MethodTables.{method_name, method_of}
use Rattle.go_declared.specs.NamesakeTables.{has_name, rows_at}
use Rattle.go_declared.specs.declared.methods.MethodRow.{MethodRow}
use Rattle.go_model.specs.declared.types.names.Sel.{Sel}
use Rattle.go_model.specs.declared.types.package.MethodOf.{MethodOf}
use Rattle.go_model.specs.declared.types.term.Signature.{Signature}
use Rattle.go_model.specs.types.Terms.{same_sel}
use Rattle.go_package_scopes.proofs.ShownMethods.{named_both, sel_is, sel_self}
use Rattle.go_package_scopes.specs.KeptScopes.{shown}
use Rattle.go_rules.specs.Environments.{is_among}
use Rattle.go_rules.specs.Expressions.{is_blank}
use Rattle.go_rules.specs.Growth.{methods_named}
use Rattle.go_rules.specs.Names.{Named}
use Rattle.go_typings.proofs.Cells.{if_false, if_true}
use Rattle.go_typings.specs.Declarations.{declarations}
use Rattle.go_typings.specs.PackageEnvironments.{Entries, had, had_of, missing, missing_of, signature_of}
use Rattle.go_typings.specs.Receivers.{declared_methods, DeclaredMethod, is_selectable, methods, selector}
use Rattle.go_typings.specs.Sources.{PackageSource}
use Rattle.go_package_entries.specs.inner.ShownMethods.{are_had, as_method, had_row, shown_of, shown_row, shown_rows}

module _ (a : Entries) (u : PackageSource) where
  abbrev name_of : MethodRow → List ℕ
  name_of r = method_name (declarations u) r.number

  abbrev all_of : List MethodRow → List DeclaredMethod
  all_of rs = map (method_of u) rs

  abbrev selectable : List DeclaredMethod → List DeclaredMethod
  selectable ms = filter is_selectable ms

  abbrev sig : MethodRow → Option Signature
  sig r = signature_of (a r.number)

  -- each of these methods is had
  abbrev each_had : List DeclaredMethod → Bool
  each_had [] = true
  each_had (m ∷ ms) = is_some (signature_of (a m.number)) && each_had ms

  rows_had : (rs : List MethodRow) → are_had a rs ≡ each_had (all_of rs)
  rows_had [] = refl
  rows_had (r ∷ rs) = ap (λ b. is_some (sig r) && b) (rows_had rs)

  blank_apart : (x y : List ℕ) → is_blank x ≡ true → is_blank y ≡ false → bytes_eq x y ≡ false
  blank_apart x y e f = by (bytes_eq x y) refl
    where
      by : (b : Bool) → bytes_eq x y ≡ b → b ≡ false
      by true g = absurd (true≢false (sym e ∙ ap is_blank ((bytes_decides x y).0 g) ∙ f))
      by false g = refl

  -- ---- the methods of one name

  module _ (name : List ℕ) (shows : is_blank name ≡ false) where
    abbrev s : Sel
    s = selector u.path name

    abbrev named : List DeclaredMethod → List DeclaredMethod
    named ms = filter (has_name name) ms

    -- of the methods of the selector none is missing exactly where each of that name is had; and those that are had are the same
    abbrev Agree : List DeclaredMethod → List DeclaredMethod → Type 0
    Agree ms ns = (is_among s (missing a ms) ≡ not (each_had ns)) × (methods_named s (had a ms) ≡ had a ns)

    sel_same : (r : MethodRow) → bytes_eq (name_of r) name ≡ true → (method_of u r).sel ≡ s
    sel_same r e = ap (selector u.path) ((bytes_decides (name_of r) name).0 e)

    sel_other : (r : MethodRow) → bytes_eq (name_of r) name ≡ false → same_sel (method_of u r).sel s ≡ false
    sel_other r e = ap (λ b. b && bytes_eq (method_of u r).sel.«package» s.«package») e

    agree_same : (m : DeclaredMethod) (c : Option Signature) (ms ns : List DeclaredMethod) → m.sel ≡ s → signature_of (a m.number) ≡ c → Agree ms ns
        → (is_among s (missing_of m c ++ missing a ms) ≡ not (is_some c && each_had ns)) × (methods_named s (had_of m c ++ had a ms) ≡ had_of m c ++ had a ns)
    agree_same m None ms ns e f k = (ap (λ b. b || is_among s (missing a ms)) (ap (λ z. same_sel z s) e ∙ sel_self s), k.1)
    agree_same m (Some g) ms ns e f k =
        let x : MethodOf = record { sel = m.sel; pointer = m.pointer; signature = g } in
        let xs : List MethodOf = x ∷ [] in
        let none : List MethodOf = [] in
        (k.0, ap (λ z. z ++ methods_named s (had a ms)) (if_true (same_sel m.sel s) xs none (ap (λ z. same_sel z s) e ∙ sel_self s)) ∙ ap (λ z. x ∷ z) k.1)

    agree_other : (m : DeclaredMethod) (c : Option Signature) (ms ns : List DeclaredMethod) → same_sel m.sel s ≡ false → Agree ms ns
        → (is_among s (missing_of m c ++ missing a ms) ≡ not (each_had ns)) × (methods_named s (had_of m c ++ had a ms) ≡ had a ns)
    agree_other m None ms ns e k = (ap (λ b. b || is_among s (missing a ms)) e ∙ k.0, k.1)
    agree_other m (Some g) ms ns e k =
        let x : MethodOf = record { sel = m.sel; pointer = m.pointer; signature = g } in
        let xs : List MethodOf = x ∷ [] in
        let none : List MethodOf = [] in
        (k.0, ap (λ z. z ++ methods_named s (had a ms)) (if_false (same_sel m.sel s) xs none e) ∙ k.1)

    agree : (rs : List MethodRow) → Agree (selectable (all_of rs)) (named (all_of rs))
    agree [] = (refl, refl)
    agree (r ∷ rs) = by (is_blank (name_of r)) (bytes_eq (name_of r) name) refl refl (agree rs)
      where
        m : DeclaredMethod
        m = method_of u r

        by : (b c : Bool) → is_blank (name_of r) ≡ b → bytes_eq (name_of r) name ≡ c → Agree (selectable (all_of rs)) (named (all_of rs))
            → Agree (if not b then m ∷ selectable (all_of rs) else selectable (all_of rs)) (if c then m ∷ named (all_of rs) else named (all_of rs))
        by true true e f k = absurd (true≢false (sym f ∙ blank_apart (name_of r) name e shows))
        by true false e f k = k
        by false true e f k = agree_same m (sig r) (selectable (all_of rs)) (named (all_of rs)) (sel_same r f) refl k
        by false false e f k = agree_other m (sig r) (selectable (all_of rs)) (named (all_of rs)) (sel_other r f) k

    -- ---- by the tables

    -- those of the name have it
    names_are : (ms : List DeclaredMethod) → AllByRecursion (λ (m : DeclaredMethod). m.sel.name ≡ name) (named ms)
    names_are [] = tt
    names_are (m ∷ ms) = by (bytes_eq m.sel.name name) refl (names_are ms)
      where
        by : (b : Bool) → bytes_eq m.sel.name name ≡ b → AllByRecursion (λ (z : DeclaredMethod). z.sel.name ≡ name) (named ms) → AllByRecursion (λ (z : DeclaredMethod). z.sel.name ≡ name) (if b then m ∷ named ms else named ms)
        by true e k = ((bytes_decides m.sel.name name).0 e, k)
        by false e k = k

    rows_are : (rs : List MethodRow) → AllByRecursion (λ (m : DeclaredMethod). m.sel.name ≡ name) (all_of rs) → gather (had_row a u.path name) rs ≡ had a (all_of rs)
    rows_are [] k = refl
    rows_are (r ∷ rs) k =
        ap (λ (n : List ℕ). had_of (as_method u.path n r) (sig r) ++ gather (had_row a u.path name) rs) (sym k.0) ∙ ap (λ z. had_of (method_of u r) (sig r) ++ z) (rows_are rs k.1)

    module _ (type : List ℕ) (t : Named (Named (List MethodRow))) (rows : List MethodRow) (are : all_of rows ≡ declared_methods u type) (namesakes : all_of (rows_at t type name) ≡ named (declared_methods u type)) where
      those : all_of (rows_at t type name) ≡ named (all_of rows)
      those = namesakes ∙ ap named (sym are)

      had_there : are_had a (rows_at t type name) ≡ each_had (named (all_of rows))
      had_there = rows_had (rows_at t type name) ∙ ap each_had those

      -- a method of the selector is missing exactly where one of the name isn't had
      pub among_there : is_among s (missing a (methods u type)) ≡ not (are_had a (rows_at t type name))
      among_there = ap (λ ms. is_among s (missing a (selectable ms))) (sym are) ∙ (agree rows).0 ∙ ap not (sym had_there)

      named_there : methods_named s (had a (methods u type)) ≡ gather (had_row a u.path name) (rows_at t type name)
      named_there =
          ap (λ ms. methods_named s (had a (selectable ms))) (sym are) ∙ (agree rows).1 ∙ ap (had a) (sym those)
          ∙ sym (rows_are (rows_at t type name) (subst (AllByRecursion (λ (m : DeclaredMethod). m.sel.name ≡ name)) (sym those) (names_are (all_of rows))))

      -- the methods of the name that are shown are those of the selector
      pub shown_there : shown_rows a u.path name (rows_at t type name) ≡ shown a (methods u type) s
      shown_there = by (are_had a (rows_at t type name)) ∙ sym (λ i. if among_there i then [] else named_there i)
        where
          by : (b : Bool) → (if b then gather (had_row a u.path name) (rows_at t type name) else []) ≡ (if not b then [] else gather (had_row a u.path name) (rows_at t type name))
          by true = refl
          by false = refl

  -- ---- all methods of a type

  module _ (type : List ℕ) (t : Named (Named (List MethodRow))) (rows : List MethodRow) (are : all_of rows ≡ declared_methods u type)
      (namesakes : (name : List ℕ) → all_of (rows_at t type name) ≡ filter (has_name name) (declared_methods u type)) (s : Sel) where
    abbrev row : MethodRow → List MethodOf
    row r = shown_row a u.path (name_of r) (rows_at t type (name_of r)) r

    abbrev one : MethodRow → List MethodOf
    one r = had_of (method_of u r) (sig r)

    abbrev whole : MethodRow → Bool
    whole r = are_had a (rows_at t type (name_of r))

    -- a method of the selector is missing
    abbrev hides : Bool
    hides = is_among s (missing a (methods u type))

    abbrev Shown : Bool → List MethodOf → List MethodOf → Type 0
    Shown b ms ns = methods_named s ms ≡ (if b then [] else methods_named s ns)

    nothing : (b : Bool) → [] ≡ (if b then [] else methods_named s [])
    nothing true = refl
    nothing false = refl

    other : (r : MethodRow) (c : Option Signature) → same_sel (selector u.path (name_of r)) s ≡ false → methods_named s (had_of (method_of u r) c) ≡ []
    other r None e = refl
    other r (Some g) e =
        let x : List MethodOf = record { sel = selector u.path (name_of r); pointer = r.pointer; signature = g } ∷ [] in
        let none : List MethodOf = [] in
        ap (λ z. z ++ none) (if_false (same_sel (selector u.path (name_of r)) s) x none e)

    -- the row of a method that isn't blank
    row_shown : (r : MethodRow) → is_blank (name_of r) ≡ false → (b : Bool) → hides ≡ b → Shown b (row r) (had_of (method_of u r) (sig r))
    row_shown r shows b h = by (same_sel (selector u.path (name_of r)) s) refl
      where
        is : row r ≡ (if not (whole r) then [] else (one r))
        is = ap (λ d. if d || not (whole r) then [] else (one r)) shows

        both_none : (c : Bool) → methods_named s (one r) ≡ [] → methods_named s (if not c then [] else (one r)) ≡ (if b then [] else methods_named s (one r))
        both_none true e = e ∙ hidden b
          where
            hidden : (d : Bool) → [] ≡ (if d then [] else methods_named s (one r))
            hidden true = refl
            hidden false = sym e
        both_none false e = hidden b
          where
            hidden : (d : Bool) → [] ≡ (if d then [] else methods_named s (one r))
            hidden true = refl
            hidden false = sym e

        moved : (c d : Bool) → c ≡ d → methods_named s (if c then [] else (one r)) ≡ (if d then [] else methods_named s (one r))
        moved true true e = refl
        moved true false e = absurd (true≢false e)
        moved false true e = absurd (true≢false (sym e))
        moved false false e = refl

        by : (c : Bool) → same_sel (selector u.path (name_of r)) s ≡ c → methods_named s (row r) ≡ (if b then [] else methods_named s (one r))
        by true e =
            ap (methods_named s) is
            ∙ moved (not (whole r)) b (sym (among_there (name_of r) shows type t rows are (namesakes (name_of r))) ∙ ap (λ z. is_among z (missing a (methods u type))) (sel_is (selector u.path (name_of r)) s e) ∙ h)
        by false e = ap (methods_named s) is ∙ both_none (whole r) (other r (sig r) e)

    each_shown : (b : Bool) → hides ≡ b → (rs : List MethodRow) → Shown b (gather row rs) (had a (selectable (all_of rs)))
    each_shown b h [] = nothing b
    each_shown b h (r ∷ rs) = by (is_blank (name_of r)) refl (each_shown b h rs)
      where
        split : (c : Bool) → (if c then [] else methods_named s (one r)) ++ (if c then [] else methods_named s (had a (selectable (all_of rs)))) ≡ (if c then [] else methods_named s (one r ++ had a (selectable (all_of rs))))
        split true = refl
        split false = sym (named_both s (one r) (had a (selectable (all_of rs))))

        by : (c : Bool) → is_blank (name_of r) ≡ c → Shown b (gather row rs) (had a (selectable (all_of rs)))
            → methods_named s (row r ++ gather row rs) ≡ (if b then [] else methods_named s (had a (if not c then method_of u r ∷ selectable (all_of rs) else selectable (all_of rs))))
        by true e k = ap (λ d. methods_named s ((if d || not (are_had a (rows_at t type (name_of r))) then [] else (one r)) ++ gather row rs)) e ∙ k
        by false e k = named_both s (row r) (gather row rs) ∙ (λ i. row_shown r e b h i ++ k i) ∙ split b

    -- the type shows by the selector the methods that it is put into the table with
    pub type_shows : methods_named s (shown_of a (declarations u) u.path t type rows) ≡ shown a (methods u type) s
    type_shows = each_shown hides refl rows ∙ ap (λ ms. if hides then [] else methods_named s (had a (selectable ms))) are
