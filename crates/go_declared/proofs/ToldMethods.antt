-- A table to which the methods of declarations were added in turn tells those of each type.
use Rattle.std.proofs.Common.{◌≡◌, ℕ, Bool, true, false, cond, List, [], ◌∷◌, ◌++◌, map, Some, refl, sym, ap, ◌∙◌, append-nil}
use mathlib.Core.Bool.{true≢false}
use Rattle.std.specs.Prelude.{if◌then◌else◌}
use Rattle.std.specs.Option.{unwrap_or}
use Rattle.std.specs.Str.{bytes_eq}
use Rattle.std.specs.Cmp.Lexicographic.{bytes_decides}
use Rattle.std.proofs.lemmas.List.{map-append}
use Rattle.go_rules.specs.Names.{Named, items_at, value_at}
use Rattle.go_rules.proofs.NamedEntries.{put_is}
use Rattle.go_declarations.specs.go_typings.Declarations.{Declaration}
use Rattle.go_declarations.specs.go_typings.Receivers.{DeclaredMethod}
use Rattle.go_declarations.specs.go_typings.Sources.{PackageSource}
use Rattle.go_declared.specs.MethodTables.{AreMethods, method_of}
use Rattle.go_declared.specs.declared.methods.MethodRow.{MethodRow}
use Rattle.go_declared.specs.inner.AddingMethods.{with_forms, with_row}
use Rattle.go_declared.proofs.FilledTables.{filled_tells}

pub row_at : (t : Named (List MethodRow)) (name q : List ℕ) (row : MethodRow) (b : Bool) → bytes_eq q name ≡ b → items_at (with_row t name row) q ≡ (if b then items_at t q ++ row ∷ [] else items_at t q)
row_at t name q row true e =
    ap (λ o. unwrap_or o []) (put_is q name (items_at t name ++ row ∷ []) t ∙ ap (λ c. cond c (Some (items_at t name ++ row ∷ [])) (value_at t q)) e)
    ∙ ap (λ n. items_at t n ++ row ∷ []) (sym ((bytes_decides q name).0 e))
row_at t name q row false e = ap (λ o. unwrap_or o []) (put_is q name (items_at t name ++ row ∷ []) t ∙ ap (λ c. cond c (Some (items_at t name ++ row ∷ [])) (value_at t q)) e)

pub turned : (a b : List ℕ) (c : Bool) → bytes_eq a b ≡ c → bytes_eq b a ≡ c
turned a b true e = (bytes_decides b a).1 (sym ((bytes_decides a b).0 e))
turned a b false e = other (bytes_eq b a) refl
  where
    other : (d : Bool) → bytes_eq b a ≡ d → d ≡ false
    other true h = absurd (true≢false (sym ((bytes_decides a b).1 (sym ((bytes_decides b a).0 h))) ∙ e))
    other false h = refl

module _ (u : PackageSource) (q : List ℕ) where
  -- the methods of the type in a table
  abbrev told : Named (List MethodRow) → List DeclaredMethod
  told t = map (method_of u) (items_at t q)

  by_name : (t : Named (List MethodRow)) (row : MethodRow) (b : Bool) → map (method_of u) (if b then items_at t q ++ row ∷ [] else items_at t q) ≡ told t ++ (if b then method_of u row ∷ [] else [])
  by_name t row true = map-append (method_of u) (items_at t q) (row ∷ [])
  by_name t row false = sym (append-nil (told t))

  row_told : (t : Named (List MethodRow)) (type : List ℕ) (row : MethodRow) → told (with_row t type row) ≡ told t ++ (if bytes_eq type q then method_of u row ∷ [] else [])
  row_told t type row = ap (map (method_of u)) (row_at t type q row (bytes_eq type q) (turned type q (bytes_eq type q) refl)) ∙ by_name t row (bytes_eq type q)

pub table_methods : (ds : List Declaration) (e t : Named (List MethodRow)) → e ≡ [] → t ≡ with_forms (λ t type name row. with_row t type row) ds e 0 ds → AreMethods ds t
table_methods ds e t z f = λ u h q.
    filled_tells (λ t type name row. with_row t type row) u q (λ ms. ms) refl (λ xs ys. refl) (told u q) (λ t type name row k. row_told u q t type row) ds e t (ap (told u q) z) f h
