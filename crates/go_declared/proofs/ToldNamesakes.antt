-- A table to which the methods of declarations were added in turn by their names tells those of each type and name.
use Rattle.std.proofs.Common.{◌≡◌, ℕ, Bool, true, false, cond, List, [], ◌∷◌, ◌++◌, map, filter, Some, refl, sym, ap, ◌∙◌, append-nil}
use Rattle.std.specs.Prelude.{if◌then◌else◌}
use Rattle.std.specs.Option.{unwrap_or}
use Rattle.std.specs.Str.{bytes_eq}
use Rattle.std.specs.Cmp.Lexicographic.{bytes_decides}
use Rattle.std.proofs.lemmas.List.{map-append}
use Rattle.std.proofs.lemmas.List.Elements.{filter-append}
use Rattle.go_rules.specs.Names.{Named, items_at, value_at}
use Rattle.go_rules.proofs.NamedEntries.{put_is}
use Rattle.go_declarations.specs.go_typings.Declarations.{Declaration, declarations}
use Rattle.go_declarations.specs.go_typings.Receivers.{DeclaredMethod}
use Rattle.go_declarations.specs.go_typings.Sources.{PackageSource}
use Rattle.go_declared.specs.MethodTables.{method_name, method_of}
use Rattle.go_declared.specs.NamesakeTables.{AreNamesakes, has_name, rows_at}
use Rattle.go_declared.specs.declared.methods.MethodRow.{MethodRow}
use Rattle.go_declared.specs.inner.AddingMethods.{with_forms, with_namesake, with_row}
use Rattle.go_declared.proofs.FilledTables.{filled_tells}
use Rattle.go_declared.proofs.ToldMethods.{row_at, turned}

row_by : (t : Named (Named (List MethodRow))) (type name q w : List ℕ) (row : MethodRow) (b c : Bool) → bytes_eq q type ≡ b → bytes_eq w name ≡ c
    → rows_at (with_namesake t type name row) q w ≡ rows_at t q w ++ (if b then if c then row ∷ [] else [] else [])
row_by t type name q w row true c e f =
    ap (λ o. items_at (unwrap_or o []) w) (put_is q type (with_row (items_at t type) name row) t ∙ ap (λ d. cond d (Some (with_row (items_at t type) name row)) (value_at t q)) e)
    ∙ row_at (items_at t type) name w row c f ∙ ap (λ n. if c then items_at (items_at t n) w ++ row ∷ [] else items_at (items_at t n) w) (sym ((bytes_decides q type).0 e)) ∙ added c
  where
    added : (d : Bool) → (if d then rows_at t q w ++ row ∷ [] else rows_at t q w) ≡ rows_at t q w ++ (if d then row ∷ [] else [])
    added true = refl
    added false = sym (append-nil (rows_at t q w))
row_by t type name q w row false c e f =
    ap (λ o. items_at (unwrap_or o []) w) (put_is q type (with_row (items_at t type) name row) t ∙ ap (λ d. cond d (Some (with_row (items_at t type) name row)) (value_at t q)) e)
    ∙ sym (append-nil (rows_at t q w))

module _ (u : PackageSource) (q w : List ℕ) where
  -- the methods of the type and the name in a table
  abbrev told : Named (Named (List MethodRow)) → List DeclaredMethod
  told t = map (method_of u) (rows_at t q w)

  abbrev named : List DeclaredMethod → List DeclaredMethod
  named ms = filter (has_name w) ms

  one_named : (row : MethodRow) (b c : Bool) → has_name w (method_of u row) ≡ c → map (method_of u) (if b then if c then row ∷ [] else [] else []) ≡ named (if b then method_of u row ∷ [] else [])
  one_named row true true f = sym (ap (λ d. cond d (method_of u row ∷ []) []) f)
  one_named row true false f = sym (ap (λ d. cond d (method_of u row ∷ []) []) f)
  one_named row false c f = refl

  row_told : (t : Named (Named (List MethodRow))) (type name : List ℕ) (row : MethodRow) → method_name (declarations u) row.number ≡ name
      → told (with_namesake t type name row) ≡ told t ++ named (if bytes_eq type q then method_of u row ∷ [] else [])
  row_told t type name row h =
      ap (map (method_of u)) (row_by t type name q w row (bytes_eq type q) (bytes_eq name w) (turned type q (bytes_eq type q) refl) (turned name w (bytes_eq name w) refl))
      ∙ map-append (method_of u) (rows_at t q w) (if bytes_eq type q then if bytes_eq name w then row ∷ [] else [] else [])
      ∙ ap (λ ms. told t ++ ms) (one_named row (bytes_eq type q) (bytes_eq name w) (ap (λ (n : List ℕ). bytes_eq n w) h))

pub table_namesakes : (ds : List Declaration) (e t : Named (Named (List MethodRow))) → e ≡ [] → t ≡ with_forms with_namesake ds e 0 ds → AreNamesakes ds t
table_namesakes ds e t z f = λ u h q w.
    filled_tells with_namesake u q (filter (has_name w)) refl (filter-append (has_name w)) (told u q w) (λ t type name row k. row_told u q w t type name row k) ds e t (ap (told u q w) z) f h
