-- Rows of dependencies, declaration by declaration.
use Rattle.std.proofs.Common.{◌≡◌, ◌<◌, ◌+◌, ℕ, zero, suc, List, [], ◌∷◌, ◌++◌, None, Some, add-one, arith, get_or, length, map, take, refl, sym, ap, ◌∙◌, subst}
use Rattle.std.specs.Prelude.{slice_get}
use Rattle.go_base.specs.Lists.{Has}
use Rattle.go_declaration_graph.specs.inner.DependencyRows.{HasDependencies}
use Rattle.go_declaration_graph.specs.inner.NamedNumbers.{dependencies}
use Rattle.go_declaration_graph.proofs.NamedNumbers.{dependencies_tell}
use Rattle.go_declarations.specs.Listings.{declaration_of, declarations_of}
use Rattle.go_declarations.specs.declared.listing.Declaration.{Declaration as Borrowed}
use Rattle.go_declared.specs.MethodTables.{AreMethods}
use Rattle.go_declared.specs.NameTables.{AreDeclared}
use Rattle.go_declared.specs.declared.methods.MethodRow.{MethodRow}
use Rattle.go_declared.specs.declared.names.NamePlace.{NamePlace}
use Rattle.go_graphs.specs.Walks.{row_of}
use Rattle.go_rules.specs.Names.{Named}
use Rattle.go_sifting.specs.Graphs.{AreRows}
use Rattle.go_soundness.specs.LostDeclarations.{Depends}
use Rattle.go_typings.specs.Declarations.{Declaration, declarations}
use Rattle.go_typings.specs.PackageEnvironments.{Entries}
use Rattle.go_typings.specs.Sources.{PackageSource, Setting}
use Rattle.go_typings.proofs.Cells.{none_some, some_once}

map_next : {A B : Type 0} (f : A → B) (xs : List A) (i : ℕ) (x : A) → i < length xs → x ≡ get_or xs i x → map f (take i xs) ++ f x ∷ [] ≡ map f (take (suc i) xs)
map_next f [] i x h e = absurd (omega (arith, h))
map_next f (y ∷ ys) zero x h e = ap (λ z. f z ∷ []) e
map_next f (y ∷ ys) (suc i) x h e = ap (λ zs. f y ∷ zs) (map_next f ys i x (omega (arith, h)) e)

module _ (names : Named NamePlace) (methods : Named (List MethodRow)) where
  -- the row of one borrowed declaration
  abbrev row_by : Borrowed → List ℕ
  row_by x = dependencies names methods (declaration_of x).form

  twice : (xs : List Borrowed) → map row_by xs ≡ map (λ d. dependencies names methods d.form) (declarations_of xs)
  twice [] = refl
  twice (x ∷ xs) = ap (λ zs. row_by x ∷ zs) (twice xs)

  pub rows_next : (xs : List Borrowed) (i : ℕ) (x : Borrowed) (rows : List (List ℕ)) (r : List ℕ) → i < length xs → x ≡ get_or xs i x → HasDependencies names methods (declarations_of (take i xs)) rows → r ≡ row_by x
      → HasDependencies names methods (declarations_of (take (i + 1) xs)) (rows ++ r ∷ [])
  rows_next xs i x rows r h e is q =
      ap (λ zs. zs ++ r ∷ []) (is ∙ sym (twice (take i xs))) ∙ ap (λ z. map row_by (take i xs) ++ z ∷ []) q ∙ map_next row_by xs i x h e ∙ twice (take (suc i) xs)
      ∙ ap (λ n. map (λ d. dependencies names methods d.form) (declarations_of (take n xs))) (sym (add-one i))

  size : (ds : List Declaration) → length (map (λ d. dependencies names methods d.form) ds) ≡ length ds
  size [] = refl
  size (d ∷ ds) = ap suc (size ds)

  module _ (u : PackageSource) (told : AreDeclared (declarations u) names) (own : AreMethods (declarations u) methods) (s : Setting) (a : Entries) where
    abbrev Rows : List Declaration → List (List ℕ)
    Rows ds = map (λ d. dependencies names methods d.form) ds

    at_row : (ds : List Declaration) (m n : ℕ) → Has (row_of (Rows ds) m) n → (d : Declaration) × (slice_get ds m ≡ Some d) × Has (dependencies names methods d.form) n
    at_row [] m n h = absurd h
    at_row (d ∷ ds) zero n h = (d, refl, h)
    at_row (d ∷ ds) (suc m) n h = at_row ds m n h

    row_at : (ds : List Declaration) (m n : ℕ) (d : Declaration) → slice_get ds m ≡ Some d → Has (dependencies names methods d.form) n → Has (row_of (Rows ds) m) n
    row_at [] m n d e h = none_some None d refl e
    row_at (x ∷ ds) zero n d e h = subst (λ (z : Declaration). Has (dependencies names methods z.form) n) (sym (some_once x d e)) h
    row_at (x ∷ ds) (suc m) n d e h = row_at ds m n d e h

    pub dependency_rows : AreRows s u a (Depends s u a) (Rows (declarations u))
    dependency_rows = record {
      size = size (declarations u);
      exact = λ m n. (
        (λ h. let k = at_row (declarations u) m n h in (k.0, k.1, (dependencies_tell u names told methods own k.0.form n).0 k.2)),
        (λ k. row_at (declarations u) m n k.0 k.1 ((dependencies_tell u names told methods own k.0.form n).1 k.2)),
      );
    }
