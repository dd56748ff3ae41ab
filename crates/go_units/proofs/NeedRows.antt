-- The needs of packages, one folder after another.
use Rattle.std.proofs.Common.{◌≡◌, ℕ, zero, suc, ◌+◌, ◌<◌, ◌≤◌, Bool, List, [], ◌∷◌, ◌++◌, length, refl, sym, ap, ◌∙◌, subst, inl, inr, arith, length-append}
use Rattle.go_base.specs.Lists.{Has}
use Rattle.go_base.specs.Growing.{Grows}
use Rattle.go_imports.specs.Orders.{IsGraph, needs_of}
use Rattle.go_imports.proofs.Members.{below_or, has_back, has_left, has_last}
use Rattle.go_units.specs.Reached.{ReadFolders}
use Rattle.go_units.specs.UnitsOfModules.{packages_in, AreNeeds}
use Rattle.go_units.specs.inner.UnitMaking.{NeedsBy}
use Rattle.go_units.specs.declared.folder.Folder.{Folder}
use Rattle.go_units.proofs.WalkedFiles.{slot_within}

pub grows_pushed : (old new : List ℕ) (n : ℕ) → new ≡ old ++ n ∷ [] → Grows (λ m. n ≡ m) old new
grows_pushed old new n e = subst (Grows (λ m. n ≡ m) old) (sym e) (record {
  sound = λ m h. has_back old n m h;
  kept = λ m h. has_left old (n ∷ []) m h;
  complete = λ m s. subst (Has (old ++ n ∷ [])) s (has_last old n);
})

row_left : (rows : List (List ℕ)) (row : List ℕ) (n : ℕ) → n < length rows → needs_of (rows ++ row ∷ []) n ≡ needs_of rows n
row_left [] row n h = absurd (omega (arith, h))
row_left (r ∷ rows) row zero h = refl
row_left (r ∷ rows) row (suc n) h = row_left rows row n (omega (arith, h))

row_last : (rows : List (List ℕ)) (row : List ℕ) → needs_of (rows ++ row ∷ []) (length rows) ≡ row
row_last [] row = refl
row_last (r ∷ rows) row = row_last rows row

row_past : (rows : List (List ℕ)) (n : ℕ) → length rows ≤ n → needs_of rows n ≡ []
row_past [] zero h = refl
row_past [] (suc n) h = refl
row_past (r ∷ rows) zero h = absurd (omega (arith, h))
row_past (r ∷ rows) (suc n) h = row_past rows n (omega (arith, h))

module _ (module_path : List ℕ) (folders : List Folder) (slots : ReadFolders) where
  abbrev packages : List Bool
  packages = packages_in slots

  abbrev pub IsRow : ℕ → List ℕ → Type 0
  IsRow n row = Grows (NeedsBy module_path folders packages slots n) [] row

  -- the rows of the folders before a number
  pub record RowsTo (at : ℕ) (graph : List (List ℕ)) : Type 0 where
    pub size : length graph ≡ at
    pub row : (n : ℕ) → n < at → IsRow n (needs_of graph n)

  pub rows_first : (graph : List (List ℕ)) → graph ≡ [] → RowsTo 0 graph
  rows_first graph e = record { size = ap length e; row = λ n h. absurd (omega (arith, h)) }

  pub rows_next : (at : ℕ) (graph graph2 : List (List ℕ)) (row : List ℕ) → IsRow at row → graph2 ≡ graph ++ row ∷ [] → RowsTo at graph → RowsTo (at + 1) graph2
  rows_next at graph graph2 row k e r = record {
    size = ap length e ∙ length-append graph (row ∷ []) ∙ (let l : length graph + length (row ∷ []) ≡ at + 1 = omega (arith, r.size) in l);
    row = λ n h. subst (λ (g : List (List ℕ)). IsRow n (needs_of g n)) (sym e) (elim (below_or n at) [
      | inl less ↦ subst (IsRow n) (sym (row_left graph row n (omega (arith, less, r.size)))) (r.row n less)
      | inr more ↦ (
          let same : n ≡ length graph = omega (arith, h, more, r.size) in
          let here : n ≡ at = omega (arith, h, more) in
          subst (λ (m : ℕ). IsRow m (needs_of (graph ++ row ∷ []) m)) (sym same) (subst (IsRow (length graph)) (sym (row_last graph row)) (subst (λ (m : ℕ). IsRow m row) (sym here ∙ same) k))
          )
    ]);
  }

  none_old : (P : ℕ → Type 0) (new : List ℕ) → Grows P [] new → (x : ℕ) → Has new x → P x
  none_old P new g x h = elim (g.sound x h) [ inl never ↦ absurd never | inr p ↦ p ]

  pub rows_whole : (at : ℕ) (graph : List (List ℕ)) → at ≡ length folders → length slots ≡ length folders → RowsTo at graph → AreNeeds module_path folders slots graph
  rows_whole at graph e rows r = record {
    rows = r.size ∙ e;
    sound = λ n m h. elim (below_or n at) [
      | inl less ↦ none_old (NeedsBy module_path folders packages slots n) (needs_of graph n) (r.row n less) m h
      | inr more ↦ absurd (subst (λ (ks : List ℕ). Has ks m) (row_past graph n (omega (arith, more, r.size))) h)
    ];
    complete = λ n m need. (r.row n (let h = slot_within slots n need.0 need.1 in omega (arith, h, rows, e))).complete m need;
  }

  -- what a package needs is there
  pub needs_graph : (graph : List (List ℕ)) → AreNeeds module_path folders slots graph → IsGraph graph
  needs_graph graph a n m h = let need = a.sound n m h in let w = need.2.2.2.names.within in omega (arith, w, a.rows)
