-- Packages have a canonical order, or one of them is the least on a cycle.
use Rattle.std.proofs.Common.{◌≡◌, ◌⊎◌, ℕ, zero, suc, ◌+◌, ◌<◌, ◌≤◌, List, [], ◌∷◌, ◌++◌, length, refl, sym, subst, inl, inr, arith}
use Rattle.go_base.specs.Growing.{Grows}
use Rattle.go_base.specs.Lists.{Has}
use Rattle.go_existence.specs.Existence.{AreFinite, NotNone}
use Rattle.go_existence.proofs.DoubleNegation.{decided, less_or, so, sure, bind}
use Rattle.go_existence.proofs.FiniteSets.{finite_in, has_left, without}
use Rattle.go_existence.proofs.LeastNumbers.{least}
use Rattle.go_imports.proofs.Members.{has_last, same_or}
use Rattle.go_imports.proofs.StuckOrders.{stuck_on_cycle}
use Rattle.go_imports.specs.Orders.{IsCanonical, IsGraph, IsLeastOnCycle, IsNext, IsOnCycle, IsOrder, IsReady, needs_of, next, none}
use Rattle.go_unit_outcomes.proofs.FolderReads.{number_in, numbers}
use Rattle.go_unit_outcomes.proofs.GivenLists.{grown}
use Rattle.go_units.proofs.NeedRows.{IsRow, RowsTo, needs_graph, rows_first, rows_next, rows_whole}
use Rattle.go_units.specs.Reached.{ReadFolders}
use Rattle.go_units.specs.UnitsOfModules.{AreNeeds, packages_in}
use Rattle.go_units.specs.declared.folder.Folder.{Folder}
use Rattle.go_units.specs.inner.UnitMaking.{NeedsBy}

-- ---- needs as lists

module _ (module_path : List ℕ) (folders : List Folder) (slots : ReadFolders) (rows : length slots ≡ length folders) where
  needs_finite : (n : ℕ) → AreFinite (NeedsBy module_path folders (packages_in slots) slots n)
  needs_finite n = finite_in (NeedsBy module_path folders (packages_in slots) slots n) (numbers (length folders)) (λ m need. number_in (length folders) m need.2.2.2.names.within)

  rows_to : (at : ℕ) → NotNone ((graph : List (List ℕ)) × RowsTo module_path folders slots at graph)
  rows_to zero = sure ([], rows_first module_path folders slots [] refl)
  rows_to (suc at) = bind (rows_to at) (λ g. so (grown (NeedsBy module_path folders (packages_in slots) slots at) (needs_finite at)) (λ row. (
    g.0 ++ row.0 ∷ [],
    subst (λ (k : ℕ). RowsTo module_path folders slots k (g.0 ++ row.0 ∷ [])) (let e : at + 1 ≡ suc at = omega arith in e)
        (rows_next module_path folders slots at g.0 (g.0 ++ row.0 ∷ []) row.0 row.1 refl g.1),
  )))

  pub needs_listed : NotNone ((graph : List (List ℕ)) × AreNeeds module_path folders slots graph × IsGraph graph)
  needs_listed = so (rows_to (length folders)) (λ g. let a = rows_whole module_path folders slots (length folders) g.0 refl rows g.1 in (g.0, a, needs_graph module_path folders slots g.0 a))

-- ---- orders

number_or : (xs : List ℕ) (n : ℕ) → Has xs n ⊎ (Has xs n → ⊥)
number_or [] n = inr (λ h. h)
number_or (x ∷ xs) n = elim (same_or x n) [
  | inl e ↦ inl (inl e)
  | inr d ↦ elim (number_or xs n) [ inl h ↦ inl (inr h) | inr never ↦ inr (λ h. elim h [ inl e ↦ d e | inr k ↦ never k ]) ]
]

module _ (graph : List (List ℕ)) (is_graph : IsGraph graph) where
  abbrev Ends : Type 0
  Ends = ((order : List ℕ) × IsCanonical graph order) ⊎ ((n : ℕ) × IsLeastOnCycle graph n)

  on_cycle : (n : ℕ) → IsOnCycle graph n → NotNone Ends
  on_cycle n c = so (least (IsOnCycle graph) n c) (λ m. inr (
    m.0,
    record {
      on = m.1.0;
      least = λ k on. elim (less_or k m.0) [ inl l ↦ absurd (m.1.1 k l on) | inr l ↦ l ];
    },
  ))

  next_of : (standing : List ℕ) (n : ℕ) → IsReady graph standing n → NotNone ((m : ℕ) × IsNext graph standing m)
  next_of standing n r = so (least (IsReady graph standing) n r) (λ m. (
    m.0,
    record {
      ready = m.1.0;
      least = λ k ready. elim (less_or k m.0) [ inl l ↦ absurd (m.1.1 k l ready) | inr l ↦ l ];
    },
  ))

  abbrev Covers : List ℕ → List ℕ → Type 0
  Covers standing left = (n : ℕ) → n < length graph → (Has standing n → ⊥) → Has left n

  covers_next : (standing left rest : List ℕ) (k : ℕ) → Covers standing left → ((n : ℕ) → Has left n → (k ≡ n) ⊎ Has rest n) → Covers (standing ++ k ∷ []) rest
  covers_next standing left rest k covers parted n h fresh = elim (parted n (covers n h (λ there. fresh (has_left standing (k ∷ []) n there)))) [
    | inl e ↦ absurd (fresh (subst (Has (standing ++ k ∷ [])) e (has_last standing k)))
    | inr l ↦ l
  ]

  stopped : (standing : List ℕ) → IsOrder graph standing → ((n : ℕ) → IsReady graph standing n → ⊥) → NotNone Ends
  stopped standing order stuck = bind (decided ((n : ℕ) × (n < length graph) × (Has standing n → ⊥))) (λ d. elim d [
    | inl n ↦ bind {A = (m : ℕ) × IsOnCycle graph m} (λ never. stuck_on_cycle graph standing is_graph stuck n.0 n.1 n.2 (λ m c. never (m, c))) (λ c. on_cycle c.0 c.1)
    | inr never ↦ sure (inl (standing, record { ordered = order; all = λ n h. elim (number_or standing n) [ inl k ↦ k | inr fresh ↦ absurd (never (n, h, fresh)) ] }))
  ])

  turn : (standing left : List ℕ) → IsOrder graph standing → Covers standing left
      → ((more rest : List ℕ) → length left ≡ suc (length rest) → IsOrder graph more → Covers more rest → NotNone Ends) → NotNone Ends
  turn standing left order covers go = bind (decided ((n : ℕ) × IsReady graph standing n)) (λ d. elim d [
    | inr never ↦ stopped standing order (λ n r. never (n, r))
    | inl n ↦ bind (next_of standing n.0 n.1) (λ k.
        let rest = without left k.0 (covers k.0 k.1.ready.is k.1.ready.fresh) in
        go (standing ++ k.0 ∷ []) rest.0 rest.1 (next order k.1) (covers_next standing left rest.0 k.0 covers rest.2))
  ])

  order_from : (fuel : ℕ) (standing left : List ℕ) → length left ≤ fuel → IsOrder graph standing → Covers standing left → NotNone Ends
  order_from zero standing left few order covers = turn standing left order covers (λ more rest e o c. absurd (omega (arith, few, e)))
  order_from (suc fuel) standing left few order covers = turn standing left order covers (λ more rest e o c. order_from fuel more rest (omega (arith, few, e)) o c)

  pub order_or_cycle : NotNone (((order : List ℕ) × IsCanonical graph order) ⊎ ((n : ℕ) × IsLeastOnCycle graph n))
  order_or_cycle = order_from (length (numbers (length graph))) [] (numbers (length graph)) (omega arith) none (λ n h fresh. number_in (length graph) n h)
