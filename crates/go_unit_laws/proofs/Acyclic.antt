-- Packages whose units stand in canonical order don't need themselves.
use Rattle.std.proofs.Common.{◌≡◌, ◌⊎◌, ℕ, ◌<◌, Bool, List, [], ◌∷◌, ◌++◌, length, sym, ap, ◌∙◌, subst, inl, inr, arith}
use mathlib.Core.Logic.{∥∥₁_elim}
use Rattle.go_base.specs.Lists.{Has}
use Rattle.go_imports.specs.Orders.{LeadsTo, directly, through}
use Rattle.go_imports.proofs.Members.{has_back, has_last, has_left}
use Rattle.go_unit_laws.proofs.OneUnit.{number_of}
use Rattle.go_units.proofs.Giving.{gives_all}
use Rattle.go_units.proofs.NeededPaths.{found_needed}
use Rattle.go_units.proofs.WalkedFiles.{slot_within, some_same}
use Rattle.go_units.specs.Folders.{AreOrdered, folder_of}
use Rattle.go_units.specs.Reached.{ReadFolders, is_std}
use Rattle.go_units.specs.UnitOrders.{AreInOrder, InOrder, none, next, Stands}
use Rattle.go_units.specs.UnitsOfModules.{AreNeeds, AreUnits, GivesUnitFile, GivesUse, HoldsPackage, IsCycle, IsUnitOf, Needs, packages_in}
use Rattle.go_units.specs.declared.folder.Folder.{Folder}
use Rattle.go_units.specs.declared.package_uses.PackageFile.{PackageFile}
use Rattle.go_units.specs.declared.unit.«Unit».{«Unit» as PackageUnit}

module _ (module_path : List ℕ) (folders : List Folder) (ordered : AreOrdered folders) (slots : ReadFolders) (rows : length slots ≡ length folders) where
  abbrev packages : List Bool
  packages = packages_in slots

  abbrev is_of : ℕ → PackageUnit → Type 0
  is_of n u = IsUnitOf module_path folders slots n u

  -- a unit needs the path of each folder that its package needs
  path_needed : (n m : ℕ) (u : PackageUnit) → is_of n u → Needs module_path folders slots n m → Has u.needs (folder_of folders m).path
  path_needed n m u k need =
      let std = is_std folders n in
      let same : need.0 ≡ k.members = some_same need.0 k.members (sym need.1 ∙ k.held) in
      elim (gives_all (GivesUnitFile module_path folders packages std) k.given need.2.0 (subst (λ (fs : List PackageFile). Has fs need.2.0) same need.2.1)) [
        | inl never ↦ absurd never
        | inr p ↦ elim (gives_all (GivesUse module_path folders packages std) p.2.given need.2.2.0 need.2.2.1) [
          | inl never ↦ absurd never
          | inr q ↦
              subst (λ (ps : List (List ℕ)). Has ps (folder_of folders m).path) (sym u.needed)
              (found_needed u.files (folder_of folders m).path (p.0, p.1, (q.0, q.1, (q.2.is_found.1 (m, need.2.2.2), q.2.path ∙ sym need.2.2.2.names.same))))
        ]
      ]

  stands_back : (s : List PackageUnit) (u : PackageUnit) (path : List ℕ) → Stands s path → Stands (s ++ u ∷ []) path
  stands_back s u path h = (h.0, has_left s (u ∷ []) h.0 h.1, h.2)

  stands_or : (s : List PackageUnit) (u : PackageUnit) (path : List ℕ) → Stands (s ++ u ∷ []) path → Stands s path ⊎ (u.path ≡ path)
  stands_or s u path h = elim (has_back s u h.0 h.1) [ inl old ↦ inl (h.0, old, h.2) | inr e ↦ inr (ap (λ (w : PackageUnit). w.path) e ∙ h.2) ]

  module _ (a : List PackageUnit) (all : AreUnits module_path folders slots a) (graph : List (List ℕ)) (needs : AreNeeds module_path folders slots graph) where
    -- the unit of a path needs what its folder's package needs
    unit_needs : (u : PackageUnit) → Has a u → (n m : ℕ) → n < length folders → u.path ≡ (folder_of folders n).path → Needs module_path folders slots n m → Has u.needs (folder_of folders m).path
    unit_needs u h n m below e need =
        let k = all.sound u h in
        let same : n ≡ k.0 = number_of module_path folders ordered slots rows k.0 n u k.1 below e in
        path_needed n m u (subst (λ (w : ℕ). is_of w u) (sym same) k.1) need

    needs_below : (n m : ℕ) → Needs module_path folders slots n m → n < length folders
    needs_below n m need = let h = slot_within slots n need.0 need.1 in omega (arith, h, rows)

    met_by : {s : List PackageUnit} → InOrder (λ w. Has a w) s → ((x : PackageUnit) → Has s x → Has a x) → (n m : ℕ) → Stands s (folder_of folders n).path → Needs module_path folders slots n m → Stands s (folder_of folders m).path
    met_by none f n m h need = absurd h.1
    met_by (next {standing = s} {u = u} o i) f n m h need = elim (stands_or s u (folder_of folders n).path h) [
      | inl old ↦ stands_back s u (folder_of folders m).path (met_by o (λ x k. f x (has_left s (u ∷ []) x k)) n m old need)
      | inr e ↦ stands_back s u (folder_of folders m).path (i.met (folder_of folders m).path (unit_needs u (f u (has_last s u)) n m (needs_below n m need) e need))
    ]

    leads_by : {s : List PackageUnit} → InOrder (λ w. Has a w) s → ((x : PackageUnit) → Has s x → Has a x) → {n m : ℕ} → Stands s (folder_of folders n).path → LeadsTo graph n m → Stands s (folder_of folders m).path
    leads_by o f h (directly {m = n} {n = m} l) = met_by o f n m h (needs.sound n m l)
    leads_by o f h (through {k = n} {m = m} l r) = leads_by o f (met_by o f n m h (needs.sound n m l)) r

    -- from what the last unit needs all stands that it leads to
    leads_from : {s : List PackageUnit} (u : PackageUnit) → InOrder (λ w. Has a w) s → ((x : PackageUnit) → Has s x → Has a x) → Has a u → ((path : List ℕ) → Has u.needs path → Stands s path)
        → {n m : ℕ} → u.path ≡ (folder_of folders n).path → LeadsTo graph n m → Stands s (folder_of folders m).path
    leads_from u o f h met e (directly {m = n} {n = m} l) = met (folder_of folders m).path (unit_needs u h n m (needs_below n m (needs.sound n m l)) e (needs.sound n m l))
    leads_from u o f h met e (through {k = n} {m = m} l r) = leads_by o f (met (folder_of folders m).path (unit_needs u h n m (needs_below n m (needs.sound n m l)) e (needs.sound n m l))) r

    no_cycle : {s : List PackageUnit} → InOrder (λ w. Has a w) s → ((x : PackageUnit) → Has s x → Has a x) → (n : ℕ) → Stands s (folder_of folders n).path → LeadsTo graph n n → ⊥
    no_cycle none f n h c = h.1
    no_cycle (next {standing = s} {u = u} o i) f n h c = elim (stands_or s u (folder_of folders n).path h) [
      | inl old ↦ no_cycle o (λ x k. f x (has_left s (u ∷ []) x k)) n old c
      | inr e ↦ i.fresh (subst (Stands s) (sym e) (leads_from u o (λ x k. f x (has_left s (u ∷ []) x k)) (f u (has_last s u)) i.met e c))
    ]

    leads_holds : {m n : ℕ} → LeadsTo graph m n → HoldsPackage slots n
    leads_holds (directly {m = m} {n = n} l) = (needs.sound m n l).2.2.2.holds
    leads_holds (through l r) = leads_holds r

  never : IsProp ⊥
  never x y = absurd x

  pub units_or_cycle : (a : List PackageUnit) (path : List ℕ) → AreUnits module_path folders slots a → ∥ AreInOrder a ∥₁ → IsCycle module_path folders slots path → ⊥
  units_or_cycle a path all o c =
      let on = c.3.on in
      let u = all.complete c.2 (leads_holds a all c.0 c.1 on) in
      ∥∥₁_elim o never (λ x. no_cycle a all c.0 c.1 x (λ w h. h) c.2 (u.0, u.1, u.2.path) on)
