-- Units that are made in the order of their folders stand in canonical order.
use Rattle.std.proofs.Common.{◌≡◌, ℕ, ◌+◌, ◌<◌, ◌≤◌, Bool, Option, Some, None, List, [], ◌∷◌, ◌++◌, length, take, get_or, set, refl, sym, ap, ◌∙◌, subst, inl, inr, arith}
use mathlib.Core.Bool.{true≢false}
use Rattle.std.proofs.lemmas.List.{length-set, get_or-set_other, take_more, append-nil}
use Rattle.go_base.specs.Lists.{Has, Before}
use Rattle.go_base.proofs.Lists.{take_past}
use Rattle.go_imports.specs.Gives.{Gives, none}
use Rattle.go_imports.specs.Orders.{IsNext, IsCanonical, IsReady}
use Rattle.go_imports.specs.declared.used_imports.NamedImport.{NamedImport}
use Rattle.go_imports.proofs.Members.{has_left, has_last}
use Rattle.go_units.specs.Folders.{folder_of, AreOrdered}
use Rattle.go_units.specs.Reached.{ReadFolders, slot, is_std}
use Rattle.go_units.specs.UnitOrders.{Stands, IsNextUnit, InOrder, none as no_unit, next as next_unit}
use Rattle.go_units.specs.UnitsOfModules.{holds_files, packages_in, HoldsPackage, GivesUse, GivesUnitFile, IsUnitOf, Needs, AreNeeds}
use Rattle.go_units.specs.inner.UnitOrder.{AddsUnit, GivesUnit, IsSomeUnit, Making, UnitsAre}
use Rattle.go_units.specs.declared.folder.Folder.{Folder}
use Rattle.go_units.specs.declared.package_uses.PackageFile.{PackageFile}
use Rattle.go_units.specs.declared.unit.«Unit».{«Unit» as PackageUnit}
use Rattle.go_units.proofs.FolderLookups.{at_once, not_before}
use Rattle.go_units.proofs.Giving.{given_by, gives_all, gives_fewer, gives_as_many, gives_more}
use Rattle.go_units.proofs.NeededPaths.{needed_found, found_needed}
use Rattle.go_units.proofs.OrderParts.{next_at, order_short}
use Rattle.go_units.proofs.WalkedFiles.{slot_within, flag_is, holds_some, holds_within}

in_order_as : (P Q : PackageUnit → Type 0) → ((u : PackageUnit) → Q u → P u) → {units : List PackageUnit} → InOrder P units → InOrder Q units
in_order_as P Q f no_unit = no_unit
in_order_as P Q f (next_unit o n) = next_unit (in_order_as P Q f o) (record { fresh = n.fresh; met = n.met; least = λ v q free met. n.least v (f v q) free met })

module _ (module_path : List ℕ) (folders : List Folder) (ordered : AreOrdered folders) (slots : ReadFolders) (rows : length slots ≡ length folders) where
  abbrev packages : List Bool
  packages = packages_in slots

  abbrev is_of : ℕ → PackageUnit → Type 0
  is_of n u = IsUnitOf module_path folders slots n u

  no_file : (from_std : Bool) (f : PackageFile) → GivesUnitFile module_path folders packages from_std f None → ⊥
  no_file from_std f k = k

  -- a folder that has a unit holds a package
  unit_holds : (n : ℕ) (u : PackageUnit) → is_of n u → HoldsPackage slots n
  unit_holds n u k =
      let many = gives_as_many (GivesUnitFile module_path folders packages (is_std folders n)) (no_file (is_std folders n)) k.given in
      holds_some slots n k.members k.held (let s = k.some in omega (arith, s, many))

  unit_below : (n : ℕ) (u : PackageUnit) → is_of n u → n < length folders
  unit_below n u k = let h = slot_within slots n k.members k.held in omega (arith, h, rows)

  -- what a unit needs is found in a folder that its package needs
  need_of : (n : ℕ) (u : PackageUnit) → is_of n u → (path : List ℕ) → Has u.needs path → (m : ℕ) × Needs module_path folders slots n m × HoldsPackage slots m × ((folder_of folders m).path ≡ path)
  need_of n u k path h =
      let std = is_std folders n in
      let f = needed_found u.files path (subst (λ (ps : List (List ℕ)). Has ps path) u.needed h) in
      let p = given_by (GivesUnitFile module_path folders packages std) k.given f.0 f.1 in
      let q = given_by (GivesUse module_path folders packages std) p.2.given f.2.0 f.2.1 in
      let found = q.2.is_found.0 f.2.2.0 in
      (found.0, (k.members, k.held, (p.0, p.1, (q.0, q.1, found.1))), found.1.holds, found.1.names.same ∙ sym q.2.path ∙ f.2.2.1)

  no_use : (from_std : Bool) (u : NamedImport) → GivesUse module_path folders packages from_std u None → ⊥
  no_use from_std u k = k

  -- and a unit needs the path of each folder that its package needs
  path_needed : (n m : ℕ) (u : PackageUnit) → is_of n u → Needs module_path folders slots n m → Has u.needs (folder_of folders m).path
  path_needed n m u k need =
      let std = is_std folders n in
      let same : need.0 ≡ k.members = (let e : ◌≡◌ {A = Option (List PackageFile)} (Some need.0) (Some k.members) = sym need.1 ∙ k.held in cc) in
      elim (gives_all (GivesUnitFile module_path folders packages std) k.given need.2.0 (subst (λ (fs : List PackageFile). Has fs need.2.0) same need.2.1)) [
        | inl never ↦ absurd never
        | inr p ↦ elim (gives_all (GivesUse module_path folders packages std) p.2.given need.2.2.0 need.2.2.1) [
          | inl never ↦ absurd never
          | inr q ↦
              subst (λ (ps : List (List ℕ)). Has ps (folder_of folders m).path) (sym u.needed)
              (found_needed u.files (folder_of folders m).path (p.0, p.1, (q.0, q.1, (q.2.is_found.1 (m, need.2.2.2), q.2.path ∙ sym need.2.2.2.names.same))))
        ]
      ]

  module _ (graph : List (List ℕ)) (needs : AreNeeds module_path folders slots graph) (order : List ℕ) (canonical : IsCanonical graph order) where
    module _ (at : ℕ) (units : List PackageUnit) (made : Gives (GivesUnit module_path folders slots) (take at order) units) where
      -- a unit stands where its folder is before this place
      stands_at : (m : ℕ) → Has (take at order) m → HoldsPackage slots m → Stands units (folder_of folders m).path
      stands_at m h holds = elim (gives_all (GivesUnit module_path folders slots) made m h) [ inl never ↦ absurd (never holds) | inr p ↦ (p.0, p.1, p.2.path) ]

      at_stands : (m : ℕ) → m < length folders → Stands units (folder_of folders m).path → Has (take at order) m
      at_stands m h s =
          let p = given_by (GivesUnit module_path folders slots) made s.0 s.1 in
          let below = unit_below p.0 s.0 p.2 in
          subst (Has (take at order)) (sym (at_once folders (folder_of folders p.0).path p.0 m ordered (below, refl) (h, sym s.2 ∙ p.2.path))) p.1

      module _ (n : ℕ) (is_next : IsNext graph (take at order) n) (u : PackageUnit) (k : is_of n u) where
        unit_next : IsNextUnit (IsSomeUnit module_path folders slots) units u
        unit_next = record {
          fresh = λ s. is_next.ready.fresh (at_stands n (unit_below n u k) (subst (Stands units) k.path s));
          met = λ path h. (
              let p = need_of n u k path h in
              subst (Stands units) p.3 (stands_at p.0 (is_next.ready.met p.0 (needs.complete n p.0 p.1)) p.2)
              );
          least = λ v some free met before. (
              let m = some.0 in
              let w = some.1 in
              let below = unit_below m v w in
              let ready : IsReady graph (take at order) m = record {
                is = omega (arith, below, needs.rows);
                fresh = λ h. free (subst (Stands units) (sym w.path) (stands_at m h (unit_holds m v w)));
                met = λ j h. (
                    let need = needs.sound m j h in
                    at_stands j need.2.2.2.names.within (met (folder_of folders j).path (path_needed m j v w need))
                    );
              } in
              not_before folders n m ordered (is_next.least m ready) below (subst (λ (q : List ℕ × List ℕ). Before q.0 q.1) (λ i. (w.path i, k.path i)) before)
              );
        }

      module _ (left left2 : ReadFolders) (m : Making module_path folders slots order at left units) (n : ℕ) (within : at < length order) (is : n ≡ get_or order at n) (taken : left2 ≡ set left n None) where
        next_folder : IsNext graph (take at order) n
        next_folder = next_at graph order at n canonical.ordered within is

        longer : take (at + 1) order ≡ take at order ++ n ∷ []
        longer = take_more order at n within ∙ ap (λ (x : ℕ). take at order ++ x ∷ []) (sym is)

        later : (j : ℕ) → Has (take at order) j → Has (take (at + 1) order) j
        later j h = subst (λ (xs : List ℕ). Has xs j) (sym longer) (has_left (take at order) (n ∷ []) j h)

        here : (j : ℕ) → j ≡ n → Has (take (at + 1) order) j
        here j e = subst (λ (xs : List ℕ). Has xs j) (sym longer) (subst (Has (take at order ++ n ∷ [])) (sym e) (has_last (take at order) n))

        still_kept : (j : ℕ) → (Has (take (at + 1) order) j → ⊥) → slot left2 j ≡ slot slots j
        still_kept j fresh = ap (λ (w : ReadFolders). slot w j) taken ∙ get_or-set_other left n j None None (λ e. fresh (here j e)) ∙ m.kept j (λ h. fresh (later j h))

        -- the files that are taken are those of the folder
        as_read : (held : Option (List PackageFile)) → held ≡ slot left n → slot slots n ≡ held
        as_read held e = sym (m.kept n next_folder.ready.fresh) ∙ sym e

        pub making_next : (held : Option (List PackageFile)) (units2 : List PackageUnit) → held ≡ slot left n → AddsUnit module_path folders packages n held units units2 → Making module_path folders slots order (at + 1) left2 units2
        making_next held units2 e (inl p) = record {
          kept = still_kept;
          rows = ap (λ (w : ReadFolders). length w) taken ∙ length-set left n None ∙ m.rows;
          made = gives_more (GivesUnit module_path folders slots) order at n None units units2 within is
              (λ h. true≢false (sym h ∙ flag_is slots n ∙ ap holds_files (as_read held e) ∙ p.0)) (p.1 ∙ sym (append-nil units)) m.made;
          placed = subst (InOrder (IsSomeUnit module_path folders slots)) (sym p.1) m.placed;
        }
        making_next held units2 e (inr p) =
            let k : is_of n p.2 = record { members = p.0; held = as_read held e ∙ p.1; path = p.3.path; side = p.3.side; given = p.3.given; some = p.3.some } in
            record {
              kept = still_kept;
              rows = ap (λ (w : ReadFolders). length w) taken ∙ length-set left n None ∙ m.rows;
              made = gives_more (GivesUnit module_path folders slots) order at n (Some p.2) units units2 within is k p.4 m.made;
              placed = subst (InOrder (IsSomeUnit module_path folders slots)) (sym p.4) (next_unit m.placed (unit_next n next_folder p.2 k));
            }

        -- each folder of the order is there, and what it holds is as it was read
        pub folder_there : n < length folders
        folder_there = let i = next_folder.ready.is in omega (arith, i, needs.rows)

        pub held_read : (held : Option (List PackageFile)) → held ≡ slot left n → slot slots n ≡ held
        held_read held e = as_read held e

    pub making_first : (left : ReadFolders) (units : List PackageUnit) → left ≡ slots → units ≡ [] → Making module_path folders slots order 0 left units
    making_first left units e f = record {
      kept = λ j fresh. ap (λ (w : ReadFolders). slot w j) e;
      rows = ap (λ (w : ReadFolders). length w) e;
      made = subst (Gives (GivesUnit module_path folders slots) []) (sym f) none;
      placed = subst (InOrder (IsSomeUnit module_path folders slots)) (sym f) no_unit;
    }

    pub units_are : (at : ℕ) (left : ReadFolders) (units : List PackageUnit) → length order ≤ at → Making module_path folders slots order at left units → UnitsAre module_path folders slots units
    units_are at left units h m =
        let made : Gives (GivesUnit module_path folders slots) order units = subst (λ (xs : List ℕ). Gives (GivesUnit module_path folders slots) xs units) (take_past at order h) m.made in
        let sound : (u : PackageUnit) → Has units u → IsSomeUnit module_path folders slots u = λ u k. (let p = given_by (GivesUnit module_path folders slots) made u k in (p.0, p.2)) in
        record {
          all = record {
            sound = sound;
            complete = λ n holds. elim (gives_all (GivesUnit module_path folders slots) made n (canonical.all n (let b = holds_within slots n holds in omega (arith, b, rows, needs.rows)))) [
              | inl never ↦ absurd (never holds)
              | inr p ↦ p
            ];
          };
          ordered = in_order_as (IsSomeUnit module_path folders slots) (λ u. Has units u) sound m.placed;
          few = (let a = gives_fewer (GivesUnit module_path folders slots) made in let b = order_short graph canonical.ordered in omega (arith, a, b, needs.rows));
        }
