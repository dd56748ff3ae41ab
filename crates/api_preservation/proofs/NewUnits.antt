-- The units of a new module with a client: those that it has alone, and of those of the old one with the client the ones of the standard library that are read.
use Rattle.std.proofs.Common.{◌≡◌, ◌⊎◌, ◌<◌, ◌≤◌, ℕ, Bool, true, false, Some, List, [], ◌∷◌, ◌++◌, map, length, refl, sym, ap, ◌∙◌, subst, inl, inr, arith}
use mathlib.Core.Logic.{∥∥₁_elim}
use Rattle.go_base.specs.Lists.{Has}
use Rattle.go_existence.proofs.DoubleNegation.{less_or}
use Rattle.go_existence.specs.Existence.{NotNone}
use Rattle.go_imports.proofs.Members.{has_at, has_back, has_last, has_left}
use Rattle.go_imports.specs.Gives.{Gives}
use Rattle.go_imports.specs.ImportPaths.{IsUnder}
use Rattle.go_model.specs.declared.files.platform.Platform.{Platform}
use Rattle.go_model.specs.declared.files.tree.Tree.{Tree}
use Rattle.go_model.specs.declared.files.tree.TreeFile.{TreeFile}
use Rattle.go_reading.proofs.ListFacts.{has_mapped, length_mapped}
use Rattle.go_reading.specs.FolderReadings.{IsReading}
use Rattle.go_std_worlds.proofs.SameFolders.{folder_there, named_std}
use Rattle.go_typings.proofs.Cells.{either, maybe, none_some}
use Rattle.go_units.proofs.FolderLookups.{at_once}
use Rattle.go_units.proofs.Giving.{given_by}
use Rattle.go_units.proofs.NeededPaths.{needed_found}
use Rattle.go_units.proofs.WalkedFiles.{holds_within, slot_within}
use Rattle.go_units.specs.Folders.{folder_of, no_folder, path_of}
use Rattle.go_units.specs.Reached.{is_std, slot}
use Rattle.go_units.specs.UnitOrders.{InOrder, IsMet, Stands, next, none}
use Rattle.go_units.specs.UnitsOfModules.{AreUnits, GivesUnitFile, GivesUse, HoldsPackage, IsUnitOf, packages_in}
use Rattle.go_units.specs.declared.folder.Folder.{Folder}
use Rattle.go_units.specs.declared.package_uses.PackageFile.{PackageFile}
use Rattle.go_units.specs.declared.reader.Reading.{Reading}
use Rattle.go_units.specs.declared.unit.«Unit».{«Unit» as PackageUnit}
use Rattle.go_units.specs.declared.unit_list.Units.{Units}
use Rattle.api_preservation.proofs.Decisions.{Decided, below_any, text_or}
use Rattle.api_preservation.proofs.FoundAlike.{files_as}
use Rattle.api_preservation.proofs.ReachedFolders.{Known, client_files}
use Rattle.api_preservation.proofs.Runs.{Run, held_there, holds_alike}
use Rattle.api_preservation.proofs.SameStd.{found_there, path_same, side_same, std_alike, std_files_same}
use Rattle.api_preservation.proofs.SameTree.{all_alike, same_files}
use Rattle.api_preservation.proofs.UnitRuns.{UnitRun, own_under, unit_within}
use Rattle.api_preservation.proofs.UnitsInTurn.{InTurn, Ordered, all_stand, fewer_units, in_order, in_turn, one_more, ordered, stands_or}

module _ (p : Platform) (barred : List (List ℕ)) (std_tree : Tree) (one : (files : List TreeFile) (a b : Reading) → IsReading p files a → IsReading p files b → a ≡ b)
    (old new : Tree) (fo fn : List Folder) (oc : UnitRun p barred old std_tree fo) (na : UnitRun p barred new std_tree fn) (s : Run p barred new std_tree fn)
    (known : (n : ℕ) (files : List PackageFile) → slot s.slots n ≡ Some files → Known p barred std_tree one old new fo fn oc.run na.run n)
    (too : (n : ℕ) (files : List PackageFile) → slot na.run.slots n ≡ Some files → slot s.slots n ≡ Some files) (old_barred : Has barred old.module) where
  abbrev IsNew : ℕ → PackageUnit → Type 0
  IsNew n u = IsUnitOf new.module fn s.slots n u

  -- ---- units of either are units with the client

  of_alone : (u : PackageUnit) (n : ℕ) → IsUnitOf new.module fn na.run.slots n u → IsNew n u
  of_alone u n k =
      let held = too n k.members k.held in
      record {
        members = k.members;
        held = held;
        path = k.path;
        side = k.side;
        given = files_as new.module new.module fn fn (packages_in na.run.slots) (packages_in s.slots) (is_std fn n) k.members u.files (all_alike p barred new std_tree fn one na.run s n k.members k.held held) k.given;
        some = k.some;
      }

  abbrev IsOld : ℕ → PackageUnit → Type 0
  IsOld k u = IsUnitOf old.module fo oc.run.slots k u

  held_new : (u : PackageUnit) (k : ℕ) (a : IsOld k u) (n : ℕ) → folder_of fn n ≡ folder_of fo k → is_std fo k ≡ true → (files : List PackageFile) → slot s.slots n ≡ Some files → slot s.slots n ≡ Some a.members
  held_new u k a n same std files held = held ∙ ap Some (sym (std_files_same p barred std_tree one old new fo fn oc.run s k n a.members files same std a.held held))

  of_client : (u : PackageUnit) (k : ℕ) → IsOld k u → (n : ℕ) → folder_of fn n ≡ folder_of fo k → is_std fo k ≡ true → (files : List PackageFile) → slot s.slots n ≡ Some files → IsNew n u
  of_client u k a n same std files held =
      let po = packages_in oc.run.slots in
      let ps = packages_in s.slots in
      let std_new : is_std fn n ≡ true = side_same (folder_of fn n) (folder_of fo k) same ∙ std in
      let here = held_new u k a n same std files held in
      let given : Gives (GivesUnitFile old.module fo po true) a.members u.files = subst (λ (t : Bool). Gives (GivesUnitFile old.module fo po t) a.members u.files) std a.given in
      let there : Gives (GivesUnitFile new.module fn ps true) a.members u.files =
      files_as old.module new.module fo fn po ps true a.members u.files (std_alike p barred std_tree one old new fo fn oc.run s k n same std a.members a.held here) given in
      record {
        members = a.members;
        held = here;
        path = a.path ∙ sym (path_same (folder_of fn n) (folder_of fo k) same);
        side = a.side ∙ std ∙ sym std_new;
        given = subst (λ (t : Bool). Gives (GivesUnitFile new.module fn ps t) a.members u.files) (sym std_new) there;
        some = a.some;
      }

  slot_in : (n : ℕ) (files : List PackageFile) → slot s.slots n ≡ Some files → n < length fn
  slot_in n files e = let i = slot_within s.slots n files e in let rows = s.rows in omega (arith, i, rows)

  -- ---- which of the old units are kept

  -- the folder of the standard library with this path is read
  record IsKeptAt (path : List ℕ) (n : ℕ) : Type 0 where
    within : n < length fn
    same : (folder_of fn n).path ≡ path
    std : is_std fn n ≡ true
    files : List PackageFile
    held : slot s.slots n ≡ Some files

  kept_at_or : (path : List ℕ) (n : ℕ) → Decided (IsKeptAt path n)
  kept_at_or path n = elim (less_or n (length fn)) [
    | inr past ↦ inr (λ k. let w = k.within in omega (arith, past, w))
    | inl within ↦ elim (text_or (folder_of fn n).path path) [
      | inr other ↦ inr (λ k. other k.same)
      | inl same ↦ elim (either (is_std fn n)) [
        | inr own ↦ inr (λ k. (let e : true ≡ false = sym k.std ∙ own in cc))
        | inl std ↦ elim (maybe (slot s.slots n)) [
          | inr fresh ↦ inr (λ k. none_some (slot s.slots n) k.files fresh k.held)
          | inl held ↦ inl (record { within = within; same = same; std = std; files = held.0; held = held.1 })
        ]
      ]
    ]
  ]

  abbrev Kept : List ℕ → Type 0
  Kept path = (n : ℕ) × IsKeptAt path n

  kept_or : (path : List ℕ) → Decided (Kept path)
  kept_or path = below_any (IsKeptAt path) (kept_at_or path) (length fn) (λ n k. k.within)

  -- such a unit of the old module with the client is one of the new one
  kept_unit : (u : PackageUnit) → Has oc.units.packages u → (n : ℕ) → IsKeptAt u.path n → (k : ℕ) × IsOld k u × (is_std fo k ≡ true) × (folder_of fn n ≡ folder_of fo k)
  kept_unit u h n k = by (oc.all.sound u h)
    where
      std_at : (m : ℕ) → IsOld m u → is_std fo m ≡ true
      std_at m a = elim (either (is_std fo m)) [
        | inl std ↦ std
        | inr own ↦ (
            let under = own_under p barred old std_tree fo oc u h (a.side ∙ own) in
            let folder = na.run.are.sound (folder_of fn n) (has_at fn n no_folder k.within) in
            absurd ((folder.counts k.std).kept (inr (old.module, old_barred, subst (λ (w : List ℕ). IsUnder w old.module) (sym k.same) under)))
            )
      ]

      by : (m : ℕ) × IsOld m u → (j : ℕ) × IsOld j u × (is_std fo j ≡ true) × (folder_of fn n ≡ folder_of fo j)
      by m =
          let std = std_at m.0 m.1 in
          let q = folder_there p barred std_tree old new fo fn oc.run.are na.run.are m.0 (unit_within p barred old std_tree fo oc u m.0 m.1) std in
          let number : q.number ≡ n = at_once fn u.path n q.number na.run.are.ordered (k.within, k.same) (q.within, path_same (folder_of fn q.number) (folder_of fo m.0) q.same ∙ sym m.1.path) in
          (m.0, m.1, std, ap (folder_of fn) (sym number) ∙ q.same)

  -- ---- all units, each after those that it needs

  add_by : (us : List PackageUnit) (u : PackageUnit) → Decided (Kept u.path) → Decided (Stands us u.path) → List PackageUnit
  add_by us u (inl k) (inr fresh) = us ++ u ∷ []
  add_by us u (inl k) (inl s) = us
  add_by us u (inr n) s = us

  add_one : List PackageUnit → PackageUnit → List PackageUnit
  add_one us u = add_by us u (kept_or u.path) (stands_or us u.path)

  add : List PackageUnit → List PackageUnit → List PackageUnit
  add us [] = us
  add us (x ∷ xs) = add (add_one us x) xs

  add_last : (us xs : List PackageUnit) (x : PackageUnit) → add us (xs ++ x ∷ []) ≡ add_one (add us xs) x
  unfolding add
  add_last us [] x = refl
  add_last us (y ∷ xs) x = add_last (add_one us y) xs x

  -- what stands stays
  by_still : (us : List PackageUnit) (u : PackageUnit) (k : Decided (Kept u.path)) (s : Decided (Stands us u.path)) (v : PackageUnit) → Has us v → Has (add_by us u k s) v
  unfolding add_by
  by_still us u (inl k) (inr fresh) v h = has_left us (u ∷ []) v h
  by_still us u (inl k) (inl s) v h = h
  by_still us u (inr n) s v h = h

  one_still : (us : List PackageUnit) (u v : PackageUnit) → Has us v → Has (add_one us u) v
  unfolding add_one
  one_still us u v h = by_still us u (kept_or u.path) (stands_or us u.path) v h

  add_still : (us xs : List PackageUnit) (v : PackageUnit) → Has us v → Has (add us xs) v
  unfolding add
  add_still us [] v h = h
  add_still us (x ∷ xs) v h = add_still (add_one us x) xs v (one_still us x v h)

  -- what is added is a unit that is kept
  by_from : (us : List PackageUnit) (u : PackageUnit) (k : Decided (Kept u.path)) (s : Decided (Stands us u.path)) (v : PackageUnit) → Has (add_by us u k s) v → Has us v ⊎ ((u ≡ v) × Kept v.path)
  unfolding add_by
  by_from us u (inl k) (inr fresh) v h = elim (has_back us u v h) [ inl old ↦ inl old | inr e ↦ inr (e, subst (λ (w : PackageUnit). Kept w.path) e k) ]
  by_from us u (inl k) (inl s) v h = inl h
  by_from us u (inr n) s v h = inl h

  one_from : (us : List PackageUnit) (u v : PackageUnit) → Has (add_one us u) v → Has us v ⊎ ((u ≡ v) × Kept v.path)
  unfolding add_one
  one_from us u v h = by_from us u (kept_or u.path) (stands_or us u.path) v h

  add_from : (us xs : List PackageUnit) (v : PackageUnit) → Has (add us xs) v → Has us v ⊎ (Has xs v × Kept v.path)
  unfolding add
  add_from us [] v h = inl h
  add_from us (x ∷ xs) v h = elim (add_from (add_one us x) xs v h) [
    | inr k ↦ inr (inr k.0, k.1)
    | inl k ↦ elim (one_from us x v k) [ inl old ↦ inl old | inr e ↦ inr (inl e.0, e.1) ]
  ]

  -- a unit that is kept stands in the end
  by_stands : (us : List PackageUnit) (u : PackageUnit) (k : Decided (Kept u.path)) (s : Decided (Stands us u.path)) → Kept u.path → Stands (add_by us u k s) u.path
  unfolding add_by
  by_stands us u (inl k) (inr fresh) kept = (u, has_last us u, refl)
  by_stands us u (inl k) (inl s) kept = s
  by_stands us u (inr n) s kept = absurd (n kept)

  one_stands : (us : List PackageUnit) (u : PackageUnit) → Kept u.path → Stands (add_one us u) u.path
  unfolding add_one
  one_stands us u kept = by_stands us u (kept_or u.path) (stands_or us u.path) kept

  add_stands : (us xs : List PackageUnit) (v : PackageUnit) → Has xs v → Kept v.path → Stands (add us xs) v.path
  unfolding add
  add_stands us [] v h kept = absurd h
  add_stands us (x ∷ xs) v (inl e) kept =
      let s = one_stands us x (subst (λ (w : PackageUnit). Kept w.path) (sym e) kept) in
      (s.0, add_still (add_one us x) xs s.0 s.1, s.2 ∙ ap (λ (w : PackageUnit). w.path) e)
  add_stands us (x ∷ xs) v (inr h) kept = add_stands (add_one us x) xs v h kept

  -- ---- what they need

  at_path : (a b c d : List ℕ) → a ≡ b → c ≡ b → c ≡ d → a ≡ d
  at_path a b c d e f g = e ∙ sym f ∙ g

  -- what a kept unit needs is kept
  need_kept : (u : PackageUnit) → Has oc.units.packages u → Kept u.path → (path : List ℕ) → Has u.needs path → Kept path
  need_kept u h kept path need =
      let q = kept_unit u h kept.0 kept.1 in
      let po = packages_in oc.run.slots in
      let a = q.1 in
      let here = held_new u q.0 a kept.0 q.3 q.2 kept.1.files kept.1.held in
      let f = needed_found u.files path (subst (λ (ps : List (List ℕ)). Has ps path) u.needed need) in
      let given : Gives (GivesUnitFile old.module fo po true) a.members u.files = subst (λ (t : Bool). Gives (GivesUnitFile old.module fo po t) a.members u.files) q.2 a.given in
      let g = given_by (GivesUnitFile old.module fo po true) given f.0 f.1 in
      let x = given_by (GivesUse old.module fo po true) g.2.given f.2.0 f.2.1 in
      let m = x.2.is_found.0 f.2.2.0 in
      let there = found_there p barred std_tree one old new fo fn oc.run s kept.0 a.members kept.1.std here g.0 x.0 m.0 g.1 x.1 m.1 in
      let held = held_there s.slots there.0 there.1.holds in (
        there.0,
        record {
          within = there.1.names.within;
          same = at_path (folder_of fn there.0).path x.0.path f.2.0.path path there.1.names.same x.2.path f.2.2.1;
          std = named_std new.module fn x.0.path there.0 there.1.names;
          files = held.0;
          held = held.1;
        },
      )

  by_turn : (us : List PackageUnit) (u : PackageUnit) (k : Decided (Kept u.path)) (s : Decided (Stands us u.path)) → InTurn us → (Kept u.path → IsMet us u) → InTurn (add_by us u k s)
  unfolding add_by
  by_turn us u (inl k) (inr fresh) t met = one_more u t fresh (met k)
  by_turn us u (inl k) (inl s) t met = t
  by_turn us u (inr n) s t met = t

  one_turn : (us : List PackageUnit) (u : PackageUnit) → InTurn us → (Kept u.path → IsMet us u) → InTurn (add_one us u)
  unfolding add_one
  one_turn us u t met = by_turn us u (kept_or u.path) (stands_or us u.path) t met

  add_turn : (us : List PackageUnit) {among : PackageUnit → Type 0} {xs : List PackageUnit} → InOrder among xs → ((v : PackageUnit) → Has xs v → Has oc.units.packages v) → InTurn us → InTurn (add us xs)
  unfolding add
  add_turn us none within t = t
  add_turn us (next {standing = xs} {u = u} o i) within t =
      subst InTurn (sym (add_last us xs u)) (one_turn (add us xs) u (add_turn us o (λ v h. within v (has_left xs (u ∷ []) v h)) t) (λ kept path need.
      let w = i.met path need in
      subst (Stands (add us xs)) w.2 (add_stands us xs w.0 w.1 (subst Kept (sym w.2) (need_kept u (within u (has_last xs u)) kept path need)))))

  -- ---- the units in their order

  abbrev all_units : List PackageUnit
  all_units = add na.units.packages oc.units.packages

  never : IsProp ⊥
  never x y = absurd x

  all_turn : NotNone (InTurn all_units)
  all_turn stop = ∥∥₁_elim na.units.ordered never (λ x. ∥∥₁_elim oc.units.ordered never (λ y. stop (add_turn na.units.packages y (λ v h. h) (in_turn x))))

  sound_unit : (u : PackageUnit) → Has all_units u → (n : ℕ) × IsNew n u
  sound_unit u h = elim (add_from na.units.packages oc.units.packages u h) [
    | inl own ↦ (let k = na.all.sound u own in (k.0, of_alone u k.0 k.1))
    | inr k ↦ (let q = kept_unit u k.0 k.1.0 k.1.1 in (k.1.0, of_client u q.0 q.1 k.1.0 q.3 q.2 k.1.1.files k.1.1.held))
  ]

  complete_unit : (n : ℕ) → HoldsPackage s.slots n → (u : PackageUnit) × Stands all_units u.path × ((folder_of fn n).path ≡ u.path)
  complete_unit n h = by (held_there s.slots n h)
    where
      of : (files : List PackageFile) → slot s.slots n ≡ Some files → Known p barred std_tree one old new fo fn oc.run na.run n → (u : PackageUnit) × Stands all_units u.path × ((folder_of fn n).path ≡ u.path)
      of files e (inl k) =
          let same : k.0 ≡ files = same_files p barred new std_tree fn one na.run s n k.0 files k.1 e in
          let u = na.all.complete n (holds_alike na.run.slots s.slots n n k.0 files k.1 e same h) in
          (u.0, (u.0, add_still na.units.packages oc.units.packages u.0 u.1, refl), sym u.2.path)
      of files e (inr k) =
          let same : k.files ≡ files = client_files p barred std_tree one old new fo fn oc.run na.run n k files (s.read n files e) in
          let u = oc.all.complete k.number (holds_alike oc.run.slots s.slots k.number n k.files files k.held e same h) in
          let path : (folder_of fn n).path ≡ u.0.path = path_same (folder_of fn n) (folder_of fo k.number) k.same ∙ sym u.2.path in
          let kept : Kept u.0.path = (n, record { within = slot_in n files e; same = path; std = k.std; files = files; held = e }) in
          (u.0, add_stands na.units.packages oc.units.packages u.0 u.1 kept, path)

      by : (files : List PackageFile) × (slot s.slots n ≡ Some files) → (u : PackageUnit) × Stands all_units u.path × ((folder_of fn n).path ≡ u.path)
      by k = of k.0 k.1 (known n k.0 k.1)

  made : Ordered all_units
  made = ordered all_units

  number_at : (u : PackageUnit) (n m : ℕ) → IsNew m u → n < length fn → (folder_of fn n).path ≡ u.path → m ≡ n
  number_at u n m k within path =
      let i = slot_within s.slots m k.members k.held in
      let rows = s.rows in
      at_once fn u.path n m na.run.are.ordered (within, path) (omega (arith, i, rows), sym k.path)

  are_units : AreUnits new.module fn s.slots made.units
  are_units = record {
    sound = λ u h. sound_unit u (made.sound u h);
    complete = λ n h. (
        let u = complete_unit n h in
        let a = u.1 in
        let w = all_stand all_units made all_turn a.0 a.1 in
        let path : w.0.path ≡ u.0.path = w.2 ∙ a.2 in
        let k = sound_unit w.0 (made.sound w.0 w.1) in
        let i = holds_within s.slots n h in
        let rows = s.rows in
        let number : k.0 ≡ n = number_at w.0 n k.0 k.1 (omega (arith, i, rows)) (u.2 ∙ sym path) in
        (w.0, w.1, subst (λ (m : ℕ). IsNew m w.0) number k.1)
        );
  }

  few_units : length made.units ≤ length fn
  few_units =
      let l = fewer_units made.order (map path_of fn) (λ u h. (
      let k = sound_unit u (made.sound u h) in
      let i = slot_within s.slots k.0 k.1.members k.1.held in
      let rows = s.rows in
      subst (Has (map path_of fn)) (sym k.1.path) (has_mapped path_of fn (folder_of fn k.0) (has_at fn k.0 no_folder (omega (arith, i, rows)))))) in
      let e = length_mapped path_of fn in omega (arith, l, e)

  pub new_units : length fn < 4294967296 → (units : Units) × AreUnits new.module fn s.slots units.packages
  new_units few = (record { packages = made.units; ordered = ∣ in_order all_units made ∣₁; few = (let l = few_units in omega (arith, l, few)) }, are_units)
