-- The folders of a new module with a client are read one after another until all are.
use Rattle.std.proofs.Common.{◌≡◌, ◌⊎◌, ◌<◌, ◌≤◌, ℕ, zero, suc, true, false, Some, None, List, [], ◌∷◌, length, set, refl, sym, ap, ◌∙◌, inl, inr, arith}
use Rattle.go_base.specs.Lists.{Has}
use Rattle.go_client_walks.proofs.ReachedFolders.{fresh_other, was_fresh}
use Rattle.go_client_walks.proofs.WalkedFiles.{walked_rows}
use Rattle.go_client_walks.specs.ClientWalks.{AllAreRead, IsNextFolder, IsWanted, Walked, next, start}
use Rattle.go_existence.proofs.DoubleNegation.{less_or}
use Rattle.go_existence.proofs.FiniteSets.{without}
use Rattle.go_model.specs.declared.files.platform.Platform.{Platform}
use Rattle.go_model.specs.declared.files.tree.Tree.{Tree}
use Rattle.go_model.specs.declared.files.tree.TreeFile.{TreeFile}
use Rattle.go_reading.specs.FolderReadings.{IsReading}
use Rattle.go_reading.specs.TreeFolders.{ReadsFolder}
use Rattle.go_typings.proofs.Cells.{either}
use Rattle.go_unit_outcomes.proofs.FolderReads.{number_in, numbers}
use Rattle.go_units.specs.Reached.{ComesFirst, FilesAsk, IsFresh, ReadFolders, is_std}
use Rattle.go_units.specs.declared.folder.Folder.{Folder}
use Rattle.go_units.specs.declared.package_uses.PackageFile.{PackageFile}
use Rattle.go_units.specs.declared.reader.Reading.{Reading}
use Rattle.api_preservation.proofs.Decisions.{Decided, fresh_or, least_or, wanted_or}
use Rattle.api_preservation.proofs.ReachedFolders.{all_known, known_read, wanted_known}
use Rattle.api_preservation.proofs.Runs.{Run}

-- ---- no folder is read yet

empty : List Folder → ReadFolders
empty [] = []
empty (f ∷ fs) = None ∷ empty fs

empty_rows : (fs : List Folder) → length (empty fs) ≡ length fs
unfolding empty
empty_rows [] = refl
empty_rows (f ∷ fs) = ap suc (empty_rows fs)

empty_fresh : (fs : List Folder) (n : ℕ) → IsFresh (empty fs) n
unfolding empty
empty_fresh [] zero = refl
empty_fresh [] (suc n) = refl
empty_fresh (f ∷ fs) zero = refl
empty_fresh (f ∷ fs) (suc n) = empty_fresh fs n

module _ (p : Platform) (barred : List (List ℕ)) (std_tree : Tree) (one : (files : List TreeFile) (a b : Reading) → IsReading p files a → IsReading p files b → a ≡ b)
    (old new : Tree) (fo fn : List Folder) (o : Run p barred old std_tree fo) (a : Run p barred new std_tree fn)
    (client : List PackageFile) (client_asked : (m : ℕ) → FilesAsk old.module fo false client m → IsFresh o.slots m → ⊥) (old_barred : Has barred old.module) where
  abbrev gives : ℕ → Reading → Type 0
  gives = ReadsFolder p barred new std_tree fn

  -- ---- the next folder

  module _ (slots : ReadFolders) where
    record IsLeft (n : ℕ) : Type 0 where
      wanted : IsWanted client new.module fn slots n
      fresh : IsFresh slots n

    left_or : (n : ℕ) → Decided (IsLeft n)
    left_or n = elim (wanted_or new.module fn client slots n) [
      | inr never ↦ inr (λ k. never k.wanted)
      | inl wanted ↦ elim (fresh_or slots n) [ inl fresh ↦ inl (record { wanted = wanted; fresh = fresh }) | inr never ↦ inr (λ k. never k.fresh) ]
    ]

    abbrev IsOwn : ℕ → Type 0
    IsOwn n = IsLeft n × (is_std fn n ≡ false)

    own_or : (n : ℕ) → Decided (IsOwn n)
    own_or n = elim (left_or n) [
      | inr never ↦ inr (λ k. never k.0)
      | inl left ↦ elim (either (is_std fn n)) [ inl std ↦ inr (λ k. (let e : true ≡ false = sym std ∙ k.1 in cc)) | inr own ↦ inl (left, own) ]
    ]

    own_first : (n m : ℕ) → is_std fn n ≡ false → (m < n → is_std fn m ≡ false → ⊥) → ComesFirst new.module fn n m
    own_first n m own least = elim (either (is_std fn m)) [
      | inl std ↦ inl (own, std)
      | inr e ↦ inr (own ∙ sym e, elim (less_or m n) [ inl l ↦ absurd (least l e) | inr l ↦ l ])
    ]

    std_first : (n m : ℕ) → is_std fn n ≡ true → (is_std fn m ≡ false → ⊥) → (m < n → ⊥) → ComesFirst new.module fn n m
    std_first n m std never least = elim (either (is_std fn m)) [
      | inl e ↦ inr (std ∙ sym e, elim (less_or m n) [ inl l ↦ absurd (least l) | inr l ↦ l ])
      | inr e ↦ absurd (never e)
    ]

    next_folder : ((n : ℕ) × IsNextFolder client new.module fn slots n) ⊎ ((n : ℕ) → IsWanted client new.module fn slots n → IsFresh slots n → ⊥)
    next_folder = elim (least_or IsOwn own_or (length fn)) [
      | inl k ↦ inl (
        k.0,
        record {
          wanted = k.1.0.wanted;
          fresh = k.1.0.fresh;
          first = λ m w f. own_first k.0 m k.1.1 (λ less e. k.2 m less (record { wanted = w; fresh = f }, e));
        },
      )
      | inr never ↦ elim (least_or IsLeft left_or (length fn)) [
        | inl k ↦ inl (
          k.0,
          record {
            wanted = k.1.wanted;
            fresh = k.1.fresh;
            first = λ m w f.
                std_first k.0 m (elim (either (is_std fn k.0)) [ inl e ↦ e | inr e ↦ absurd (never k.0 k.1.wanted.within (k.1, e)) ])
                (λ e. never m w.within (record { wanted = w; fresh = f }, e)) (λ less. k.2 m less (record { wanted = w; fresh = f }));
          },
        )
        | inr none ↦ inr (λ n w f. none n w.within (record { wanted = w; fresh = f }))
      ]
    ]

  -- ---- all folders

  abbrev Ends : Type 0
  Ends = (slots : ReadFolders) × AllAreRead client new.module fn gives slots

  abbrev Covers : ReadFolders → List ℕ → Type 0
  Covers slots left = (n : ℕ) → n < length fn → IsFresh slots n → Has left n

  covers_next : (slots : ReadFolders) (left rest : List ℕ) (k : ℕ) (files : List PackageFile) → k < length slots → Covers slots left → ((n : ℕ) → Has left n → (k ≡ n) ⊎ Has rest n) → Covers (set slots k (Some files)) rest
  covers_next slots left rest k files within covers parted n h fresh = elim (parted n (covers n h (was_fresh slots k files within n fresh))) [
    | inl e ↦ absurd (fresh_other slots k files within n fresh (sym e))
    | inr l ↦ l
  ]

  turn : (slots : ReadFolders) (left : List ℕ) → Walked client new.module fn gives slots → Covers slots left
      → ((more : ReadFolders) (rest : List ℕ) → length left ≡ suc (length rest) → Walked client new.module fn gives more → Covers more rest → Ends) → Ends
  turn slots left walked covers go = elim (next_folder slots) [
    | inr none ↦ (slots, record { walked = walked; all = none })
    | inl k ↦
        let r = known_read p barred std_tree one old new fo fn o a k.0
        (wanted_known p barred std_tree one old new fo fn o a client client_asked old_barred slots walked (λ n files e. all_known p barred std_tree one old new fo fn o a client client_asked old_barred walked n files e) k.0 k.1.wanted) in
        let within : k.0 < length slots = (let rows = walked_rows client new.module fn gives walked in let w = k.1.wanted.within in omega (arith, rows, w)) in
        let rest = without left k.0 (covers k.0 k.1.wanted.within k.1.fresh) in
        go (set slots k.0 (Some r.0)) rest.0 rest.1 (next walked k.1 r.1.1 r.1.2) (covers_next slots left rest.0 k.0 r.0 within covers rest.2)
  ]

  read_from : (fuel : ℕ) (slots : ReadFolders) (left : List ℕ) → length left ≤ fuel → Walked client new.module fn gives slots → Covers slots left → Ends
  read_from zero slots left few walked covers = turn slots left walked covers (λ more rest e w c. absurd (omega (arith, few, e)))
  read_from (suc fuel) slots left few walked covers = turn slots left walked covers (λ more rest e w c. read_from fuel more rest (omega (arith, few, e)) w c)

  pub walk_found : (slots : ReadFolders) × AllAreRead client new.module fn gives slots
  walk_found = read_from (length (numbers (length fn))) (empty fn) (numbers (length fn)) (omega arith) (start (empty_rows fn) (empty_fresh fn)) (λ n h f. number_in (length fn) n h)
