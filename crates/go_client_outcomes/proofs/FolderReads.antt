-- The folders of a module with a client are read one after another, until all are or one is refused.
use Rattle.std.proofs.Common.{◌≡◌, ◌⊎◌, ℕ, zero, suc, ◌<◌, ◌≤◌, Bool, true, false, List, [], ◌∷◌, length, set, Some, None, refl, sym, ap, ◌∙◌, inl, inr, arith}
use Rattle.go_base.specs.Lists.{Has}
use Rattle.go_existence.specs.Existence.{NotNone}
use Rattle.go_existence.proofs.DoubleNegation.{decided, less_or, so, sure, bind}
use Rattle.go_existence.proofs.FiniteSets.{without}
use Rattle.go_existence.proofs.LeastNumbers.{least}
use Rattle.go_imports.specs.PackageFiles.{AreOfOnePackage}
use Rattle.go_imports.specs.declared.package_files.SourceFile.{SourceFile}
use Rattle.go_unit_outcomes.proofs.FolderReads.{number_in, numbers}
use Rattle.go_unit_outcomes.proofs.PackageUses.{free_or_internal, package_files}
use Rattle.go_client_walks.proofs.ReachedFolders.{fresh_other, was_fresh}
use Rattle.go_client_walks.proofs.WalkedFiles.{walked_rows}
use Rattle.go_client_walks.specs.ClientWalks.{AllAreRead, IsFirstRefusal, IsNextFolder, IsWanted, Walked, next, start}
use Rattle.go_units.specs.Folders.{folder_of}
use Rattle.go_units.specs.Reached.{AreAccepted, ComesFirst, IsFresh, IsRefusedFor, ReadFolders, is_std}
use Rattle.go_units.specs.declared.folder.Folder.{Folder}
use Rattle.go_units.specs.declared.package_uses.PackageFile.{PackageFile}
use Rattle.go_units.specs.declared.reader.Reading.{Reading}
use Rattle.go_units.specs.declared.reader.Reading.TheVariants as reading
use Rattle.go_units.specs.declared.unit_error.UnitError.{UnitError}
use Rattle.go_units.specs.declared.unit_error.UnitError.TheVariants as error

bool_or : (b : Bool) → (b ≡ true) ⊎ (b ≡ false)
bool_or true = inl refl
bool_or false = inr refl

-- ---- no folder is read yet

empty : List Folder → ReadFolders
empty [] = []
empty (f ∷ fs) = None ∷ empty fs

empty_rows : (fs : List Folder) → length (empty fs) ≡ length fs
unfolding empty
empty_rows [] = refl
empty_rows (f ∷ fs) = ap suc (empty_rows fs)

empty_fresh : (fs : List Folder) (n : ℕ) → IsFresh (empty fs) n
unfolding empty
empty_fresh [] zero = refl
empty_fresh [] (suc n) = refl
empty_fresh (f ∷ fs) zero = refl
empty_fresh (f ∷ fs) (suc n) = empty_fresh fs n

module _ (client : List PackageFile) (module_path : List ℕ) (folders : List Folder) (gives : ℕ → Reading → Type 0) (reads : (n : ℕ) → n < length folders → NotNone ((r : Reading) × gives n r)) where
  -- ---- the next folder

  module _ (slots : ReadFolders) where
    record IsLeft (n : ℕ) : Type 0 where
      wanted : IsWanted client module_path folders slots n
      fresh : IsFresh slots n

    abbrev IsOwn : ℕ → Type 0
    IsOwn n = IsLeft n × (is_std folders n ≡ false)

    own_first : (n m : ℕ) → is_std folders n ≡ false → (m < n → is_std folders m ≡ false → ⊥) → ComesFirst module_path folders n m
    own_first n m own least = elim (bool_or (is_std folders m)) [
      | inl std ↦ inl (own, std)
      | inr e ↦ inr (own ∙ sym e, elim (less_or m n) [ inl l ↦ absurd (least l e) | inr l ↦ l ])
    ]

    std_first : (n m : ℕ) → is_std folders n ≡ true → (is_std folders m ≡ false → ⊥) → (m < n → ⊥) → ComesFirst module_path folders n m
    std_first n m std never least = elim (bool_or (is_std folders m)) [
      | inl e ↦ inr (std ∙ sym e, elim (less_or m n) [ inl l ↦ absurd (least l) | inr l ↦ l ])
      | inr e ↦ absurd (never e)
    ]

    next_folder : (n : ℕ) → IsLeft n → NotNone ((k : ℕ) × IsNextFolder client module_path folders slots k)
    next_folder n left = bind (decided ((k : ℕ) × IsOwn k)) (λ d. elim d [
      | inl own ↦ so (least IsOwn own.0 own.1) (λ k. (
        k.0,
        record {
          wanted = k.1.0.0.wanted;
          fresh = k.1.0.0.fresh;
          first = λ m w f. own_first k.0 m k.1.0.1 (λ less e. k.1.1 m less (record { wanted = w; fresh = f }, e));
        },
      ))
      | inr never ↦ so (least IsLeft n left) (λ k. (
        k.0,
        record {
          wanted = k.1.0.wanted;
          fresh = k.1.0.fresh;
          first = λ m w f.
              std_first k.0 m (elim (bool_or (is_std folders k.0)) [ inl e ↦ e | inr e ↦ absurd (never (k.0, (k.1.0, e))) ])
              (λ e. never (m, (record { wanted = w; fresh = f }, e))) (λ less. k.1.1 m less (record { wanted = w; fresh = f }));
        },
      ))
    ])

  -- ---- what becomes of a folder

  abbrev Refused : ℕ → Type 0
  Refused n = (e : UnitError) × (e ≡ error.NoMemory → ⊥) × IsRefusedFor module_path folders gives n e

  abbrev Accepted : ℕ → Type 0
  Accepted n = (sources : List SourceFile) × (files : List PackageFile) × gives n (reading.Files sources) × AreAccepted module_path folders n sources files

  of_reading : (n : ℕ) (r : Reading) → gives n r → NotNone (Accepted n ⊎ Refused n)
  of_reading n (reading.Refused at fault) g =
      sure (inr (error.File (record { path = (folder_of folders n).path; file = at }) fault, (λ e. cc), (refl, g)))
  of_reading n (reading.Files sources) g = bind (decided (AreOfOnePackage sources)) (λ d. elim d [
    | inr mixed ↦ sure (inr (error.MixedNames (folder_of folders n).path, (λ e. cc), (sources, g, (refl, mixed))))
    | inl one ↦ bind (package_files module_path folders (is_std folders n) sources) (λ files.
        so (free_or_internal (folder_of folders n).path (is_std folders n) files.0) (λ k. elim k [
          | inl free ↦ inl (sources, files.0, g, record { one = one; given = files.1; free = free })
          | inr i ↦ inr (error.InternalUse (record { path = (folder_of folders n).path; file = i.0 }) i.1, (λ e. cc), (sources, g, (refl, one, files.0, files.1, i.2)))
        ]))
  ])

  -- ---- all folders

  abbrev Ends : Type 0
  Ends = ((slots : ReadFolders) × AllAreRead client module_path folders gives slots) ⊎ ((e : UnitError) × (e ≡ error.NoMemory → ⊥) × IsFirstRefusal client module_path folders gives e)

  abbrev Covers : ReadFolders → List ℕ → Type 0
  Covers slots left = (n : ℕ) → n < length folders → IsFresh slots n → Has left n

  covers_next : (slots : ReadFolders) (left rest : List ℕ) (k : ℕ) (files : List PackageFile) → k < length slots → Covers slots left → ((n : ℕ) → Has left n → (k ≡ n) ⊎ Has rest n) → Covers (set slots k (Some files)) rest
  covers_next slots left rest k files within covers parted n h fresh = elim (parted n (covers n h (was_fresh slots k files within n fresh))) [
    | inl e ↦ absurd (fresh_other slots k files within n fresh (sym e))
    | inr l ↦ l
  ]

  turn : (slots : ReadFolders) (left : List ℕ) → Walked client module_path folders gives slots → Covers slots left
      → ((more : ReadFolders) (rest : List ℕ) → length left ≡ suc (length rest) → Walked client module_path folders gives more → Covers more rest → NotNone Ends) → NotNone Ends
  turn slots left walked covers go = bind (decided ((n : ℕ) × IsLeft slots n)) (λ d. elim d [
    | inr never ↦ sure (inl (slots, record { walked = walked; all = λ n w f. never (n, record { wanted = w; fresh = f }) }))
    | inl n ↦ bind (next_folder slots n.0 n.1) (λ k. bind (reads k.0 k.1.wanted.within) (λ r. bind (of_reading k.0 r.0 r.1) (λ o. elim o [
      | inr refused ↦ sure (inr (refused.0, refused.1, (slots, walked, k.0, k.1, refused.2)))
      | inl a ↦ (
          let within : k.0 < length slots = (let rows = walked_rows client module_path folders gives walked in let w = k.1.wanted.within in omega (arith, rows, w)) in
          let rest = without left k.0 (covers k.0 k.1.wanted.within k.1.fresh) in
          go (set slots k.0 (Some a.1)) rest.0 rest.1 (next walked k.1 a.2 a.3) (covers_next slots left rest.0 k.0 a.1 within covers rest.2)
          )
    ])))
  ])

  read_from : (fuel : ℕ) (slots : ReadFolders) (left : List ℕ) → length left ≤ fuel → Walked client module_path folders gives slots → Covers slots left → NotNone Ends
  read_from zero slots left few walked covers = turn slots left walked covers (λ more rest e w c. absurd (omega (arith, few, e)))
  read_from (suc fuel) slots left few walked covers = turn slots left walked covers (λ more rest e w c. read_from fuel more rest (omega (arith, few, e)) w c)

  pub folders_end : NotNone (((slots : ReadFolders) × AllAreRead client module_path folders gives slots) ⊎ ((e : UnitError) × (e ≡ error.NoMemory → ⊥) × IsFirstRefusal client module_path folders gives e))
  folders_end = read_from (length (numbers (length folders))) (empty folders) (numbers (length folders)) (omega arith) (start (empty_rows folders) (empty_fresh folders)) (λ n h f. number_in (length folders) n h)
