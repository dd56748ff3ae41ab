-- What a new module reads with a client is read by it alone, or by the old one with the client.
use Rattle.std.proofs.Common.{◌≡◌, ◌⊎◌, ℕ, Bool, true, false, Some, List, sym, ◌∙◌, subst, inl, inr}
use Rattle.go_base.specs.Lists.{Has}
use Rattle.go_client_walks.proofs.ReachedFolders.{filled_other}
use Rattle.go_client_walks.proofs.WalkedFiles.{walked_read}
use Rattle.go_client_walks.specs.ClientWalks.{IsAskedWith, IsWanted, Walked, next, start}
use Rattle.go_imports.proofs.Members.{has_at, same_or}
use Rattle.go_imports.specs.ImportPaths.{IsUnder}
use Rattle.go_model.specs.declared.files.platform.Platform.{Platform}
use Rattle.go_model.specs.declared.files.tree.Tree.{Tree}
use Rattle.go_model.specs.declared.files.tree.TreeFile.{TreeFile}
use Rattle.go_reading.proofs.OneFolderList.{std_side}
use Rattle.go_reading.specs.FolderReadings.{IsReading}
use Rattle.go_reading.specs.TreeFolders.{ReadsFolder}
use Rattle.go_std_worlds.proofs.SameFolders.{folder_there}
use Rattle.go_typings.proofs.Cells.{none_some}
use Rattle.go_units.specs.Folders.{AsksFor, IsSought, NamesFolder, folder_of, no_folder}
use Rattle.go_units.specs.Reached.{FilesAsk, IsFresh, ReadFolders, is_std, slot}
use Rattle.go_units.specs.declared.folder.Folder.{Folder}
use Rattle.go_units.specs.declared.package_uses.PackageFile.{PackageFile}
use Rattle.go_units.specs.declared.reader.Reading.{Reading}
use Rattle.api_preservation.proofs.Runs.{IsRead, Run, filled, read_once}
use Rattle.api_preservation.proofs.SameStd.{asks_there, path_same, permits, side_same, std_once}
use Rattle.api_preservation.proofs.StdThere.{read_there}

-- a package of the module seeks in the standard library what isn't under the module's path
pub sought_in_std : (module_path path : List ℕ) (s : Bool) → s ≡ true → (IsUnder path module_path → ⊥) → IsSought module_path false path s
sought_in_std module_path path true e h = h
sought_in_std module_path path false e h = absurd (let g : false ≡ true = e in cc)

module _ (p : Platform) (barred : List (List ℕ)) (std_tree : Tree) (one : (files : List TreeFile) (a b : Reading) → IsReading p files a → IsReading p files b → a ≡ b)
    (old new : Tree) (fo fn : List Folder) (o : Run p barred old std_tree fo) (a : Run p barred new std_tree fn) where
  -- a folder that the new module reads alone
  abbrev pub ByModule : ℕ → Type 0
  ByModule n = (files : List PackageFile) × (slot a.slots n ≡ Some files)

  -- one of the standard library that the old module reads with the client
  pub record ByClient (n : ℕ) : Type 0 where
    pub std : is_std fn n ≡ true
    pub number : ℕ
    pub same : folder_of fn n ≡ folder_of fo number
    pub files : List PackageFile
    pub held : slot o.slots number ≡ Some files

  abbrev pub Known : ℕ → Type 0
  Known n = ByModule n ⊎ ByClient n

  pub std_old : (n : ℕ) (k : ByClient n) → is_std fo k.number ≡ true
  std_old n k = sym (side_same (folder_of fn n) (folder_of fo k.number) k.same) ∙ k.std

  pub known_read : (n : ℕ) → Known n → (files : List PackageFile) × IsRead p barred new std_tree fn n files
  known_read n (inl k) = (k.0, a.read n k.0 k.1)
  known_read n (inr k) = (k.files, read_there p barred std_tree old new fo fn o.are a.are k.number n k.files k.same (std_old n k) (o.read k.number k.files k.held))

  -- what is read of it is what the old module reads
  pub client_files : (n : ℕ) (k : ByClient n) (files : List PackageFile) → IsRead p barred new std_tree fn n files → k.files ≡ files
  client_files n k files r = std_once p barred std_tree one old new fo fn o.are a.are k.number n k.files files k.same (std_old n k) (o.read k.number k.files k.held) r

  asked_known : (m n : ℕ) (files : List PackageFile) → Known m → IsRead p barred new std_tree fn m files → FilesAsk new.module fn (is_std fn m) files n → Known n
  asked_known m n files (inl k) r asks =
      let same : files ≡ k.0 = read_once p barred new std_tree fn one a.are m files k.0 r (a.read m k.0 k.1) in
      inl (filled a.slots n (a.asked n (m, k.0, k.1, subst (λ (fs : List PackageFile). FilesAsk new.module fn (is_std fn m) fs n) same asks)))
  asked_known m n files (inr k) r asks =
      let same : k.files ≡ files = client_files m k files r in
      let f = asks.0 in
      let u = asks.2.0 in
      let here : AsksFor new.module fn true u.path n = subst (λ (s : Bool). AsksFor new.module fn s u.path n) k.std asks.2.2 in
      let q = asks_there p barred std_tree one new old fn fo a.are o.are u.path n here in
      let there : AsksFor old.module fo (is_std fo k.number) u.path q.0 = subst (λ (s : Bool). AsksFor old.module fo s u.path q.0) (sym (std_old m k)) q.2 in
      let g = filled o.slots q.0 (o.asked q.0 (k.number, k.files, k.held, (f, subst (λ (fs : List PackageFile). Has fs f) (sym same) asks.1, (u, asks.2.1, there)))) in
      inr (record { std = here.side; number = q.0; same = sym q.1; files = g.0; held = g.1 })

  module _ (client : List PackageFile) (client_asked : (m : ℕ) → FilesAsk old.module fo false client m → IsFresh o.slots m → ⊥) (old_barred : Has barred old.module) where
    -- for what a client asks beside the new module it asks beside the old one
    client_known : (n : ℕ) → FilesAsk new.module fn false client n → Known n
    client_known n asks =
        let u = asks.2.0 in
        let k = asks.2.2 in
        let q = folder_there p barred std_tree new old fn fo a.are o.are n k.names.within k.side in
        let j = q.number in
        let std : is_std fo j ≡ true = side_same (folder_of fo j) (folder_of fn n) q.same ∙ k.side in
        let path : (folder_of fo j).path ≡ u.path = path_same (folder_of fo j) (folder_of fn n) q.same ∙ k.names.same in
        let apart = std_side p barred old std_tree old_barred (folder_of fo j) (o.are.sound (folder_of fo j) (has_at fo j no_folder q.within)) std in
        let names : NamesFolder old.module fo false u.path j = record {
          within = q.within;
          same = path;
          sought = sought_in_std old.module u.path (is_std fo j) std (λ under. apart (subst (λ (w : List ℕ). IsUnder w old.module) (sym path) under));
        } in
        let there : AsksFor old.module fo false u.path j = record { names = names; side = std; permitted = permits (folder_of fo j) (folder_of fn n) q.same k.permitted } in
        let g = filled o.slots j (client_asked j (asks.0, asks.1, (u, asks.2.1, there))) in
        inr (record { std = k.side; number = j; same = sym q.same; files = g.0; held = g.1 })

    abbrev gives : ℕ → Reading → Type 0
    gives = ReadsFolder p barred new std_tree fn

    abbrev AllKnown : ReadFolders → Type 0
    AllKnown slots = (n : ℕ) (files : List PackageFile) → slot slots n ≡ Some files → Known n

    pub wanted_known : (slots : ReadFolders) → Walked client new.module fn gives slots → AllKnown slots → (n : ℕ) → IsWanted client new.module fn slots n → Known n
    wanted_known slots w all n k = by k.why
      where
        by : (is_std fn n ≡ false) ⊎ IsAskedWith client new.module fn slots n → Known n
        by (inl own) = inl (filled a.slots n (a.own n k.within own))
        by (inr (inl asked)) = asked_known asked.0 n asked.1 (all asked.0 asked.1 asked.2) (walked_read client new.module fn gives w asked.0 asked.1 asked.2) asked.3
        by (inr (inr asks)) = client_known n asks

    -- all that is read is known
    pub all_known : {slots : ReadFolders} → Walked client new.module fn gives slots → AllKnown slots
    all_known (start {slots = slots} rows fresh) n files e = none_some (slot slots n) files (fresh n) e
    all_known (next {slots = slots} {n = m} {files = fs} w is g s) n files e = elim (same_or n m) [
      | inl same ↦ subst Known (sym same) (wanted_known slots w (all_known w) m is.wanted)
      | inr other ↦ all_known w n files (sym (filled_other slots m fs n other) ∙ e)
    ]
