-- Where the new module is compatible with the old one, a client of the profile that is typed against the old tree is typed against the new one.
use Rattle.std.proofs.Common.{◌≡◌, ◌⊎◌, ◌<◌, ℕ, Bool, true, false, Option, Some, None, List, length, Ok, sym, ap, ◌∙◌, subst, inl, inr}
use Rattle.go_base.specs.Lists.{Has}
use Rattle.go_client_unit_laws.specs.go_client_files.ClientFiles.{ReadsClient}
use Rattle.go_client_unit_laws.specs.go_client_files.declared.uses.ClientFiles.{ClientFiles}
use Rattle.go_client_typings.specs.Clients.{Blocks, IsTypedClient}
use Rattle.go_client_unit_laws.specs.go_client_units.ClientUnits.{AreClientUnits, AreUnitsWith, IsClientOf}
use Rattle.go_client_unit_laws.specs.go_client_units.declared.units.ClientUnit.{ClientUnit}
use Rattle.go_client_unit_laws.specs.go_client_units.declared.units.ClientUnits.{ClientUnits}
use Rattle.go_client_walks.specs.ClientWalks as client_walks
use Rattle.go_clients.specs.ProfileClients.{IsInProfile, IsProfileTyped}
use Rattle.go_exposed.specs.OfferedWorlds.{IsWorldOf}
use Rattle.go_imports.proofs.Members.{has_at}
use Rattle.go_imports.specs.Gives.{Gives}
use Rattle.go_imports.specs.ImportPaths.{IsUnder}
use Rattle.go_imports.specs.declared.used_imports.NamedImport.{NamedImport}
use Rattle.go_model.specs.declared.files.platform.Platform.{Platform}
use Rattle.go_model.specs.declared.files.tree.Tree.{Tree}
use Rattle.go_model.specs.declared.files.tree.TreeFile.{TreeFile}
use Rattle.go_model.specs.declared.types.package.Package.{Package}
use Rattle.go_model.specs.types.Terms.{client_path}
use Rattle.go_model.specs.worlds.Worlds.{Packages}
use Rattle.go_reading.proofs.ListFacts.{has_mapped}
use Rattle.go_reading.proofs.OneFolderList.{one_folder_list, own_side}
use Rattle.go_reading.specs.FolderReadings.{IsReading}
use Rattle.go_reading.specs.TreeFolders.{ReadsFolder}
use Rattle.go_reading.specs.TreeUnits.{AreUnitsOfTrees}
use Rattle.go_sources.specs.UnitSources.{source_of}
use Rattle.go_std_worlds.specs.StdSources.{HavePaths}
use Rattle.go_std_worlds.specs.TwoModules.{sources_of}
use Rattle.go_type_images.specs.declared.pair.TypePair.{TypePair}
use Rattle.go_typings.proofs.Cells.{either}
use Rattle.go_typings.specs.Sources.{Import, PackageSource}
use Rattle.go_units.proofs.Giving.{given_by}
use Rattle.go_units.specs.Folders.{folder_of, no_folder}
use Rattle.go_units.specs.PackageUses.{AreFree}
use Rattle.go_units.specs.Reached.{ReadFolders, is_std, slot}
use Rattle.go_units.specs.UnitsOfModules.{Answers, AreUnits, GivesUnitFile, GivesUse, HoldsPackage, packages_in}
use Rattle.go_units.specs.declared.folder.Folder.{Folder}
use Rattle.go_units.specs.declared.package_uses.PackageFile.{PackageFile}
use Rattle.go_units.specs.declared.reader.Reading.{Reading}
use Rattle.go_units.specs.declared.unit.UnitFile.{UnitFile}
use Rattle.go_units.specs.declared.unit_list.Units.{Units}
use Rattle.api_correspond.specs.OwnedPairs.{HoldsOwned}
use Rattle.api_correspond.specs.Publics.{IsPublic, of_std, package_at}
use Rattle.api_correspond.specs.Rules.{Compatible}
use Rattle.api_kept_clients.specs.ServedClients.{ImportsShown, for_client}
use Rattle.api_kept_clients.specs.ServedUnits.{HaveOtherPaths, ServesUnits, ShareStdUnits}
use Rattle.api_preservation.proofs.ClientImports.{IsSeen, Lands, elements_of, lands, shown}
use Rattle.api_preservation.proofs.ClientLists.{NamedThere, all_found, list_there}
use Rattle.api_preservation.proofs.FewFolders.{few_folders}
use Rattle.api_preservation.proofs.FolderNames.{TellOutlines}
use Rattle.api_preservation.proofs.FoundAlike.{files_as}
use Rattle.api_preservation.proofs.FoundThere.{client_alike, landed}
use Rattle.api_preservation.proofs.FoundWalks.{walk_found}
use Rattle.api_preservation.proofs.NewUnits.{new_units}
use Rattle.api_preservation.proofs.NewWorlds.{new_world}
use Rattle.api_preservation.proofs.PublicPackages.{package_side, package_there}
use Rattle.api_preservation.proofs.PublicPaths.{used_public}
use Rattle.api_preservation.proofs.ReachedFolders.{Known, all_known}
use Rattle.api_preservation.proofs.Runs.{Run, client_asked, run_alone, run_with}
use Rattle.api_preservation.proofs.SameStd.{share_units}
use Rattle.api_preservation.proofs.SameTree.{all_too, each_among}
use Rattle.api_preservation.proofs.UnitRuns.{UnitRun, apart, import_from, other_paths}
use Rattle.api_preservation.specs.JudgedTrees.{AreJudged}

-- a client is kept over the worlds of lists of packages
abbrev pub KeepsOverUnits : Type 0
KeepsOverUnits = (bits : ℕ) (us vs bs xs : List PackageSource) (old new before after : Packages) (pairs : List TypePair) (u : PackageSource) (blocks : Blocks) → ServesUnits bits us bs old before → ServesUnits bits vs xs new after
    → ShareStdUnits us vs → ShareStdUnits bs xs → HoldsOwned old new pairs → Compatible old new → u.path ≡ client_path → ImportsShown old before after u
    → IsTypedClient (for_client bits before) u blocks → IsTypedClient (for_client bits after) u blocks

some_paths : (us : Units) → HaveOtherPaths (sources_of us) → HavePaths (sources_of us)
some_paths us h u i = (h u i).0

-- where the package at a path is one of the standard library, that at the same path is
std_by : (w : Packages) (path other : List ℕ) (k : Package) (flag : Bool) → path ≡ other → package_at w path ≡ Some k → k.from_std ≡ flag → flag ≡ true → of_std (package_at w other) ≡ true
std_by w path other k flag at e side std = ap (λ (x : List ℕ). of_std (package_at w x)) (sym at) ∙ ap of_std e ∙ side ∙ std

module _ (p : Platform) (bits : ℕ) (barred : List (List ℕ)) (one : (files : List TreeFile) (a b : Reading) → IsReading p files a → IsReading p files b → a ≡ b) (outlines : TellOutlines p) (keeps : KeepsOverUnits) (old_tree new_tree std_tree client : Tree) (trees : AreJudged barred old_tree new_tree std_tree)
    (uo un : Units) (ao : AreUnitsOfTrees p barred old_tree std_tree (Ok uo)) (an : AreUnitsOfTrees p barred new_tree std_tree (Ok un)) (wo wn : Packages) (ko : IsWorldOf bits (sources_of uo) wo) (kn : IsWorldOf bits (sources_of un) wn)
    (pairs : List TypePair) (holds : HoldsOwned wo wn pairs) (compatible : Compatible wo wn) (c : IsProfileTyped p bits barred old_tree std_tree client) where
  -- ---- what is read

  abbrev fo : List Folder
  fo = c.are.0

  abbrev fn : List Folder
  fn = an.0

  abbrev list : ClientFiles
  list = c.are.2.0

  abbrev gives : ℕ → Reading → Type 0
  gives = ReadsFolder p barred new_tree std_tree fn

  abbrev told : AreUnitsWith old_tree.module fo (ReadsFolder p barred old_tree std_tree fo) list c.units
  told = c.are.2.2

  alone : Answers old_tree.module fo (ReadsFolder p barred old_tree std_tree fo) (Ok uo)
  alone = subst (λ (fs : List Folder). Answers old_tree.module fs (ReadsFolder p barred old_tree std_tree fs) (Ok uo)) (one_folder_list p barred old_tree std_tree ao.0 fo ao.1 c.are.1) ao.2

  abbrev oa : UnitRun p barred old_tree std_tree fo
  oa = record { run = run_alone p barred old_tree std_tree fo c.are.1 alone.0 alone.1; units = uo; all = alone.2 }

  abbrev oc : UnitRun p barred old_tree std_tree fo
  oc = record { run = run_with p barred old_tree std_tree fo list.files c.are.1 told.slots told.read; units = c.units.packages; all = told.packages }

  abbrev na : UnitRun p barred new_tree std_tree fn
  na = record { run = run_alone p barred new_tree std_tree fn an.1 an.2.0 an.2.1; units = un; all = an.2.2 }

  oa_paths : HaveOtherPaths (sources_of uo)
  oa_paths = other_paths p barred old_tree std_tree fo oa trees.old_tree trees.std trees.old_named

  oc_paths : HaveOtherPaths (sources_of c.units.packages)
  oc_paths = other_paths p barred old_tree std_tree fo oc trees.old_tree trees.std trees.old_named

  na_paths : HaveOtherPaths (sources_of un)
  na_paths = other_paths p barred new_tree std_tree fn na trees.new_tree trees.std trees.new_named

  -- ---- the files of the client

  free : AreFree client_path false list.files
  free = c.are.2.1.3

  abbrev Seen : List ℕ → ℕ → Type 0
  Seen path m = IsSeen p bits barred std_tree one old_tree new_tree fo fn oa oc na path m

  abbrev Landing : List ℕ → ℕ → Type 0
  Landing path m = Lands p bits barred std_tree one old_tree new_tree fo fn oa oc na path m

  found : (f : PackageFile) (u : NamedImport) → Has list.files f → Has f.uses u → (m : ℕ) × Seen u.path m
  found f u h i = all_found c.world bits old_tree.module fo (packages_in told.slots) list.files told.files told.given list.blocks c.units.client told.client c.typed f u h i

  land : (f : PackageFile) (u : NamedImport) → Has list.files f → Has f.uses u → (m : ℕ) → Seen u.path m → Landing u.path m
  land f u h i m k = lands p bits barred std_tree one old_tree new_tree fo fn oa oc na trees.new_barred outlines (some_paths uo oa_paths) (some_paths un na_paths) wo wn ko kn compatible trees.old_tree trees.std trees.old_named list.files free f u h i m k

  named : (f : PackageFile) (u : NamedImport) → Has list.files f → Has f.uses u → NamedThere old_tree.module new_tree.module fo fn c.are.1.ordered u.path
  named f u h i =
      let k = found f u h i in
      let l = land f u h i k.0 k.1 in
      record { here = k.0; names = k.1.names; there = l.number; names_too = l.names; same = l.same_name }

  list_read : ReadsClient new_tree.module fn p client (Ok list)
  list_read =
      let r = c.are.2.1 in
      (r.0, record { given = r.1.given; one = r.1.one }, list_there old_tree.module new_tree.module fo fn c.are.1.ordered r.0 list named r.2, r.3)

  -- ---- the new module with the client

  module _ (slots : ReadFolders) (all : client_walks.AllAreRead list.files new_tree.module fn gives slots) where
    abbrev s : Run p barred new_tree std_tree fn
    s = run_with p barred new_tree std_tree fn list.files an.1 slots all

    known : (n : ℕ) (files : List PackageFile) → slot slots n ≡ Some files → Known p barred std_tree one old_tree new_tree fo fn oc.run na.run n
    known n files e = all_known p barred std_tree one old_tree new_tree fo fn oc.run na.run list.files (client_asked p barred old_tree std_tree fo list.files told.slots told.read) trees.old_barred all.walked n files e

    given : Gives (GivesUnitFile new_tree.module fn (packages_in slots) false) list.files told.files
    given = files_as old_tree.module new_tree.module fo fn (packages_in told.slots) (packages_in slots) false list.files told.files
        (client_alike p bits barred std_tree one old_tree new_tree fo fn oa oc na s list.files (client_asked p barred new_tree std_tree fn list.files slots all) land found) told.given

    module _ (few : length fn < 4294967296) where
      packages : (us : Units) × AreUnits new_tree.module fn slots us.packages
      packages = new_units p barred std_tree one old_tree new_tree fo fn oc na s known (all_too p barred new_tree std_tree fn one s an.2.1.walked) trees.old_barred few

      abbrev units : ClientUnits
      units = record { packages = packages.0; client = c.units.client }

      are : AreClientUnits p barred new_tree std_tree client (Ok units)
      are = (fn, an.1, (list, list_read, record { slots = slots; read = all; packages = packages.1; files = told.files; given = given; client = told.client }))

      abbrev sc : UnitRun p barred new_tree std_tree fn
      sc = record { run = s; units = packages.0; all = packages.1 }

      sc_paths : HaveOtherPaths (sources_of units.packages)
      sc_paths = other_paths p barred new_tree std_tree fn sc trees.new_tree trees.std trees.new_named

      world : (v : Packages) × IsWorldOf bits (sources_of units.packages) v
      world = new_world p bits barred std_tree one old_tree new_tree fo fn oc na sc known trees.old_barred trees.new_barred
          (some_paths un na_paths) (some_paths c.units.packages oc_paths) (some_paths units.packages sc_paths) wn c.world kn c.is

      serves_old : ServesUnits bits (sources_of uo) (sources_of c.units.packages) wo c.world
      serves_old = record {
        among = each_among p barred old_tree std_tree fo one oa oc (all_too p barred old_tree std_tree fo one oc.run alone.1.walked);
        apart = apart p barred old_tree std_tree fo oa;
        apart_too = apart p barred old_tree std_tree fo oc;
        paths = oa_paths;
        paths_too = oc_paths;
        world = ko;
        world_too = c.is;
      }

      serves_new : ServesUnits bits (sources_of un) (sources_of units.packages) wn world.0
      serves_new = record {
        among = each_among p barred new_tree std_tree fn one na sc (all_too p barred new_tree std_tree fn one s an.2.1.walked);
        apart = apart p barred new_tree std_tree fn na;
        apart_too = apart p barred new_tree std_tree fn sc;
        paths = na_paths;
        paths_too = sc_paths;
        world = kn;
        world_too = world.1;
      }

      -- a package of a world with the client, where the standard library has it
      std_at : (path : List ℕ) (m : ℕ) (k : Seen path m) → is_std fo m ≡ true → of_std (package_at c.world path) ≡ true
      std_at path m k std =
          let u = told.packages.complete m k.holds in
          let has = has_mapped source_of c.units.packages.packages u.0 u.1 in
          let at : u.0.path ≡ path = u.2.path ∙ k.names.same in
          let q = package_there bits (sources_of c.units.packages) (apart p barred old_tree std_tree fo oc).own_paths (some_paths c.units.packages oc_paths) c.world c.is (source_of u.0) has in
          let side = package_side bits (sources_of c.units.packages) (apart p barred old_tree std_tree fo oc).own_paths (some_paths c.units.packages oc_paths) c.world c.is (source_of u.0) has q.0 q.1 in
          std_by c.world u.0.path path q.0 u.0.from_std at q.1 side (u.2.side ∙ std)

      std_at_new : (f : PackageFile) (u : NamedImport) (h : Has list.files f) (i : Has f.uses u) (m : ℕ) (k : Seen u.path m) → is_std fo m ≡ true → of_std (package_at world.0 u.path) ≡ true
      std_at_new f u h i m k std = by (land f u h i m k).held
        where
          there : is_std fn (land f u h i m k).number ≡ true → of_std (package_at world.0 u.path) ≡ true
          there new_std =
              let l = land f u h i m k in
              let g = landed p bits barred std_tree one old_tree new_tree fo fn oa oc na s list.files (client_asked p barred new_tree std_tree fn list.files slots all) f u h i m k l in
              let v = packages.1.complete l.number g.holds in
              let has = has_mapped source_of packages.0.packages v.0 v.1 in
              let at : v.0.path ≡ u.path = v.2.path ∙ g.names.same in
              let q = package_there bits (sources_of units.packages) (apart p barred new_tree std_tree fn sc).own_paths (some_paths units.packages sc_paths) world.0 world.1 (source_of v.0) has in
              let side = package_side bits (sources_of units.packages) (apart p barred new_tree std_tree fn sc).own_paths (some_paths units.packages sc_paths) world.0 world.1 (source_of v.0) has q.0 q.1 in
              std_by world.0 v.0.path u.path q.0 v.0.from_std at q.1 side (v.2.side ∙ new_std)

          by : ((is_std fo m ≡ true) × (folder_of fn (land f u h i m k).number ≡ folder_of fo m)) ⊎ ((is_std fn (land f u h i m k).number ≡ false) × HoldsPackage na.run.slots (land f u h i m k).number) → of_std (package_at world.0 u.path) ≡ true
          by (inl q) = there (ap (λ (x : Folder). x.from_std) q.1 ∙ std)
          by (inr q) =
              let l = land f u h i m k in
              let own = own_side p barred new_tree std_tree (folder_of fn l.number) (an.1.sound (folder_of fn l.number) (has_at fn l.number no_folder l.names.within)) q.0 in
              let here = c.are.1.sound (folder_of fo m) (has_at fo m no_folder k.names.within) in
              absurd ((here.counts std).kept (inr (new_tree.module, trees.new_barred, subst (λ (w : List ℕ). IsUnder w new_tree.module) (l.names.same ∙ sym k.names.same) own)))

      client_shown : (d : ClientUnit) → IsClientOf told.files list.blocks (Some d) → ImportsShown wo c.world world.0 (source_of d.unit)
      client_shown d e file x has is_found =
          let q = import_from d.unit.files file x has in
          let g = given_by (GivesUnitFile old_tree.module fo (packages_in told.slots) false) told.given q.0 (subst (λ (fs : List UnitFile). Has fs q.0) e.files_are q.1) in
          let u = given_by (GivesUse old_tree.module fo (packages_in told.slots) false) g.2.given q.2 q.3 in
          let path : u.0.path ≡ x.path = sym u.2.path ∙ ap (λ (z : Import). z.path) q.4 in
          let k = found g.0 u.0 g.1 u.1 in
          subst (λ (w : List ℕ). IsPublic wo w ⊎ ((of_std (package_at c.world w) ≡ true) × (of_std (package_at world.0 w) ≡ true))) path (elim (either (is_std fo k.0)) [
            | inl std ↦ inr (std_at u.0.path k.0 k.1 std, std_at_new g.0 u.0 g.1 u.1 k.0 k.1 std)
            | inr own ↦ inl (shown p bits barred std_tree one old_tree new_tree fo fn oa oc na trees.new_barred outlines (some_paths uo oa_paths) (some_paths un na_paths) wo wn ko kn compatible u.0.path k.0 k.1 own
                (used_public g.0.uses (free g.0 g.1) u.0 u.1) (elements_of p bits barred std_tree one old_tree new_tree fo fn oa oc na trees.new_barred outlines (some_paths uo oa_paths) (some_paths un na_paths) wo wn ko kn compatible trees.old_tree trees.std trees.old_named u.0.path k.0 k.1))
          ])

      in_profile : (o : Option ClientUnit) → IsClientOf told.files list.blocks o → IsInProfile c.world bits o → IsInProfile world.0 bits o
      in_profile None e k = tt
      in_profile (Some d) e k =
          keeps bits (sources_of uo) (sources_of un) (sources_of c.units.packages) (sources_of units.packages) wo wn c.world world.0 pairs (source_of d.unit) d.blocks serves_old serves_new
          (share_units p barred std_tree one old_tree new_tree fo fn oa na trees.old_barred trees.new_barred) (share_units p barred std_tree one old_tree new_tree fo fn oc sc trees.old_barred trees.new_barred) holds compatible e.path (client_shown d e) k

      pub typed : IsProfileTyped p bits barred new_tree std_tree client
      typed = record { units = units; are = are; world = world.0; is = world.1; typed = in_profile c.units.client told.client c.typed }

  pub client_kept : IsProfileTyped p bits barred new_tree std_tree client
  client_kept =
      let w = walk_found p barred std_tree one old_tree new_tree fo fn oc.run na.run list.files (client_asked p barred old_tree std_tree fo list.files told.slots told.read) trees.old_barred in
      typed w.0 w.1 (few_folders p barred new_tree std_tree trees.new_tree trees.std trees.new_barred fn an.1)
