-- A module with a client has one answer.
use Rattle.std.proofs.Common.{◌≡◌, ◌≢◌, ◌<◌, ℕ, Bool, true, false, Option, Some, None, List, [], ◌∷◌, length, map, Result, Ok, Err, refl, sym, ap, ◌∙◌, subst, inl, inr, arith}
use Rattle.std.specs.Prelude.{◌↔◌}
use Rattle.go_client_units.specs.go_client_files.ClientFiles.{ReadsClient}
use Rattle.go_client_units.specs.go_client_files.declared.uses.ClientFiles.{ClientFiles}
use Rattle.go_client_unit_laws.proofs.OneClientFiles.{files_or_error, one_error as one_own_error, one_files}
use Rattle.go_client_unit_laws.proofs.OneReading.{Below}
use Rattle.go_client_unit_laws.proofs.OneRefusal.{first_or_all, one_first, one_slots}
use Rattle.go_client_unit_laws.proofs.OwnFolders.{own_first, own_or_read}
use Rattle.go_client_unit_laws.specs.WrittenClients.{AreWrittenAlike}
use Rattle.go_client_units.specs.ClientUnits.{AnswersOfClient, AnswersWith, AreClientUnits, AreUnitsWith, IsClientOf, IsRefusal}
use Rattle.go_client_units.specs.declared.units.ClientUnit.{ClientUnit}
use Rattle.go_client_units.specs.declared.units.ClientUnits.{ClientUnits}
use Rattle.go_client_walks.proofs.WalkedFiles.{walked_rows}
use Rattle.go_client_walks.specs.ClientWalks.{AllAreRead, Answers, IsFirstRefusal, IsOwnRefusal}
use Rattle.go_imports.specs.Gives.{Gives}
use Rattle.go_imports.specs.declared.used_imports.NamedImport.{NamedImport}
use Rattle.go_model.specs.declared.files.platform.Platform.{Platform}
use Rattle.go_model.specs.declared.files.tree.Tree.{Tree}
use Rattle.go_model.specs.declared.files.tree.TreeFile.{TreeFile}
use Rattle.go_reading.specs.FolderReadings.{IsReading}
use Rattle.go_reading.specs.TreeFolders.{AreTreeFolders, ReadsFolder, files_at}
use Rattle.go_syntax.specs.declared.statement.LiteralBlock.{LiteralBlock}
use Rattle.go_unit_laws.proofs.Acyclic.{units_or_cycle}
use Rattle.go_unit_laws.proofs.OneList.{all_written, same_paths}
use Rattle.go_unit_laws.proofs.OneRefusal.{one_cycle}
use Rattle.go_unit_laws.proofs.OneUnit.{counterpart, written_by_path}
use Rattle.go_unit_laws.proofs.Snocs.{gives_both}
use Rattle.go_unit_laws.specs.WrittenUnits.{written}
use Rattle.go_units.specs.Folders.{AreOrdered, folder_of}
use Rattle.go_units.specs.Reached.{ReadFolders}
use Rattle.go_units.specs.UnitFacts.{UnitFilesAreNamed}
use Rattle.go_units.specs.UnitsOfModules.{AreUnits, GivesUnitFile, GivesUse, IsCycle, packages_in}
use Rattle.go_units.specs.declared.folder.Folder.{Folder}
use Rattle.go_units.specs.declared.package_uses.PackageFile.{PackageFile}
use Rattle.go_units.specs.declared.reader.Reading.{Reading}
use Rattle.go_units.specs.declared.unit.UnitFile.{UnitFile}
use Rattle.go_units.specs.declared.unit.UsedImport.{UsedImport}
use Rattle.go_units.specs.declared.unit_error.UnitError.{UnitError}
use Rattle.go_units.specs.declared.unit_error.UnitError.TheVariants as error
use Rattle.go_units.specs.declared.unit_list.Units.{Units}

-- ---- the client's own unit

same_flag : {P : Type 0} (a b : Bool) → ((a ≡ true) ↔ P) → ((b ≡ true) ↔ P) → a ≡ b
same_flag true true f g = refl
same_flag true false f g = sym (g.1 (f.0 refl))
same_flag false true f g = f.1 (g.0 refl)
same_flag false false f g = refl

one_name : (files : List UnitFile) (a b : List ℕ) → 0 < length files → UnitFilesAreNamed files a → UnitFilesAreNamed files b → a ≡ b
one_name [] a b h f g = absurd (omega (arith, h))
one_name (x ∷ files) a b h f g = sym (f x (inl refl)) ∙ g x (inl refl)

module _ (module_path : List ℕ) (folders : List Folder) (packages : List Bool) (from_std : Bool) where
  one_use : (u : NamedImport) (r s : Option UsedImport) → GivesUse module_path folders packages from_std u r → GivesUse module_path folders packages from_std u s → r ≡ s
  one_use u None s a b = absurd a
  one_use u (Some i) None a b = absurd b
  one_use u (Some i) (Some j) a b =
      let name : i.name ≡ j.name = a.names ∙ sym b.names in
      let path : i.path ≡ j.path = a.path ∙ sym b.path in
      let place : i.place ≡ j.place = a.place ∙ sym b.place in
      let found : i.found ≡ j.found = same_flag i.found j.found a.is_found b.is_found in
      (λ n. Some (record { name = name n; path = path n; found = found n; place = place n }))

  one_file : (f : PackageFile) (r s : Option UnitFile) → GivesUnitFile module_path folders packages from_std f r → GivesUnitFile module_path folders packages from_std f s → r ≡ s
  one_file f None s a b = absurd a
  one_file f (Some g) None a b = absurd b
  one_file f (Some g) (Some h) a b =
      let path : g.path ≡ h.path = a.path ∙ sym b.path in
      let outline : g.outline ≡ h.outline = a.reads ∙ sym b.reads in
      let imports : g.imports ≡ h.imports = gives_both (GivesUse module_path folders packages from_std) (GivesUse module_path folders packages from_std) one_use f.uses g.imports h.imports a.given b.given in
      (λ n. Some (record { path = path n; outline = outline n; imports = imports n }))

  pub all_files : (fs : List PackageFile) (gs hs : List UnitFile) → Gives (GivesUnitFile module_path folders packages from_std) fs gs → Gives (GivesUnitFile module_path folders packages from_std) fs hs → gs ≡ hs
  all_files fs gs hs a b = gives_both (GivesUnitFile module_path folders packages from_std) (GivesUnitFile module_path folders packages from_std) one_file fs gs hs a b

one_client : (files : List UnitFile) (blocks : List (List LiteralBlock)) (c d : Option ClientUnit) → IsClientOf files blocks c → IsClientOf files blocks d → AreWrittenAlike c d
one_client files blocks None None a b = tt
one_client files blocks None (Some d) a b = absurd (let h = b.some in omega (arith, a, h))
one_client files blocks (Some c) None a b = absurd (let h = a.some in omega (arith, b, h))
one_client files blocks (Some c) (Some d) a b =
    let path : c.unit.path ≡ d.unit.path = a.path ∙ sym b.path in
    let side : c.unit.from_std ≡ d.unit.from_std = a.side ∙ sym b.side in
    let same : c.unit.files ≡ d.unit.files = a.files_are ∙ sym b.files_are in
    let some : 0 < length d.unit.files = subst (λ (fs : List UnitFile). 0 < length fs) (sym b.files_are) b.some in
    let name : c.unit.name ≡ d.unit.name = one_name d.unit.files c.unit.name d.unit.name some (subst (λ (fs : List UnitFile). UnitFilesAreNamed fs c.unit.name) same c.unit.named) d.unit.named in
    ((λ i. record { path = path i; name = name i; from_std = side i; files = same i }), a.blocks_are ∙ sym b.blocks_are)

-- ---- over any reader of folders

module _ (below : Below) (module_path : List ℕ) (folders : List Folder) (ordered : AreOrdered folders) (gives : ℕ → Reading → Type 0) (one : (n : ℕ) (a b : Reading) → gives n a → gives n b → a ≡ b) (p : Platform) (client : Tree) where
  pub record IsSame (a b : ClientUnits) : Type 0 where
    pub units : map written a.packages.packages ≡ map written b.packages.packages
    pub clients : AreWrittenAlike a.client b.client

  -- what is answered where the files of the client are these
  module _ (list : ClientFiles) where
    abbrev AllRead : ReadFolders → Type 0
    AllRead slots = AllAreRead list.files module_path folders gives slots

    same_slots : (s t : ReadFolders) → AllRead s → AllRead t → s ≡ t
    same_slots s t a b = one_slots list.files module_path folders ordered gives one s t a b

    rows : (slots : ReadFolders) → AllRead slots → length slots ≡ length folders
    rows slots a = walked_rows list.files module_path folders gives a.walked

    of_one : (slots : ReadFolders) (a b : Units) → AllRead slots → AreUnits module_path folders slots a.packages → AreUnits module_path folders slots b.packages → map written a.packages ≡ map written b.packages
    of_one slots a b read all every =
        let many = rows slots read in
        all_written a.packages b.packages
        (same_paths a.packages b.packages
        (λ u h. counterpart module_path folders ordered slots many b.packages a.packages every all u h)
        (λ v h. counterpart module_path folders ordered slots many a.packages b.packages all every v h)
        a.ordered b.ordered)
        (λ u v h k e. let i = all.sound u h in let j = every.sound v k in written_by_path module_path folders ordered slots many i.0 j.0 u v i.1 j.1 e)

    one_units : (a b : ClientUnits) → AreUnitsWith module_path folders gives list a → AreUnitsWith module_path folders gives list b → IsSame a b
    one_units a b s t =
        let same : s.slots ≡ t.slots = same_slots s.slots t.slots s.read t.read in
        let files : s.files ≡ t.files = all_files module_path folders (packages_in t.slots) false list.files s.files t.files (subst (λ (w : ReadFolders). Gives (GivesUnitFile module_path folders (packages_in w) false) list.files s.files) same s.given) t.given in
        record {
          units = of_one t.slots a.packages b.packages t.read (subst (λ (w : ReadFolders). AreUnits module_path folders w a.packages.packages) same s.packages) t.packages;
          clients = one_client t.files list.blocks a.client b.client (subst (λ (fs : List UnitFile). IsClientOf fs list.blocks a.client) files s.client) t.client;
        }

    abbrev Says : UnitError → Type 0
    Says e = Answers list.files module_path folders gives (Err e)

    first_apart : (e : UnitError) (slots : ReadFolders) → e ≢ error.NoMemory → IsFirstRefusal list.files module_path folders gives e → AllRead slots → ⊥
    first_apart e slots n a b = first_or_all list.files module_path folders ordered gives one e slots n a b

    firsts : (d e : UnitError) → d ≢ error.NoMemory → e ≢ error.NoMemory → IsFirstRefusal list.files module_path folders gives d → IsFirstRefusal list.files module_path folders gives e → d ≡ e
    firsts d e s t a b = one_first list.files module_path folders ordered gives one d e s t a b

    one_said : (d e : UnitError) → d ≢ error.NoMemory → e ≢ error.NoMemory → Says d → Says e → d ≡ e
    one_said error.NoMemory e s t a b = absurd (s refl)
    one_said d error.NoMemory s t a b = absurd (t refl)
    one_said (error.Cycle path) (error.Cycle other) s t a b =
        let same : a.0 ≡ b.0 = same_slots a.0 b.0 a.1 b.1 in
        ap error.Cycle (one_cycle module_path folders ordered gives one b.0 path other (subst (λ (w : ReadFolders). IsCycle module_path folders w path) same a.2) b.2)
    one_said (error.Cycle path) (error.File at f) s t a b = absurd (first_apart (error.File at f) a.0 t b a.1)
    one_said (error.Cycle path) (error.MixedNames other) s t a b = absurd (first_apart (error.MixedNames other) a.0 t b a.1)
    one_said (error.Cycle path) (error.InternalUse at place) s t a b = absurd (first_apart (error.InternalUse at place) a.0 t b a.1)
    one_said (error.File at f) (error.Cycle path) s t a b = absurd (first_apart (error.File at f) b.0 s a b.1)
    one_said (error.MixedNames other) (error.Cycle path) s t a b = absurd (first_apart (error.MixedNames other) b.0 s a b.1)
    one_said (error.InternalUse at place) (error.Cycle path) s t a b = absurd (first_apart (error.InternalUse at place) b.0 s a b.1)
    one_said (error.File at f) (error.File bt g) s t a b = firsts (error.File at f) (error.File bt g) s t a b
    one_said (error.File at f) (error.MixedNames q) s t a b = firsts (error.File at f) (error.MixedNames q) s t a b
    one_said (error.File at f) (error.InternalUse bt q) s t a b = firsts (error.File at f) (error.InternalUse bt q) s t a b
    one_said (error.MixedNames m) (error.File bt g) s t a b = firsts (error.MixedNames m) (error.File bt g) s t a b
    one_said (error.MixedNames m) (error.MixedNames q) s t a b = firsts (error.MixedNames m) (error.MixedNames q) s t a b
    one_said (error.MixedNames m) (error.InternalUse bt q) s t a b = firsts (error.MixedNames m) (error.InternalUse bt q) s t a b
    one_said (error.InternalUse at m) (error.File bt g) s t a b = firsts (error.InternalUse at m) (error.File bt g) s t a b
    one_said (error.InternalUse at m) (error.MixedNames q) s t a b = firsts (error.InternalUse at m) (error.MixedNames q) s t a b
    one_said (error.InternalUse at m) (error.InternalUse bt q) s t a b = firsts (error.InternalUse at m) (error.InternalUse bt q) s t a b

    units_or_said : (a : ClientUnits) (e : UnitError) → e ≢ error.NoMemory → AreUnitsWith module_path folders gives list a → Says e → ⊥
    units_or_said a error.NoMemory t s b = t refl
    units_or_said a (error.File at f) t s b = first_apart (error.File at f) s.slots t b s.read
    units_or_said a (error.MixedNames path) t s b = first_apart (error.MixedNames path) s.slots t b s.read
    units_or_said a (error.InternalUse at place) t s b = first_apart (error.InternalUse at place) s.slots t b s.read
    units_or_said a (error.Cycle path) t s b =
        let same : b.0 ≡ s.slots = same_slots b.0 s.slots b.1 s.read in
        units_or_cycle module_path folders ordered s.slots (rows s.slots s.read) a.packages.packages path s.packages a.packages.ordered (subst (λ (w : ReadFolders). IsCycle module_path folders w path) same b.2)

    -- a refusal among the module's folders is what is said, and isn't beside units
    first_said : (e : UnitError) → IsFirstRefusal list.files module_path folders gives e → Says e
    first_said (error.File at f) a = a
    first_said (error.MixedNames path) a = a
    first_said (error.InternalUse at place) a = a
    first_said (error.Cycle path) a = absurd a.4
    first_said error.NoMemory a = tt

    own_said : (e : UnitError) → IsOwnRefusal module_path folders gives [] e → Says e
    own_said e a = first_said e (own_first list.files module_path folders gives e a)

  abbrev Own : UnitError → Type 0
  Own e = IsOwnRefusal module_path folders gives [] e

  abbrev Reads : Result ClientFiles UnitError → Type 0
  Reads r = ReadsClient module_path folders p client r

  one_own : (d e : UnitError) → d ≢ error.NoMemory → e ≢ error.NoMemory → Own d → Own e → d ≡ e
  one_own d e s t a b = one_first [] module_path folders ordered gives one d e s t (own_first [] module_path folders gives d a) (own_first [] module_path folders gives e b)

  pub one_refusal : (d e : UnitError) → d ≢ error.NoMemory → e ≢ error.NoMemory → IsRefusal module_path folders gives p client d → IsRefusal module_path folders gives p client e → d ≡ e
  one_refusal d e s t (inl a) (inl b) = one_own d e s t a b
  one_refusal d e s t (inl a) (inr (inl b)) = absurd (own_or_read module_path folders ordered gives one d b.0 s a b.1)
  one_refusal d e s t (inl a) (inr (inr b)) = one_said b.0 d e s t (own_said b.0 d a) b.2
  one_refusal d e s t (inr (inl a)) (inl b) = absurd (own_or_read module_path folders ordered gives one e a.0 t b a.1)
  one_refusal d e s t (inr (inr a)) (inl b) = one_said a.0 d e s t a.2 (own_said a.0 e b)
  one_refusal d e s t (inr (inl a)) (inr (inl b)) = one_own_error module_path folders ordered below p client d e s t a.2 b.2
  one_refusal d e s t (inr (inl a)) (inr (inr b)) = absurd (files_or_error module_path folders ordered below p client b.0 d s b.1 a.2)
  one_refusal d e s t (inr (inr a)) (inr (inl b)) = absurd (files_or_error module_path folders ordered below p client a.0 e t a.1 b.2)
  one_refusal d e s t (inr (inr a)) (inr (inr b)) =
      let same : a.0 ≡ b.0 = one_files module_path folders ordered below p client a.0 b.0 a.1 b.1 in
      one_said b.0 d e s t (subst (λ (l : ClientFiles). Answers l.files module_path folders gives (Err d)) same a.2) b.2

  pub same_units : (a b : ClientUnits) → AnswersWith module_path folders gives p client (Ok a) → AnswersWith module_path folders gives p client (Ok b) → IsSame a b
  same_units a b s t =
      let same : s.0 ≡ t.0 = one_files module_path folders ordered below p client s.0 t.0 s.1 t.1 in
      one_units t.0 a b (subst (λ (l : ClientFiles). AreUnitsWith module_path folders gives l a) same s.2) t.2

  pub units_or_refusal : (a : ClientUnits) (e : UnitError) → e ≢ error.NoMemory → AnswersWith module_path folders gives p client (Ok a) → IsRefusal module_path folders gives p client e → ⊥
  units_or_refusal a e t s (inl b) = units_or_said s.0 a e t s.2 (own_said s.0 e b)
  units_or_refusal a e t s (inr (inl b)) = files_or_error module_path folders ordered below p client s.0 e t s.1 b.2
  units_or_refusal a e t s (inr (inr b)) =
      let same : b.0 ≡ s.0 = one_files module_path folders ordered below p client b.0 s.0 b.1 s.1 in
      units_or_said s.0 a e t s.2 (subst (λ (l : ClientFiles). Answers l.files module_path folders gives (Err e)) same b.2)

-- ---- of trees

module _ (below : Below) (one_list : (p : Platform) (barred : List (List ℕ)) (tree std_tree : Tree) (a b : List Folder) → AreTreeFolders p barred tree std_tree a → AreTreeFolders p barred tree std_tree b → a ≡ b)
    (one_reading : (p : Platform) (files : List TreeFile) (a b : Reading) → IsReading p files a → IsReading p files b → a ≡ b)
    (p : Platform) (barred : List (List ℕ)) (tree std_tree client : Tree) where
  read_once : (folders : List Folder) (n : ℕ) (a b : Reading) → ReadsFolder p barred tree std_tree folders n a → ReadsFolder p barred tree std_tree folders n b → a ≡ b
  read_once folders n a b h k = one_reading p (files_at p barred tree std_tree (folder_of folders n).from_std (folder_of folders n).path) a b h k

  over : (r : Result ClientUnits UnitError) (folders : List Folder) (s : AnswersOfClient p barred tree std_tree client r) → s.0 ≡ folders → AnswersWith tree.module folders (ReadsFolder p barred tree std_tree folders) p client r
  over r folders s e = subst (λ (w : List Folder). AnswersWith tree.module w (ReadsFolder p barred tree std_tree w) p client r) e s.2

  same_folders : (r q : Result ClientUnits UnitError) (s : AnswersOfClient p barred tree std_tree client r) (t : AnswersOfClient p barred tree std_tree client q) → s.0 ≡ t.0
  same_folders r q s t = one_list p barred tree std_tree s.0 t.0 s.1 t.1

  told : (e : UnitError) → e ≢ error.NoMemory → AreClientUnits p barred tree std_tree client (Err e) → AnswersOfClient p barred tree std_tree client (Err e)
  told (error.File at f) s a = a
  told (error.MixedNames path) s a = a
  told (error.InternalUse at place) s a = a
  told (error.Cycle path) s a = a
  told error.NoMemory s a = absurd (s refl)

  pub one_of : (a b : ClientUnits) → AreClientUnits p barred tree std_tree client (Ok a) → AreClientUnits p barred tree std_tree client (Ok b)
      → (map written a.packages.packages ≡ map written b.packages.packages) × AreWrittenAlike a.client b.client
  one_of a b s t =
      let k = same_units below tree.module t.0 t.1.ordered (ReadsFolder p barred tree std_tree t.0) (read_once t.0) p client a b (over (Ok a) t.0 s (same_folders (Ok a) (Ok b) s t)) t.2 in
      (k.units, k.clients)

  pub one_error_of : (d e : UnitError) → d ≢ error.NoMemory → e ≢ error.NoMemory → AreClientUnits p barred tree std_tree client (Err d) → AreClientUnits p barred tree std_tree client (Err e) → d ≡ e
  one_error_of d e s t a b =
      let k = told d s a in
      let l = told e t b in
      one_refusal below tree.module l.0 l.1.ordered (ReadsFolder p barred tree std_tree l.0) (read_once l.0) p client d e s t (over (Err d) l.0 k (same_folders (Err d) (Err e) k l)) l.2

  pub apart_of : (a : ClientUnits) (e : UnitError) → e ≢ error.NoMemory → AreClientUnits p barred tree std_tree client (Ok a) → AreClientUnits p barred tree std_tree client (Err e) → ⊥
  apart_of a e t s b =
      let l = told e t b in
      units_or_refusal below tree.module s.0 s.1.ordered (ReadsFolder p barred tree std_tree s.0) (read_once s.0) p client a e t s.2 (over (Err e) s.0 l (same_folders (Err e) (Ok a) l s))
