-- A module with a client has units, or a first refusal.
use Rattle.std.proofs.Common.{◌≡◌, ◌≢◌, ◌⊎◌, ◌<◌, ℕ, Bool, true, false, Option, Some, None, List, [], ◌∷◌, length, Result, Ok, Err, refl, sym, ap, ◌∙◌, inl, inr, arith}
use mathlib.Core.Bool.{true≢false}
use Rattle.go_base.specs.Lists.{Has}
use Rattle.go_client_units.specs.go_client_files.ClientFiles.{ReadsClient}
use Rattle.go_client_units.specs.go_client_files.declared.uses.ClientFiles.{ClientFiles}
use Rattle.go_client_outcomes.proofs.FolderReads.{folders_end}
use Rattle.go_client_outcomes.proofs.ReadClients.{client_read}
use Rattle.go_client_units.proofs.JoinedClients.{given_alike, given_few, read_alike, read_few}
use Rattle.go_client_units.specs.ClientUnits.{AnswersWith, IsClientOf, IsRefusal}
use Rattle.go_client_units.specs.declared.units.ClientUnit.{ClientUnit}
use Rattle.go_client_units.specs.declared.units.ClientUnits.{ClientUnits}
use Rattle.go_client_walks.proofs.WalkedFiles.{readable, walked_rows}
use Rattle.go_client_walks.specs.ClientWalks.{AllAreRead, Answers, IsFirstRefusal, IsNextFolder, IsOwnRefusal, ModuleIsRead}
use Rattle.go_existence.specs.Existence.{NotNone}
use Rattle.go_existence.proofs.DoubleNegation.{decided, so, sure, bind}
use Rattle.go_imports.specs.Gives.{Gives}
use Rattle.go_imports.specs.declared.package_files.SourceFile.{SourceFile}
use Rattle.go_imports.specs.declared.used_imports.NamedImport.{NamedImport}
use Rattle.go_model.specs.declared.files.platform.Platform.{Platform}
use Rattle.go_model.specs.declared.files.tree.Tree.{Tree}
use Rattle.go_model.specs.files.Trees.{IsTree}
use Rattle.go_model.specs.types.Terms.{client_path}
use Rattle.go_syntax.specs.declared.statement.LiteralBlock.{LiteralBlock}
use Rattle.go_unit_outcomes.proofs.GivenLists.{given}
use Rattle.go_unit_outcomes.proofs.MadeUnits.{units_made}
use Rattle.go_unit_outcomes.proofs.OrderedPackages.{needs_listed, order_or_cycle}
use Rattle.go_units.specs.Folders.{AreOrdered, IsFound, folder_of}
use Rattle.go_units.specs.Reached.{ComesFirst, IsFresh, ReadFolders, is_std}
use Rattle.go_units.specs.UnitFacts.{UnitFilesAreNamed, needed_by}
use Rattle.go_units.specs.UnitsOfModules.{GivesUnitFile, GivesUse, packages_in}
use Rattle.go_units.specs.declared.folder.Folder.{Folder}
use Rattle.go_units.specs.declared.package_uses.PackageFile.{PackageFile}
use Rattle.go_units.specs.declared.reader.Reading.{Reading}
use Rattle.go_units.specs.declared.reader.Reading.TheVariants as reading
use Rattle.go_units.specs.declared.unit.UnitFile.{UnitFile}
use Rattle.go_units.specs.declared.unit.UsedImport.{UsedImport}
use Rattle.go_units.specs.declared.unit_error.UnitError.{UnitError}
use Rattle.go_units.specs.declared.unit_error.UnitError.TheVariants as error

bool_or : (b : Bool) → (b ≡ true) ⊎ (b ≡ false)
bool_or true = inl refl
bool_or false = inr refl

-- ---- the client's own unit

module _ (module_path : List ℕ) (folders : List Folder) (packages : List Bool) where
  use_of : (u : NamedImport) → NotNone ((r : Option UsedImport) × GivesUse module_path folders packages false u r)
  use_of u = so (decided ((m : ℕ) × IsFound module_path folders packages false u.path m)) (λ d. elim d [
    | inl m ↦ (Some (record { name = u.name; path = u.path; found = true; place = u.place }), record { names = refl; path = refl; place = refl; is_found = ((λ e. m), (λ k. refl)) })
    | inr never ↦ (Some (record { name = u.name; path = u.path; found = false; place = u.place }), record { names = refl; path = refl; place = refl; is_found = ((λ e. absurd (true≢false (sym e))), (λ k. absurd (never k))) })
  ])

  file_of : (f : PackageFile) → NotNone ((r : Option UnitFile) × GivesUnitFile module_path folders packages false f r)
  file_of f = so (given (GivesUse module_path folders packages false) f.uses (λ u h. use_of u)) (λ g. (
    Some (record { path = f.path; outline = f.outline; imports = g.0 }),
    record { path = refl; reads = refl; given = g.1 },
  ))

  files_of : (files : List PackageFile) → NotNone ((made : List UnitFile) × Gives (GivesUnitFile module_path folders packages false) files made)
  files_of files = given (GivesUnitFile module_path folders packages false) files (λ f h. file_of f)

named_first : (f : UnitFile) (fs : List UnitFile) → ((x y : UnitFile) → Has (f ∷ fs) x → Has (f ∷ fs) y → x.outline.«package».text ≡ y.outline.«package».text) → UnitFilesAreNamed (f ∷ fs) f.outline.«package».text
named_first f fs alike x h = alike x f h (inl refl)

client_of : (files : List UnitFile) (blocks : List (List LiteralBlock)) → length files < 4294967296 → ((x y : UnitFile) → Has files x → Has files y → x.outline.«package».text ≡ y.outline.«package».text) → (c : Option ClientUnit) × IsClientOf files blocks c
client_of [] blocks few alike = (None, refl)
client_of (f ∷ fs) blocks few alike = (
  Some (record {
    unit = record {
      path = client_path;
      name = f.outline.«package».text;
      from_std = false;
      files = f ∷ fs;
      needs = needed_by (f ∷ fs);
      few = few;
      named = named_first f fs alike;
      needed = refl;
    };
    blocks = blocks;
  }),
  record { some = omega arith; path = refl; side = refl; files_are = refl; blocks_are = refl },
)

module _ (module_path : List ℕ) (folders : List Folder) (ordered : AreOrdered folders) (few : length folders < 4294967296) (gives : ℕ → Reading → Type 0)
    (reads : (n : ℕ) → n < length folders → NotNone ((r : Reading) × gives n r)) (small : (n : ℕ) (sources : List SourceFile) → gives n (reading.Files sources) → length sources < 4294967296) (p : Platform) (client : Tree)
    (is_client : IsTree client) where
  abbrev Says : Type 0
  Says = (r : Result ClientUnits UnitError) × (r ≡ Err error.NoMemory → ⊥) × AnswersWith module_path folders gives p client r

  refused : (e : UnitError) → (e ≡ error.NoMemory → ⊥) → IsRefusal module_path folders gives p client e → Says
  refused e n h = (Err e, (λ k. n (let same : e ≡ error.NoMemory = cc in same)), h)

  -- ---- where the files of the client are read

  module _ (list : ClientFiles) (read : ReadsClient module_path folders p client (Ok list)) where
    first_said : (e : UnitError) → IsFirstRefusal list.files module_path folders gives e → Answers list.files module_path folders gives (Err e)
    first_said (error.File at f) h = h
    first_said (error.MixedNames path) h = h
    first_said (error.InternalUse at place) h = h
    first_said (error.Cycle path) h = absurd h.4
    first_said error.NoMemory h = tt

    all_read : (slots : ReadFolders) → AllAreRead list.files module_path folders gives slots → NotNone Says
    all_read slots a =
        let rows = walked_rows list.files module_path folders gives a.walked in
        bind (needs_listed module_path folders slots rows) (λ g. bind (order_or_cycle g.0 g.2) (λ k. elim k [
          | inr n ↦ sure (refused (error.Cycle (folder_of folders n.0).path) (λ e. cc) (inr (inr (list, read, (slots, a, (g.0, g.1, n.0, n.1, refl))))))
          | inl order ↦ bind (units_made module_path folders ordered slots rows (readable list.files module_path folders gives small a.walked) g.0 g.1 order.0 order.1) (λ u.
              so (files_of module_path folders (packages_in slots) list.files) (λ made.
              let many = given_few module_path folders (packages_in slots) list.files made.0 (read_few module_path folders p client list is_client read) made.1 in
              let alike = given_alike module_path folders (packages_in slots) list.files made.0 (read_alike module_path folders p client list read) made.1 in
              let c = client_of made.0 list.blocks many alike in (
                Ok (record { packages = record { packages = u.0; ordered = ∣ u.1.ordered ∣₁; few = (let l = u.1.few in omega (arith, l, few)) }; client = c.0 }),
                (λ e. cc),
                (list, read, record { slots = slots; read = a; packages = u.1.all; files = made.0; given = made.1; client = c.1 }),
              )))
        ]))

    with_client : NotNone Says
    with_client = bind (folders_end list.files module_path folders gives reads) (λ k. elim k [
      | inl slots ↦ all_read slots.0 slots.1
      | inr e ↦ sure (refused e.0 e.1 (inr (inr (list, read, first_said e.0 e.2))))
    ])

  -- ---- the module's folders

  -- where a folder of the standard library is next, those of the module are read
  own_read : (slots : ReadFolders) (n : ℕ) → IsNextFolder [] module_path folders slots n → is_std folders n ≡ true → (m : ℕ) → m < length folders → is_std folders m ≡ false → IsFresh slots m → ⊥
  own_read slots n i std m within own fresh = later (i.first m (record { within = within; why = inl own }) fresh)
    where
      later : ComesFirst module_path folders n m → ⊥
      later (inl a) = true≢false (sym std ∙ a.0)
      later (inr b) = true≢false (sym std ∙ b.0 ∙ own)

  abbrev OwnEnds : Type 0
  OwnEnds = ((slots : ReadFolders) × ModuleIsRead module_path folders gives slots) ⊎ ((e : UnitError) × (e ≡ error.NoMemory → ⊥) × IsOwnRefusal module_path folders gives [] e)

  own_end : NotNone OwnEnds
  own_end = so (folders_end [] module_path folders gives reads) (λ k. elim k [
    | inl slots ↦ inl (slots.0, record { walked = slots.1.walked; all = λ n within own f. slots.1.all n (record { within = within; why = inl own }) f })
    | inr e ↦ (
        let h = e.2 in
        elim (bool_or (is_std folders h.2)) [
          | inl std ↦ inl (h.0, record { walked = h.1; all = own_read h.0 h.2 h.3 std })
          | inr own ↦ inr (e.0, e.1, (h.0, h.1, h.2, h.3, own, h.4))
        ]
        )
  ])

  of_client : (slots : ReadFolders) → ModuleIsRead module_path folders gives slots → (r : Result ClientFiles UnitError) → (r ≡ Err error.NoMemory → ⊥) → ReadsClient module_path folders p client r → NotNone Says
  of_client slots own (Ok list) n read = with_client list read
  of_client slots own (Err e) n read = sure (refused e (λ k. n (ap Err k)) (inr (inl (slots, own, read))))

  pub client_units_end : NotNone ((r : Result ClientUnits UnitError) × (r ≡ Err error.NoMemory → ⊥) × AnswersWith module_path folders gives p client r)
  client_units_end = bind own_end (λ k. elim k [
    | inr e ↦ sure (refused e.0 e.1 (inl e.2))
    | inl slots ↦ bind (client_read module_path folders p client) (λ r. of_client slots.0 slots.1 r.0 r.1 r.2)
  ])
