-- What is answered where folders give some readings is answered where they give these and more.
use Rattle.std.proofs.Common.{ℕ, ◌<◌, List, [], length, Result, Ok, Err, inl, inr}
use Rattle.go_client_files.specs.declared.uses.ClientFiles.{ClientFiles}
use Rattle.go_client_units.specs.ClientUnits.{AnswersWith, AreUnitsWith, IsRefusal}
use Rattle.go_client_units.specs.declared.units.ClientUnits.{ClientUnits}
use Rattle.go_client_walks.specs.ClientWalks.{AllAreRead, Answers, IsFirstRefusal, IsOwnRefusal, ModuleIsRead, Walked, next as next_read, start}
use Rattle.go_model.specs.declared.files.platform.Platform.{Platform}
use Rattle.go_model.specs.declared.files.tree.Tree.{Tree}
use Rattle.go_units.specs.Reached.{IsRefusedFor, ReadFolders}
use Rattle.go_units.specs.declared.folder.Folder.{Folder}
use Rattle.go_units.specs.declared.package_uses.PackageFile.{PackageFile}
use Rattle.go_units.specs.declared.reader.Reading.{Reading}
use Rattle.go_units.specs.declared.reader.Reading.TheVariants as reading
use Rattle.go_units.specs.declared.unit_error.UnitError.{UnitError}
use Rattle.go_units.specs.declared.unit_error.UnitError.TheVariants as error

module _ (module_path : List ℕ) (folders : List Folder) (some all : ℕ → Reading → Type 0) (more : (n : ℕ) (r : Reading) → n < length folders → some n r → all n r) where
  module _ (client : List PackageFile) where
    walked_more : {slots : ReadFolders} → Walked client module_path folders some slots → Walked client module_path folders all slots
    walked_more (start e f) = start e f
    walked_more (next_read {slots = slots} {n = n} {sources = sources} {files = files} w is g a) = next_read (walked_more w) is (more n (reading.Files sources) is.wanted.within g) a

    refused_more : (n : ℕ) (e : UnitError) → n < length folders → IsRefusedFor module_path folders some n e → IsRefusedFor module_path folders all n e
    refused_more n (error.File at f) l r = (r.0, more n (reading.Refused at.file f) l r.1)
    refused_more n (error.MixedNames path) l r = (r.0, more n (reading.Files r.0) l r.1, r.2)
    refused_more n (error.InternalUse at place) l r = (r.0, more n (reading.Files r.0) l r.1, r.2)
    refused_more n (error.Cycle path) l r = r
    refused_more n error.NoMemory l r = r

    first_more : (e : UnitError) → IsFirstRefusal client module_path folders some e → IsFirstRefusal client module_path folders all e
    first_more e r = (r.0, walked_more r.1, r.2, r.3, refused_more r.2 e r.3.wanted.within r.4)

    own_more : (e : UnitError) → IsOwnRefusal module_path folders some client e → IsOwnRefusal module_path folders all client e
    own_more e r = (r.0, walked_more r.1, r.2, r.3, r.4, refused_more r.2 e r.3.wanted.within r.5)

    all_more : (slots : ReadFolders) → AllAreRead client module_path folders some slots → AllAreRead client module_path folders all slots
    all_more slots r = record { walked = walked_more r.walked; all = r.all }

    errors_more : (e : UnitError) → Answers client module_path folders some (Err e) → Answers client module_path folders all (Err e)
    errors_more (error.File at f) a = first_more (error.File at f) a
    errors_more (error.MixedNames path) a = first_more (error.MixedNames path) a
    errors_more (error.InternalUse at place) a = first_more (error.InternalUse at place) a
    errors_more (error.Cycle path) a = (a.0, all_more a.0 a.1, a.2)
    errors_more error.NoMemory a = a

  module_more : (slots : ReadFolders) → ModuleIsRead module_path folders some slots → ModuleIsRead module_path folders all slots
  module_more slots r = record { walked = walked_more [] r.walked; all = r.all }

  units_more : (list : ClientFiles) (r : ClientUnits) → AreUnitsWith module_path folders some list r → AreUnitsWith module_path folders all list r
  units_more list r a = record { slots = a.slots; read = all_more list.files a.slots a.read; packages = a.packages; files = a.files; given = a.given; client = a.client }

  module _ (p : Platform) (client : Tree) where
    refusals_more : (e : UnitError) → IsRefusal module_path folders some p client e → IsRefusal module_path folders all p client e
    refusals_more e (inl a) = inl (own_more [] e a)
    refusals_more e (inr (inl (slots, m, r))) = inr (inl (slots, module_more slots m, r))
    refusals_more e (inr (inr (list, r, a))) = inr (inr (list, r, errors_more list.files e a))

    pub answers_more : (r : Result ClientUnits UnitError) → AnswersWith module_path folders some p client r → AnswersWith module_path folders all p client r
    answers_more (Ok u) (list, r, a) = (list, r, units_more list u a)
    answers_more (Err e) a = refusals_more e a
