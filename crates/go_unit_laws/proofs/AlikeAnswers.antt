-- What is answered of folders, where all that one reader of them gives another one gives too.
use Rattle.std.proofs.Common.{ℕ, List, Result, Ok, Err}
use Rattle.go_units.specs.Reached.{AllAreRead, IsFirstRefusal, IsRefusedFor, ReadFolders, Walked, start, next}
use Rattle.go_units.specs.UnitsOfModules.{Answers}
use Rattle.go_units.specs.declared.folder.Folder.{Folder}
use Rattle.go_units.specs.declared.reader.Reading.{Reading}
use Rattle.go_units.specs.declared.reader.Reading.TheVariants as reading
use Rattle.go_units.specs.declared.unit_error.UnitError.{UnitError}
use Rattle.go_units.specs.declared.unit_error.UnitError.TheVariants as error
use Rattle.go_units.specs.declared.unit_list.Units.{Units}

module _ (module_path : List ℕ) (folders : List Folder) (gives also : ℕ → Reading → Type 0) (to : (n : ℕ) (r : Reading) → gives n r → also n r) where
  walked : {slots : ReadFolders} → Walked module_path folders gives slots → Walked module_path folders also slots
  walked (start e f) = start e f
  walked (next {n = n} {sources = sources} w i r a) = next (walked w) i (to n (reading.Files sources) r) a

  all_read : (slots : ReadFolders) → AllAreRead module_path folders gives slots → AllAreRead module_path folders also slots
  all_read slots a = record { walked = walked a.walked; all = a.all }

  refused_for : (n : ℕ) (e : UnitError) → IsRefusedFor module_path folders gives n e → IsRefusedFor module_path folders also n e
  refused_for n (error.File at fault) h = (h.0, to n (reading.Refused at.file fault) h.1)
  refused_for n (error.MixedNames path) h = (h.0, to n (reading.Files h.0) h.1, h.2)
  refused_for n (error.InternalUse at place) h = (h.0, to n (reading.Files h.0) h.1, h.2)
  refused_for n (error.Cycle path) h = h
  refused_for n error.NoMemory h = h

  first_refusal : (e : UnitError) → IsFirstRefusal module_path folders gives e → IsFirstRefusal module_path folders also e
  first_refusal e h = (h.0, walked h.1, h.2, h.3, refused_for h.2 e h.4)

  pub same_answers : (r : Result Units UnitError) → Answers module_path folders gives r → Answers module_path folders also r
  same_answers (Ok units) h = (h.0, all_read h.0 h.1, h.2)
  same_answers (Err (error.File at fault)) h = first_refusal (error.File at fault) h
  same_answers (Err (error.MixedNames path)) h = first_refusal (error.MixedNames path) h
  same_answers (Err (error.InternalUse at place)) h = first_refusal (error.InternalUse at place) h
  same_answers (Err (error.Cycle path)) h = (h.0, all_read h.0 h.1, h.2)
  same_answers (Err error.NoMemory) h = h
