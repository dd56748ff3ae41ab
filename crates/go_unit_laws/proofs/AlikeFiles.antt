-- Where platforms choose the same files, they make the same of them.
use Rattle.std.proofs.Common.{ℕ, Option, Some, None, List, [], ◌∷◌, ◌++◌, refl, sym, ◌∙◌, subst, inl, inr}
use Rattle.go_base.specs.Lists.{Has}
use Rattle.go_file_choices.specs.AlikePlatforms.{AllChosenAlike, ChooseAlike}
use Rattle.go_imports.proofs.Members.{has_last, has_left}
use Rattle.go_imports.specs.Gives.{Gives, none, next}
use Rattle.go_imports.specs.declared.package_files.SourceFile.{SourceFile}
use Rattle.go_model.specs.declared.files.build.Header.{Header}
use Rattle.go_model.specs.declared.files.platform.Platform.{Platform}
use Rattle.go_model.specs.declared.files.tree.TreeFile.{TreeFile}
use Rattle.go_reading.specs.ChosenFiles.{GivesSource, IsAllowed, IsChosen, IsChosenBy, IsFaulty, IsLeftOut, TellsName, path_of}
use Rattle.go_reading.specs.FolderReadings.{IsFirstRefused, IsPackageName, IsReading}
use Rattle.go_units.specs.declared.reader.FileFault.{FileFault}
use Rattle.go_units.specs.declared.reader.FileFault.TheVariants as fault
use Rattle.go_units.specs.declared.reader.Reading.{Reading}
use Rattle.go_units.specs.declared.reader.Reading.TheVariants as reading

-- ---- a file

pub alike_back : (p q : Platform) (file : TreeFile) → ChooseAlike p q file → ChooseAlike q p file
alike_back p q file a = record { named = sym a.named; headed = λ header h. sym (a.headed header h) }

module _ (p q : Platform) (file : TreeFile) (a : ChooseAlike p q file) where
  allowed : IsAllowed p file → IsAllowed q file
  allowed h = sym a.named ∙ h

  chosen_by : (header : Header) → IsChosenBy p file header → IsChosenBy q file header
  chosen_by header h = record { has = h.has; chosen = sym (a.headed header h.has) ∙ h.chosen }

  pub chosen : IsChosen p file → IsChosen q file
  chosen h = (h.0, chosen_by h.0 h.1)

  left_out : IsLeftOut p file → IsLeftOut q file
  left_out (inl e) = inl (sym a.named ∙ e)
  left_out (inr h) = inr (h.0, h.1, sym (a.headed h.0 h.1) ∙ h.2)

  tells_name : (name : List ℕ) → TellsName p file name → TellsName q file name
  tells_name name h = (h.0, chosen_by h.0 h.1, h.2)

  faulty : (f : FileFault) → IsFaulty p file f → IsFaulty q file f
  faulty fault.BadExpression h = (allowed h.0, h.1)
  faulty fault.Twice h = (allowed h.0, h.1)
  faulty fault.PlusBuild h = (allowed h.0, h.1)
  faulty (fault.BadToken offset) h = (chosen h.0, h.1)
  faulty fault.Syntax h = (chosen h.0, h.1)

  given : (r : Option SourceFile) → GivesSource p file r → GivesSource q file r
  given None h = left_out h
  given (Some s) h = (chosen h.0, h.1)

-- ---- files

module _ (p q : Platform) where
  all_given : {files : List TreeFile} {sources : List SourceFile} → AllChosenAlike files p q → Gives (GivesSource p) files sources → Gives (GivesSource q) files sources
  all_given a none = none
  all_given a (next {xs = files} file r g k) = next file r (all_given (λ f h. a f (has_left files (file ∷ []) f h)) g) (given p q file (a file (has_last files file)) r k)

  in_front : (before after : List TreeFile) (file f : TreeFile) → Has before f → Has (before ++ file ∷ after) f
  in_front before after file f h = has_left before (file ∷ after) f h

  in_middle : (before after : List TreeFile) (file : TreeFile) → Has (before ++ file ∷ after) file
  in_middle [] after file = inl refl
  in_middle (f ∷ before) after file = inr (in_middle before after file)

  refused : (files : List TreeFile) (at : List ℕ) (f : FileFault) → AllChosenAlike files p q → IsFirstRefused (GivesSource p) (IsFaulty p) path_of files at f → IsFirstRefused (GivesSource q) (IsFaulty q) path_of files at f
  refused files at f a r =
      let there : AllChosenAlike (r.before ++ r.file ∷ r.after) p q = subst (λ (fs : List TreeFile). AllChosenAlike fs p q) r.parts a in
      record {
        before = r.before;
        file = r.file;
        after = r.after;
        parts = r.parts;
        earlier = r.earlier;
        read = all_given (λ g h. there g (in_front r.before r.after r.file g h)) r.read;
        place = r.place;
        refused = faulty p q r.file (there r.file (in_middle r.before r.after r.file)) f r.refused;
      }

  pub same_reading : (files : List TreeFile) (r : Reading) → AllChosenAlike files p q → IsReading p files r → IsReading q files r
  same_reading files (reading.Files sources) a h = all_given a h
  same_reading files (reading.Refused at f) a h = refused files at f a h

  pub same_name : (files : List TreeFile) (said : Option (List ℕ)) → AllChosenAlike files p q → IsPackageName p files said → IsPackageName q files said
  same_name [] said a h = h
  same_name (file ∷ files) said a (inl h) = inl (h.0, tells_name p q file (a file (inl refl)) h.0 h.1, h.2)
  same_name (file ∷ files) said a (inr h) = inr ((λ name t. h.0 name (tells_name q p file (alike_back p q file (a file (inl refl))) name t)), same_name files said (λ f k. a f (inr k)) h.1)
