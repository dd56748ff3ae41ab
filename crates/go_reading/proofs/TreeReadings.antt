-- What is read of files whose headers are known is read of them in their trees.
use Rattle.std.proofs.Common.{ℕ, ◌<◌, Option, Some, None, List, [], ◌∷◌, ◌++◌, map, length, get_or, sym, ap, ◌∙◌, subst}
use Rattle.go_base.specs.Lists.{Each}
use Rattle.go_imports.specs.Gives.{Gives, none, next, optional}
use Rattle.go_imports.specs.declared.package_files.SourceFile.{SourceFile}
use Rattle.go_model.specs.declared.files.platform.Platform.{Platform}
use Rattle.go_model.specs.declared.files.tree.Tree.{Tree}
use Rattle.go_model.specs.declared.files.tree.TreeFile.{TreeFile}
use Rattle.go_reading.proofs.ListFacts.{map_more}
use Rattle.go_reading.specs.ChosenFiles.{IsFaulty, GivesSource, path_of}
use Rattle.go_reading.specs.FolderReadings.{IsFirstRefused, IsReading}
use Rattle.go_reading.specs.TreeFolders.{ReadsFolder}
use Rattle.go_reading.specs.declared.heads.Head.{Head}
use Rattle.go_reading.specs.declared.heads.Head.TheVariants as head
use Rattle.go_reading.specs.declared.heads.HeadedFile.{HeadedFile}
use Rattle.go_reading.specs.inner.Heads.{IsHead, AreHeads, file_of, GivesAs, GivesHeaded, IsRefusedAs, IsRefusedHeaded, headed_path, IsHeadedReading}
use Rattle.go_reading.specs.inner.Listing.{AreContents}
use Rattle.go_units.specs.declared.folder.Folder.{Folder}
use Rattle.go_units.specs.declared.reader.FileFault.{FileFault}
use Rattle.go_units.specs.declared.reader.FileFault.TheVariants as fault
use Rattle.go_units.specs.declared.reader.Reading.{Reading}
use Rattle.go_units.specs.declared.reader.Reading.TheVariants as reading

-- what a head gives is what its file does
gives_as : (p : Platform) (file : TreeFile) (d : Head) (r : Option SourceFile) → IsHead p file d → GivesAs d file r → GivesSource p file r
gives_as p file head.LeftOut None k g = k
gives_as p file head.LeftOut (Some s) k g = absurd g
gives_as p file (head.Chosen clause) None k g = absurd g
gives_as p file (head.Chosen clause) (Some s) k g = ((k.0, k.1), g)
gives_as p file (head.Refused f) r k g = absurd g

bad_header : (p : Platform) (file : TreeFile) (f : FileFault) → IsHead p file (head.Refused f) → IsFaulty p file f
bad_header p file fault.BadExpression k = (k.0, k.1)
bad_header p file fault.Twice k = (k.0, k.1)
bad_header p file fault.PlusBuild k = (k.0, k.1)
bad_header p file (fault.BadToken offset) k = absurd k.1
bad_header p file fault.Syntax k = absurd k.1

bad_text : (p : Platform) (file : TreeFile) (clause : Option (List ℕ)) (f : FileFault) → IsHead p file (head.Chosen clause) → IsRefusedAs (head.Chosen clause) file f → IsFaulty p file f
bad_text p file clause fault.BadExpression k g = absurd g
bad_text p file clause fault.Twice k g = absurd g
bad_text p file clause fault.PlusBuild k g = absurd g
bad_text p file clause (fault.BadToken offset) k g = ((k.0, k.1), g)
bad_text p file clause fault.Syntax k g = ((k.0, k.1), g)

refused_as : (p : Platform) (file : TreeFile) (d : Head) (f : FileFault) → IsHead p file d → IsRefusedAs d file f → IsFaulty p file f
refused_as p file head.LeftOut f k g = absurd g
refused_as p file (head.Chosen clause) f k g = bad_text p file clause f k g
refused_as p file (head.Refused h) f k g = subst (IsFaulty p file) g (bad_header p file h k)

module _ (p : Platform) where
  abbrev IsRight : HeadedFile → Type 0
  IsRight h = IsHead p h.file.now h.head

  each_front : (xs ys : List HeadedFile) → Each IsRight (xs ++ ys) → Each IsRight xs
  each_front [] ys h = tt
  each_front (x ∷ xs) ys h = (h.0, each_front xs ys h.1)

  each_back : (xs ys : List HeadedFile) → Each IsRight (xs ++ ys) → Each IsRight ys
  each_back [] ys h = h
  each_back (x ∷ xs) ys h = each_back xs ys h.1

  gives_files : {hs : List HeadedFile} {sources : List SourceFile} → Gives GivesHeaded hs sources → Each IsRight hs → Gives (GivesSource p) (map file_of hs) sources
  gives_files none k = none
  gives_files (next {xs = hs} {ys = sources} h r g is) k =
      subst (λ (fs : List TreeFile). Gives (GivesSource p) fs (sources ++ optional r)) (sym (map_more file_of hs (h ∷ [])))
      (next h.file.now r (gives_files g (each_front hs (h ∷ []) k)) (gives_as p h.file.now h.head r (each_back hs (h ∷ []) k).0 is))

  first_refused : (hs : List HeadedFile) (at : List ℕ) (f : FileFault) → IsFirstRefused GivesHeaded IsRefusedHeaded headed_path hs at f → Each IsRight hs → IsFirstRefused (GivesSource p) (IsFaulty p) path_of (map file_of hs) at f
  first_refused hs at f r k =
      let all = subst (Each IsRight) r.parts k in
      record {
        before = map file_of r.before;
        file = r.file.file.now;
        after = map file_of r.after;
        parts = ap (map file_of) r.parts ∙ map_more file_of r.before (r.file ∷ r.after);
        earlier = r.earlier;
        read = gives_files r.read (each_front r.before (r.file ∷ r.after) all);
        place = r.place;
        refused = refused_as p r.file.file.now r.file.head f (each_back r.before (r.file ∷ r.after) all).0 r.refused;
      }

  -- a reading of heads is one of their files
  pub read_files : (files : List TreeFile) (hs : List HeadedFile) (r : Reading) → AreHeads p files hs → IsHeadedReading hs r → IsReading p files r
  read_files files hs (reading.Files sources) a g = subst (λ (fs : List TreeFile). IsReading p fs (reading.Files sources)) a.same (gives_files g a.right)
  read_files files hs (reading.Refused at f) a g = subst (λ (fs : List TreeFile). IsReading p fs (reading.Refused at f)) a.same (first_refused hs at f g a.right)

module _ (p : Platform) (barred : List (List ℕ)) (tree std_tree : Tree) where
  -- what is read of the contents of a folder is read of the folder
  pub reads_folder : (folders : List Folder) (contents : List (List HeadedFile)) → AreContents p barred tree std_tree folders contents → (n : ℕ) (r : Reading) → n < length folders → IsHeadedReading (get_or contents n []) r → ReadsFolder p barred tree std_tree folders n r
  reads_folder folders contents c n r l g = read_files p _ (get_or contents n []) r (c.heads n l) g
