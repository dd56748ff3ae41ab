-- What is read of files whose headers are known is read of the files.
use Rattle.std.proofs.Common.{◌≡◌, ℕ, ◌<◌, ◌≤◌, suc, Option, Some, None, List, [], ◌∷◌, ◌++◌, map, length, take, drop, get_or, sym, ap, ◌∙◌, subst}
use Rattle.go_base.proofs.Lists.{split_at}
use Rattle.go_base.specs.Lists.{Each, Has}
use Rattle.go_base.proofs.Members.{each_has}
use Rattle.go_client_files.specs.ClientFiles.{GivesParsed, IsFaultyFile, IsFirstFaulty, client_files}
use Rattle.go_client_files.specs.declared.parsed.ParsedFile.{ParsedFile}
use Rattle.go_client_files.specs.declared.reading.ClientReading.{ClientReading}
use Rattle.go_client_files.specs.declared.reading.ClientReading.TheVariants as reading
use Rattle.go_client_files.specs.inner.Heads.{GivesAs, GivesHeaded, IsFirstRefused, IsHeadedReading, IsRefusalOf, IsRefusedAs, IsRefusedHeaded}
use Rattle.go_imports.specs.Gives.{Gives, none, next, optional}
use Rattle.go_model.specs.declared.files.platform.Platform.{Platform}
use Rattle.go_model.specs.declared.files.tree.Tree.{Tree}
use Rattle.go_model.specs.declared.files.tree.TreeFile.{TreeFile}
use Rattle.go_model.specs.files.Trees.{IsTree, IsTreeFile}
use Rattle.go_reading.proofs.FilesByName.{by_name_from}
use Rattle.go_reading.proofs.ListFacts.{has_mapped, kept_from, map_more}
use Rattle.go_reading.specs.declared.heads.Head.{Head}
use Rattle.go_reading.specs.declared.heads.Head.TheVariants as head
use Rattle.go_reading.specs.declared.heads.HeadedFile.{HeadedFile}
use Rattle.go_reading.specs.inner.Heads.{AreHeads, IsHead, file_of, headed_path}
use Rattle.go_units.specs.declared.reader.FileFault.{FileFault}
use Rattle.go_units.specs.declared.reader.FileFault.TheVariants as fault

-- the file at a place is the first that is refused
pub first_refused : (files : List HeadedFile) (i : ℕ) (h : HeadedFile) (xs : List ParsedFile) (r : ClientReading) → i < length files → h ≡ get_or files i h → Gives GivesHeaded (take i files) xs → IsRefusalOf h r → IsHeadedReading files r
first_refused files i h xs (reading.Files given) less is read k = absurd k
first_refused files i h xs (reading.Refused at f) less is read k = record {
  before = take i files;
  file = h;
  after = drop (suc i) files;
  parts = split_at i files h h less (sym is);
  earlier = xs;
  read = read;
  place = k.0;
  refused = k.1;
}

-- what a head gives is what its file does
gives_as : (p : Platform) (file : TreeFile) (d : Head) (r : Option ParsedFile) → IsHead p file d → GivesAs d file r → GivesParsed p file r
gives_as p file head.LeftOut None k g = k
gives_as p file head.LeftOut (Some s) k g = absurd g
gives_as p file (head.Chosen clause) None k g = absurd g
gives_as p file (head.Chosen clause) (Some s) k g = ((k.0, k.1), g)
gives_as p file (head.Refused f) r k g = absurd g

bad_header : (p : Platform) (file : TreeFile) (f : FileFault) → IsHead p file (head.Refused f) → IsFaultyFile p file f
bad_header p file fault.BadExpression k = (k.0, k.1)
bad_header p file fault.Twice k = (k.0, k.1)
bad_header p file fault.PlusBuild k = (k.0, k.1)
bad_header p file (fault.BadToken offset) k = absurd k.1
bad_header p file fault.Syntax k = absurd k.1

bad_text : (p : Platform) (file : TreeFile) (clause : Option (List ℕ)) (f : FileFault) → IsHead p file (head.Chosen clause) → IsRefusedAs (head.Chosen clause) file f → IsFaultyFile p file f
bad_text p file clause fault.BadExpression k g = absurd g
bad_text p file clause fault.Twice k g = absurd g
bad_text p file clause fault.PlusBuild k g = absurd g
bad_text p file clause (fault.BadToken offset) k g = ((k.0, k.1), g)
bad_text p file clause fault.Syntax k g = ((k.0, k.1), g)

refused_as : (p : Platform) (file : TreeFile) (d : Head) (f : FileFault) → IsHead p file d → IsRefusedAs d file f → IsFaultyFile p file f
refused_as p file head.LeftOut f k g = absurd g
refused_as p file (head.Chosen clause) f k g = bad_text p file clause f k g
refused_as p file (head.Refused h) f k g = subst (IsFaultyFile p file) g (bad_header p file h k)

module _ (p : Platform) where
  abbrev IsRight : HeadedFile → Type 0
  IsRight h = IsHead p h.file.now h.head

  each_front : (xs ys : List HeadedFile) → Each IsRight (xs ++ ys) → Each IsRight xs
  each_front [] ys h = tt
  each_front (x ∷ xs) ys h = (h.0, each_front xs ys h.1)

  each_back : (xs ys : List HeadedFile) → Each IsRight (xs ++ ys) → Each IsRight ys
  each_back [] ys h = h
  each_back (x ∷ xs) ys h = each_back xs ys h.1

  gives_files : {hs : List HeadedFile} {xs : List ParsedFile} → Gives GivesHeaded hs xs → Each IsRight hs → Gives (GivesParsed p) (map file_of hs) xs
  gives_files none k = none
  gives_files (next {xs = hs} {ys = xs} h r g is) k =
      subst (λ (fs : List TreeFile). Gives (GivesParsed p) fs (xs ++ optional r)) (sym (map_more file_of hs (h ∷ [])))
      (next h.file.now r (gives_files g (each_front hs (h ∷ []) k)) (gives_as p h.file.now h.head r (each_back hs (h ∷ []) k).0 is))

  first_faulty : (hs : List HeadedFile) (at : List ℕ) (f : FileFault) → IsFirstRefused hs at f → Each IsRight hs → IsFirstFaulty p (map file_of hs) at f
  first_faulty hs at f r k =
      let all = subst (Each IsRight) r.parts k in
      record {
        before = map file_of r.before;
        file = r.file.file.now;
        after = map file_of r.after;
        parts = ap (map file_of) r.parts ∙ map_more file_of r.before (r.file ∷ r.after);
        earlier = r.earlier;
        read = gives_files r.read (each_front r.before (r.file ∷ r.after) all);
        place = r.place;
        refused = refused_as p r.file.file.now r.file.head f (each_back r.before (r.file ∷ r.after) all).0 r.refused;
      }

  pub parsed_files : (files : List TreeFile) (hs : List HeadedFile) (xs : List ParsedFile) → AreHeads p files hs → IsHeadedReading hs (reading.Files xs) → Gives (GivesParsed p) files xs
  parsed_files files hs xs a g = subst (λ (fs : List TreeFile). Gives (GivesParsed p) fs xs) a.same (gives_files g a.right)

  pub faulty_file : (files : List TreeFile) (hs : List HeadedFile) (at : List ℕ) (f : FileFault) → AreHeads p files hs → IsHeadedReading hs (reading.Refused at f) → IsFirstFaulty p files at f
  faulty_file files hs at f a g = subst (λ (fs : List TreeFile). IsFirstFaulty p fs at f) a.same (first_faulty hs at f g a.right)

  -- the files of a client's tree are small
  pub small_files : (tree : Tree) (hs : List HeadedFile) → IsTree tree → AreHeads p (client_files tree) hs → (h : HeadedFile) → Has hs h → length h.file.now.bytes ≤ 4194304
  small_files tree hs t a h i =
      let in_files = by_name_from _ h.file.now (subst (λ (fs : List TreeFile). Has fs h.file.now) a.same (has_mapped file_of hs h i)) in
      (each_has IsTreeFile tree.files h.file.now t.held (kept_from _ tree.files h.file.now in_files)).small
