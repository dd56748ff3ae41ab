-- The files of a client give one list of parsed files, or are refused for one file.
use Rattle.std.proofs.Common.{◌≡◌, ◌⊎◌, ℕ, Option, Some, None, List, [], ◌∷◌, ◌++◌, drop, refl, sym, ap, ◌∙◌, subst, inl, inr}
use mathlib.Core.Bool.{true≢false}
use Rattle.go_base.specs.Lists.{Has}
use Rattle.go_client_units.specs.go_client_files.ClientFiles.{GivesParsed, IsFaultyFile, IsFirstFaulty, IsParsed}
use Rattle.go_client_units.specs.go_client_files.declared.parsed.ParsedFile.{ParsedFile}
use Rattle.go_client_units.specs.go_client_files.inner.Causes.{HasBadText}
use Rattle.go_client_units.specs.go_file_blocks.FileBlocks.{HasFileBlocks}
use Rattle.go_imports.specs.Gives.{Gives}
use Rattle.go_model.specs.declared.files.build.Header.{Header}
use Rattle.go_model.specs.declared.files.platform.Platform.{Platform}
use Rattle.go_model.specs.declared.files.tree.TreeFile.{TreeFile}
use Rattle.go_model.specs.files.Headers.{IsHeader}
use Rattle.go_reading.proofs.OneReading.{gives_one}
use Rattle.go_reading.proofs.PackageNames.{left_not_chosen}
use Rattle.go_reading.specs.ChosenFiles.{IsAllowed, IsChosen, IsLeftOut, path_of}
use Rattle.go_syntax.specs.declared.declaration.File.{File}
use Rattle.go_syntax.specs.declared.statement.LiteralBlock.{LiteralBlock}
use Rattle.go_syntax.specs.declared.token.Token.{Token}
use Rattle.go_syntax.specs.grammar.SourceFiles.{HasOutline}
use Rattle.go_syntax.specs.lexical.Lexemes.{IsBadOffset}
use Rattle.go_syntax.specs.lexical.Tokens.{IsTokens}
use Rattle.go_tags.specs.HeaderCauses.{HasCause, IsOwnCause}
use Rattle.go_tags.specs.declared.error.TagError.{TagError}
use Rattle.go_tags.specs.declared.error.TagError.TheVariants as tag
use Rattle.go_units.proofs.Giving.{gives_all}
use Rattle.go_units.specs.declared.reader.FileFault.{FileFault}
use Rattle.go_units.specs.declared.reader.FileFault.TheVariants as fault

has_middle : {A : Type 0} (xs ys : List A) (x : A) → Has (xs ++ x ∷ ys) x
has_middle [] ys x = inl refl
has_middle (z ∷ xs) ys x = inr (has_middle xs ys x)

-- the first of the bad items is one
same_first : {A : Type 0} (Good Bad : A → Type 0) → ((x : A) → Good x → Bad x → ⊥) → (b c more bs : List A) (x y : A) → b ++ x ∷ more ≡ c ++ y ∷ bs → ((z : A) → Has b z → Good z) → ((z : A) → Has c z → Good z) → Bad x → Bad y → x ≡ y
same_first Good Bad apart [] [] more bs x y e g h k l = cc
same_first Good Bad apart [] (z ∷ c) more bs x y e g h k l = absurd (apart z (h z (inl refl)) (subst Bad (let s : x ≡ z = cc in s) k))
same_first Good Bad apart (z ∷ b) [] more bs x y e g h k l = absurd (apart z (g z (inl refl)) (subst Bad (let s : y ≡ z = cc in s) l))
same_first {A = A} Good Bad apart (z ∷ b) (w ∷ c) more bs x y e g h k l = same_first Good Bad apart b c more bs x y (ap (λ (q : List A). drop 1 q) e) (λ v i. g v (inr i)) (λ v i. h v (inr i)) k l

of_tag : TagError → FileFault
of_tag tag.BadExpression = fault.BadExpression
of_tag tag.Twice = fault.Twice
of_tag tag.PlusBuild = fault.PlusBuild
of_tag tag.NoMemory = fault.Syntax

-- the laws of the layers below: headers, tokens, outlines and blocks are one
pub record Below : Type 0 where
  pub header : (bytes : List ℕ) (a b : Header) → IsHeader bytes a → IsHeader bytes b → a ≡ b
  pub cause : (bytes : List ℕ) (a b : TagError) → IsOwnCause a → IsOwnCause b → HasCause bytes a → HasCause bytes b → a ≡ b
  pub either : (bytes : List ℕ) (h : Header) (e : TagError) → IsOwnCause e → HasCause bytes e → IsHeader bytes h → ⊥
  pub tokens : (bytes : List ℕ) (a b : List Token) → IsTokens bytes a → IsTokens bytes b → a ≡ b
  pub offset : (bytes : List ℕ) (a b : ℕ) → IsBadOffset bytes a → IsBadOffset bytes b → a ≡ b
  pub apart : (bytes : List ℕ) (o : ℕ) (ts : List Token) → IsBadOffset bytes o → IsTokens bytes ts → ⊥
  pub outline : (ts : List Token) (f g : File) → HasOutline ts f → HasOutline ts g → f ≡ g
  pub blocks : (ts : List Token) (f : File) (bs cs : List LiteralBlock) → HasFileBlocks ts f bs → HasFileBlocks ts f cs → bs ≡ cs

module _ (below : Below) (p : Platform) where
  -- ---- one file

  same_parsed : (file : TreeFile) (x y : ParsedFile) → IsParsed file x → IsParsed file y → x ≡ y
  same_parsed file x y a b =
      let ts : a.tokens ≡ b.tokens = below.tokens file.bytes a.tokens b.tokens a.are b.are in
      let path : x.source.path ≡ y.source.path = a.path ∙ sym b.path in
      let outline : x.source.outline ≡ y.source.outline = below.outline b.tokens x.source.outline y.source.outline (subst (λ (t : List Token). HasOutline t x.source.outline) ts a.outline) b.outline in
      let has : HasFileBlocks b.tokens y.source.outline x.blocks = subst (λ (f : File). HasFileBlocks b.tokens f x.blocks) outline (subst (λ (t : List Token). HasFileBlocks t x.source.outline x.blocks) ts a.blocks) in
      let blocks : x.blocks ≡ y.blocks = below.blocks b.tokens y.source.outline x.blocks y.blocks has b.blocks in
      (λ i. record { source = record { path = path i; outline = outline i }; blocks = blocks i })

  one_parsed : (file : TreeFile) (r s : Option ParsedFile) → GivesParsed p file r → GivesParsed p file s → r ≡ s
  one_parsed file None None a b = refl
  one_parsed file None (Some y) a b = absurd (left_not_chosen below.header below.either p file b.0.0 a b.0.1)
  one_parsed file (Some x) None a b = absurd (left_not_chosen below.header below.either p file a.0.0 b a.0.1)
  one_parsed file (Some x) (Some y) a b = ap (λ (w : ParsedFile). Some w) (same_parsed file x y a.1 b.1)

  -- a fault of the header, or of what is behind it
  abbrev OfHeader : TreeFile → FileFault → Type 0
  OfHeader file f = (e : TagError) × IsOwnCause e × HasCause file.bytes e × (of_tag e ≡ f)

  abbrev OfText : TreeFile → FileFault → Type 0
  OfText file f = IsChosen p file × HasBadText file.bytes f

  kinds : (file : TreeFile) (f : FileFault) → IsFaultyFile p file f → (IsAllowed p file × OfHeader file f) ⊎ OfText file f
  unfolding of_tag
  kinds file fault.BadExpression k = inl (k.0, (tag.BadExpression, (λ e. cc), k.1, refl))
  kinds file fault.Twice k = inl (k.0, (tag.Twice, (λ e. cc), k.1, refl))
  kinds file fault.PlusBuild k = inl (k.0, (tag.PlusBuild, (λ e. cc), k.1, refl))
  kinds file (fault.BadToken o) k = inr k
  kinds file fault.Syntax k = inr k

  one_text : (bytes : List ℕ) (f g : FileFault) → HasBadText bytes f → HasBadText bytes g → f ≡ g
  one_text bytes fault.BadExpression g a b = absurd a
  one_text bytes fault.Twice g a b = absurd a
  one_text bytes fault.PlusBuild g a b = absurd a
  one_text bytes (fault.BadToken o) fault.BadExpression a b = absurd b
  one_text bytes (fault.BadToken o) fault.Twice a b = absurd b
  one_text bytes (fault.BadToken o) fault.PlusBuild a b = absurd b
  one_text bytes (fault.BadToken o) (fault.BadToken u) a b = ap (λ (w : ℕ). fault.BadToken w) (below.offset bytes o u a b)
  one_text bytes (fault.BadToken o) fault.Syntax a b = absurd (below.apart bytes o b.0 a b.1)
  one_text bytes fault.Syntax fault.BadExpression a b = absurd b
  one_text bytes fault.Syntax fault.Twice a b = absurd b
  one_text bytes fault.Syntax fault.PlusBuild a b = absurd b
  one_text bytes fault.Syntax (fault.BadToken o) a b = absurd (below.apart bytes o a.0 b a.1)
  one_text bytes fault.Syntax fault.Syntax a b = refl

  fault_by : (file : TreeFile) (f g : FileFault) → (IsAllowed p file × OfHeader file f) ⊎ OfText file f → (IsAllowed p file × OfHeader file g) ⊎ OfText file g → f ≡ g
  fault_by file f g (inl a) (inl b) = sym a.1.3 ∙ ap of_tag (below.cause file.bytes a.1.0 b.1.0 a.1.1 b.1.1 a.1.2 b.1.2) ∙ b.1.3
  fault_by file f g (inl a) (inr b) = absurd (below.either file.bytes b.0.0 a.1.0 a.1.1 a.1.2 b.0.1.has)
  fault_by file f g (inr a) (inl b) = absurd (below.either file.bytes a.0.0 b.1.0 b.1.1 b.1.2 a.0.1.has)
  fault_by file f g (inr a) (inr b) = one_text file.bytes f g a.1 b.1

  one_fault : (file : TreeFile) (f g : FileFault) → IsFaultyFile p file f → IsFaultyFile p file g → f ≡ g
  one_fault file f g a b = fault_by file f g (kinds file f a) (kinds file g b)

  bad_text : (file : TreeFile) (f : FileFault) (x : ParsedFile) → HasBadText file.bytes f → IsParsed file x → ⊥
  bad_text file fault.BadExpression x a b = a
  bad_text file fault.Twice x a b = a
  bad_text file fault.PlusBuild x a b = a
  bad_text file (fault.BadToken n) x a b = below.apart file.bytes n b.tokens a b.are
  bad_text file fault.Syntax x a b =
      let ts : b.tokens ≡ a.0 = below.tokens file.bytes b.tokens a.0 b.are a.1 in
      a.2 x.source.outline x.blocks (subst (λ (t : List Token). HasOutline t x.source.outline) ts b.outline) (subst (λ (t : List Token). HasFileBlocks t x.source.outline x.blocks) ts b.blocks)

  left_by : (file : TreeFile) (f : FileFault) → IsLeftOut p file → (IsAllowed p file × OfHeader file f) ⊎ OfText file f → ⊥
  left_by file f (inl n) (inl b) = true≢false (sym b.0 ∙ n)
  left_by file f (inr l) (inl b) = below.either file.bytes l.0 b.1.0 b.1.1 b.1.2 l.1
  left_by file f l (inr b) = left_not_chosen below.header below.either p file b.0.0 l b.0.1

  read_by : (file : TreeFile) (x : ParsedFile) (f : FileFault) → IsChosen p file × IsParsed file x → (IsAllowed p file × OfHeader file f) ⊎ OfText file f → ⊥
  read_by file x f a (inl b) = below.either file.bytes a.0.0 b.1.0 b.1.1 b.1.2 a.0.1.has
  read_by file x f a (inr b) = bad_text file f x b.1 a.1

  -- a file that is read isn't refused
  not_refused : (file : TreeFile) (r : Option ParsedFile) (f : FileFault) → GivesParsed p file r → IsFaultyFile p file f → ⊥
  not_refused file None f a b = left_by file f a (kinds file f b)
  not_refused file (Some x) f a b = read_by file x f a (kinds file f b)

  -- ---- files

  abbrev IsRead : TreeFile → Type 0
  IsRead file = (r : Option ParsedFile) × GivesParsed p file r

  abbrev IsRefused : TreeFile → Type 0
  IsRefused file = (f : FileFault) × IsFaultyFile p file f

  given : (files : List TreeFile) (xs : List ParsedFile) → Gives (GivesParsed p) files xs → (file : TreeFile) → Has files file → IsRead file
  given files xs g file h = elim (gives_all (GivesParsed p) g file h) [ inl n ↦ (None, n) | inr s ↦ (Some s.0, s.2) ]

  pub all_parsed : (files : List TreeFile) (xs ys : List ParsedFile) → Gives (GivesParsed p) files xs → Gives (GivesParsed p) files ys → xs ≡ ys
  all_parsed files xs ys g h = gives_one (GivesParsed p) one_parsed files xs ys g h

  pub parsed_or_faulty : (files : List TreeFile) (xs : List ParsedFile) (at : List ℕ) (f : FileFault) → Gives (GivesParsed p) files xs → IsFirstFaulty p files at f → ⊥
  parsed_or_faulty files xs at f g r =
      let k = given files xs g r.file (subst (λ (fs : List TreeFile). Has fs r.file) (sym r.parts) (has_middle r.before r.after r.file)) in
      not_refused r.file k.0 f k.1 r.refused

  pub one_faulty : (files : List TreeFile) (at to : List ℕ) (f g : FileFault) → IsFirstFaulty p files at f → IsFirstFaulty p files to g → (at ≡ to) × (f ≡ g)
  one_faulty files at to f g a b =
      let same = same_first IsRead IsRefused (λ x k l. not_refused x k.0 l.0 k.1 l.1) a.before b.before a.after b.after a.file b.file (sym a.parts ∙ b.parts) (given a.before a.earlier a.read) (given b.before b.earlier b.read) (f, a.refused) (g, b.refused) in
      (sym a.place ∙ ap path_of same ∙ b.place, one_fault b.file f g (subst (λ (x : TreeFile). IsFaultyFile p x f) same a.refused) b.refused)
