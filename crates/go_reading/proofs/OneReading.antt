-- The files of a folder give one reading.
use Rattle.std.proofs.Common.{◌≡◌, ℕ, Option, Some, None, List, [], ◌∷◌, ◌++◌, drop, refl, sym, ap, ◌∙◌, subst, ◌⊎◌, inl, inr, append_assoc}
use mathlib.Core.Bool.{true≢false}
use Rattle.std.proofs.lemmas.List.{append-nil}
use Rattle.go_base.specs.Lists.{Has}
use Rattle.go_imports.specs.Gives.{Gives, none, next, optional}
use Rattle.go_imports.specs.Outlines.{IsOutlineOf}
use Rattle.go_imports.specs.declared.package_files.SourceFile.{SourceFile}
use Rattle.go_model.specs.declared.files.build.Header.{Header}
use Rattle.go_model.specs.declared.files.platform.Platform.{Platform}
use Rattle.go_model.specs.declared.files.tree.TreeFile.{TreeFile}
use Rattle.go_model.specs.files.Headers.{IsHeader}
use Rattle.go_reading.proofs.PackageNames.{left_not_chosen}
use Rattle.go_reading.specs.ChosenFiles.{IsAllowed, IsChosen, IsLeftOut, IsFaulty, IsSource, GivesSource, path_of}
use Rattle.go_reading.specs.FolderReadings.{IsFirstRefused, IsReading}
use Rattle.go_reading.specs.inner.SourceCauses.{HasBadText}
use Rattle.go_syntax.specs.declared.declaration.File.{File}
use Rattle.go_syntax.specs.declared.token.Token.{Token}
use Rattle.go_syntax.specs.grammar.SourceFiles.{HasOutline}
use Rattle.go_syntax.specs.lexical.Lexemes.{IsBadOffset}
use Rattle.go_syntax.specs.lexical.Tokens.{IsTokens}
use Rattle.go_tags.specs.HeaderCauses.{HasCause, IsOwnCause}
use Rattle.go_tags.specs.declared.error.TagError.{TagError}
use Rattle.go_tags.specs.declared.error.TagError.TheVariants as tag
use Rattle.go_units.proofs.Giving.{gives_all}
use Rattle.go_units.specs.declared.reader.FileFault.{FileFault}
use Rattle.go_units.specs.declared.reader.FileFault.TheVariants as fault
use Rattle.go_units.specs.declared.reader.Reading.{Reading}
use Rattle.go_units.specs.declared.reader.Reading.TheVariants as reading

module _ {A B : Type 0} (R : A → Option B → Type 0) where
  -- what the items give, from the front
  Front : List A → List B → Type 0
  Front [] ys = ys ≡ []
  Front (x ∷ xs) ys = (r : Option B) × (zs : List B) × R x r × Front xs zs × (ys ≡ optional r ++ zs)

  front_more : (xs : List A) (ys : List B) (x : A) (r : Option B) → Front xs ys → R x r → Front (xs ++ x ∷ []) (ys ++ optional r)
  unfolding Front
  front_more [] ys x r f k = (r, [], k, refl, ap (λ (w : List B). w ++ optional r) f ∙ sym (append-nil (optional r)))
  front_more (z ∷ xs) ys x r f k = (f.0, f.1 ++ optional r, f.2, front_more xs f.1 x r f.3 k, ap (λ (w : List B). w ++ optional r) f.4 ∙ append_assoc (optional f.0) f.1 (optional r))

  to_front : {xs : List A} {ys : List B} → Gives R xs ys → Front xs ys
  unfolding Front
  to_front none = refl
  to_front (next {xs = xs} {ys = ys} x r g k) = front_more xs ys x r (to_front g) k

  front_one : ((x : A) (r s : Option B) → R x r → R x s → r ≡ s) → (xs : List A) (ys zs : List B) → Front xs ys → Front xs zs → ys ≡ zs
  unfolding Front
  front_one one [] ys zs f g = f ∙ sym g
  front_one one (x ∷ xs) ys zs f g = f.4 ∙ (λ i. optional (one x f.0 g.0 f.2 g.2 i) ++ front_one one xs f.1 g.1 f.3 g.3 i) ∙ sym g.4

  -- items that give one thing each give one list
  pub gives_one : ((x : A) (r s : Option B) → R x r → R x s → r ≡ s) → (xs : List A) (ys zs : List B) → Gives R xs ys → Gives R xs zs → ys ≡ zs
  gives_one one xs ys zs g h = front_one one xs ys zs (to_front g) (to_front h)

has_middle : {A : Type 0} (xs ys : List A) (x : A) → Has (xs ++ x ∷ ys) x
has_middle [] ys x = inl refl
has_middle (z ∷ xs) ys x = inr (has_middle xs ys x)

-- the first of the bad items is one
same_first : {A : Type 0} (Good Bad : A → Type 0) → ((x : A) → Good x → Bad x → ⊥) → (b c more bs : List A) (x y : A) → b ++ x ∷ more ≡ c ++ y ∷ bs → ((z : A) → Has b z → Good z) → ((z : A) → Has c z → Good z) → Bad x → Bad y → x ≡ y
same_first Good Bad apart [] [] more bs x y e g h k l = cc
same_first Good Bad apart [] (z ∷ c) more bs x y e g h k l = absurd (apart z (h z (inl refl)) (subst Bad (let s : x ≡ z = cc in s) k))
same_first Good Bad apart (z ∷ b) [] more bs x y e g h k l = absurd (apart z (g z (inl refl)) (subst Bad (let s : y ≡ z = cc in s) l))
same_first {A = A} Good Bad apart (z ∷ b) (w ∷ c) more bs x y e g h k l = same_first Good Bad apart b c more bs x y (ap (λ (q : List A). drop 1 q) e) (λ v i. g v (inr i)) (λ v i. h v (inr i)) k l

of_tag : TagError → FileFault
of_tag tag.BadExpression = fault.BadExpression
of_tag tag.Twice = fault.Twice
of_tag tag.PlusBuild = fault.PlusBuild
of_tag tag.NoMemory = fault.Syntax

module _ (one : (bytes : List ℕ) (a b : Header) → IsHeader bytes a → IsHeader bytes b → a ≡ b) (cause : (bytes : List ℕ) (a b : TagError) → IsOwnCause a → IsOwnCause b → HasCause bytes a → HasCause bytes b → a ≡ b)
    (either : (bytes : List ℕ) (h : Header) (e : TagError) → IsOwnCause e → HasCause bytes e → IsHeader bytes h → ⊥)
    (tokens : (bytes : List ℕ) (a b : List Token) → IsTokens bytes a → IsTokens bytes b → a ≡ b) (offset : (bytes : List ℕ) (a b : ℕ) → IsBadOffset bytes a → IsBadOffset bytes b → a ≡ b)
    (apart : (bytes : List ℕ) (o : ℕ) (ts : List Token) → IsBadOffset bytes o → IsTokens bytes ts → ⊥) (tree : (ts : List Token) (f g : File) → HasOutline ts f → HasOutline ts g → f ≡ g) (p : Platform) where
  one_outline : (bytes : List ℕ) (f g : File) → IsOutlineOf bytes f → IsOutlineOf bytes g → f ≡ g
  one_outline bytes f g a b = tree b.0 f g (subst (λ (ts : List Token). HasOutline ts f) (tokens bytes a.0 b.0 a.1 b.1) a.2) b.2

  same_source : (file : TreeFile) (s t : SourceFile) → IsSource file s → IsSource file t → s ≡ t
  same_source file s t a b =
      let path : s.path ≡ t.path = a.path ∙ sym b.path in
      let outline : s.outline ≡ t.outline = one_outline file.bytes s.outline t.outline a.outline b.outline in
      λ i. record { path = path i; outline = outline i }

  one_source : (file : TreeFile) (r s : Option SourceFile) → GivesSource p file r → GivesSource p file s → r ≡ s
  one_source file None None a b = refl
  one_source file None (Some t) a b = absurd (left_not_chosen one either p file b.0.0 a b.0.1)
  one_source file (Some s) None a b = absurd (left_not_chosen one either p file a.0.0 b a.0.1)
  one_source file (Some s) (Some t) a b = ap (λ (w : SourceFile). Some w) (same_source file s t a.1 b.1)

  -- a fault of the header, or of what is behind it
  abbrev OfHeader : TreeFile → FileFault → Type 0
  OfHeader file f = (e : TagError) × IsOwnCause e × HasCause file.bytes e × (of_tag e ≡ f)

  abbrev OfText : TreeFile → FileFault → Type 0
  OfText file f = IsChosen p file × HasBadText file.bytes f

  kinds : (file : TreeFile) (f : FileFault) → IsFaulty p file f → (IsAllowed p file × OfHeader file f) ⊎ OfText file f
  unfolding of_tag
  kinds file fault.BadExpression k = inl (k.0, (tag.BadExpression, (λ e. cc), k.1, refl))
  kinds file fault.Twice k = inl (k.0, (tag.Twice, (λ e. cc), k.1, refl))
  kinds file fault.PlusBuild k = inl (k.0, (tag.PlusBuild, (λ e. cc), k.1, refl))
  kinds file (fault.BadToken o) k = inr k
  kinds file fault.Syntax k = inr k

  one_text : (bytes : List ℕ) (f g : FileFault) → HasBadText bytes f → HasBadText bytes g → f ≡ g
  one_text bytes fault.BadExpression g a b = absurd a
  one_text bytes fault.Twice g a b = absurd a
  one_text bytes fault.PlusBuild g a b = absurd a
  one_text bytes (fault.BadToken o) fault.BadExpression a b = absurd b
  one_text bytes (fault.BadToken o) fault.Twice a b = absurd b
  one_text bytes (fault.BadToken o) fault.PlusBuild a b = absurd b
  one_text bytes (fault.BadToken o) (fault.BadToken u) a b = ap (λ (w : ℕ). fault.BadToken w) (offset bytes o u a b)
  one_text bytes (fault.BadToken o) fault.Syntax a b = absurd (apart bytes o b.0 a b.1)
  one_text bytes fault.Syntax fault.BadExpression a b = absurd b
  one_text bytes fault.Syntax fault.Twice a b = absurd b
  one_text bytes fault.Syntax fault.PlusBuild a b = absurd b
  one_text bytes fault.Syntax (fault.BadToken o) a b = absurd (apart bytes o a.0 b a.1)
  one_text bytes fault.Syntax fault.Syntax a b = refl

  fault_by : (file : TreeFile) (f g : FileFault) → (IsAllowed p file × OfHeader file f) ⊎ OfText file f → (IsAllowed p file × OfHeader file g) ⊎ OfText file g → f ≡ g
  fault_by file f g (inl a) (inl b) = sym a.1.3 ∙ ap of_tag (cause file.bytes a.1.0 b.1.0 a.1.1 b.1.1 a.1.2 b.1.2) ∙ b.1.3
  fault_by file f g (inl a) (inr b) = absurd (either file.bytes b.0.0 a.1.0 a.1.1 a.1.2 b.0.1.has)
  fault_by file f g (inr a) (inl b) = absurd (either file.bytes a.0.0 b.1.0 b.1.1 b.1.2 a.0.1.has)
  fault_by file f g (inr a) (inr b) = one_text file.bytes f g a.1 b.1

  one_fault : (file : TreeFile) (f g : FileFault) → IsFaulty p file f → IsFaulty p file g → f ≡ g
  one_fault file f g a b = fault_by file f g (kinds file f a) (kinds file g b)

  bad_text : (bytes : List ℕ) (f : FileFault) (outline : File) → HasBadText bytes f → IsOutlineOf bytes outline → ⊥
  bad_text bytes fault.BadExpression o a b = a
  bad_text bytes fault.Twice o a b = a
  bad_text bytes fault.PlusBuild o a b = a
  bad_text bytes (fault.BadToken n) o a b = apart bytes n b.0 a b.1
  bad_text bytes fault.Syntax o a b = a.2 o (subst (λ (ts : List Token). HasOutline ts o) (tokens bytes b.0 a.0 b.1 a.1) b.2)

  left_by : (file : TreeFile) (f : FileFault) → IsLeftOut p file → (IsAllowed p file × OfHeader file f) ⊎ OfText file f → ⊥
  left_by file f (inl n) (inl b) = true≢false (sym b.0 ∙ n)
  left_by file f (inr l) (inl b) = either file.bytes l.0 b.1.0 b.1.1 b.1.2 l.1
  left_by file f l (inr b) = left_not_chosen one either p file b.0.0 l b.0.1

  read_by : (file : TreeFile) (s : SourceFile) (f : FileFault) → IsChosen p file × IsSource file s → (IsAllowed p file × OfHeader file f) ⊎ OfText file f → ⊥
  read_by file s f a (inl b) = either file.bytes a.0.0 b.1.0 b.1.1 b.1.2 a.0.1.has
  read_by file s f a (inr b) = bad_text file.bytes f s.outline b.1 a.1.outline

  -- a file that is read isn't refused
  not_refused : (file : TreeFile) (r : Option SourceFile) (f : FileFault) → GivesSource p file r → IsFaulty p file f → ⊥
  not_refused file None f a b = left_by file f a (kinds file f b)
  not_refused file (Some s) f a b = read_by file s f a (kinds file f b)

  abbrev IsRead : TreeFile → Type 0
  IsRead file = (r : Option SourceFile) × GivesSource p file r

  abbrev IsRefused : TreeFile → Type 0
  IsRefused file = (f : FileFault) × IsFaulty p file f

  given : (files : List TreeFile) (sources : List SourceFile) → Gives (GivesSource p) files sources → (file : TreeFile) → Has files file → IsRead file
  given files sources g file h = elim (gives_all (GivesSource p) g file h) [ inl n ↦ (None, n) | inr s ↦ (Some s.0, s.2) ]

  all_or_one : (files : List TreeFile) (sources : List SourceFile) (at : List ℕ) (f : FileFault) → Gives (GivesSource p) files sources → IsFirstRefused (GivesSource p) (IsFaulty p) path_of files at f → ⊥
  all_or_one files sources at f g r =
      let k = given files sources g r.file (subst (λ (fs : List TreeFile). Has fs r.file) (sym r.parts) (has_middle r.before r.after r.file)) in
      not_refused r.file k.0 f k.1 r.refused

  one_first : (files : List TreeFile) (at to : List ℕ) (f g : FileFault) → IsFirstRefused (GivesSource p) (IsFaulty p) path_of files at f → IsFirstRefused (GivesSource p) (IsFaulty p) path_of files to g → reading.Refused at f ≡ reading.Refused to g
  one_first files at to f g a b =
      let same = same_first IsRead IsRefused (λ x k l. not_refused x k.0 l.0 k.1 l.1) a.before b.before a.after b.after a.file b.file (sym a.parts ∙ b.parts) (given a.before a.earlier a.read) (given b.before b.earlier b.read) (f, a.refused) (g, b.refused) in
      let path : at ≡ to = sym a.place ∙ ap path_of same ∙ b.place in
      let bad : f ≡ g = one_fault b.file f g (subst (λ (x : TreeFile). IsFaulty p x f) same a.refused) b.refused in
      λ i. reading.Refused (path i) (bad i)

  pub one_reading : (files : List TreeFile) (a b : Reading) → IsReading p files a → IsReading p files b → a ≡ b
  one_reading files (reading.Files s) (reading.Files t) a b = ap (λ (w : List SourceFile). reading.Files w) (gives_one (GivesSource p) (one_source) files s t a b)
  one_reading files (reading.Files s) (reading.Refused at f) a b = absurd (all_or_one files s at f a b)
  one_reading files (reading.Refused at f) (reading.Files t) a b = absurd (all_or_one files t at f b a)
  one_reading files (reading.Refused at f) (reading.Refused to g) a b = one_first files at to f g a b
