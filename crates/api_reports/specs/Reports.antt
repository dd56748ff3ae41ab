-- The texts of reports: feature lines, signed lines, verdicts, classes, versions, and what the generator's trees have.
-- Public source: the lines that Go's cmd/api writes to its files api/go1.txt and later, and the signs with which it prints what differs from them. Own: all other lines.
use Rattle.std.specs.Prelude.{ℕ, zero, suc, nat_eq, ◌+◌, Bool, true, false, if◌then◌else◌, List, [], ◌∷◌, ◌++◌, length, map, codes}
use Rattle.std.specs.Fmt.{decimal}
use Rattle.std.specs.List.{list_any}
use Rattle.go_model.specs.declared.files.platform.Platform.{Platform}
use Rattle.go_model.specs.files.Platforms.{name_of}
use Rattle.api_advice.specs.declared.class.Class.{Class}
use Rattle.api_advice.specs.declared.class.Class.TheVariants as class
use Rattle.api_advice.specs.declared.release.Release.{Release}
use Rattle.api_frozen.specs.declared.signed.Signed.{Signed}
use Rattle.api_judge.specs.Verdicts.{class_of, has_break}
use Rattle.api_judge.specs.declared.verdict.Verdict.{Verdict}
use Rattle.api_lines.specs.Lines.{printed}
use Rattle.api_lines.specs.declared.line.Line.{Line}
use Rattle.api_subjects.specs.Told.{printed as break_text}
use Rattle.api_subjects.specs.declared.broken.Broken.{Broken}
use Rattle.api_texts.specs.FaultLines.{side_name}
use Rattle.api_texts.specs.declared.left_out.LeftOut.{LeftOut}
use Rattle.api_texts.specs.declared.lines.Side.{Side}
use Rattle.api_texts.specs.declared.lines.Side.TheVariants as side

-- the lines, each ended by a newline
abbrev pub unlines : List (List ℕ) → List ℕ
unlines [] = []
unlines (line ∷ lines) = line ++ 10 ∷ unlines lines

-- the text of feature lines
abbrev pub features_text : List Line → List ℕ
features_text lines = unlines (map printed lines)

-- `-` before a lost line, and `+` before a new one
abbrev pub sign_of : Bool → ℕ
sign_of true = 45
sign_of false = 43

-- a line behind its sign
abbrev pub signed : Signed → List ℕ
signed s = sign_of s.lost ∷ s.line

-- the text of lost and new lines
abbrev pub signed_text : List Signed → List ℕ
signed_text lines = unlines (map signed lines)

-- the line is lost
abbrev pub is_lost : Signed → Bool
is_lost s = s.lost

-- one of the lines is lost
abbrev pub has_loss : List Signed → Bool
has_loss lines = list_any is_lost lines

-- the lines of each platform, which has what stands in the same place of the list
abbrev pub by_platform : {A : Type 0} → (Platform → A → List (List ℕ)) → List Platform → List A → List (List ℕ)
by_platform lines_of [] xs = []
by_platform lines_of (p ∷ ps) [] = []
by_platform lines_of (p ∷ ps) (x ∷ xs) = lines_of p x ++ by_platform lines_of ps xs

-- ---- what was left out

-- the line of a declaration that was left out on a platform
abbrev pub skipped_line : Platform → List ℕ → List ℕ
skipped_line p declaration = codes "skipped " ++ name_of p ++ codes " " ++ declaration

-- those of a platform's new tree
abbrev pub skipped_lines : Platform → LeftOut → List (List ℕ)
skipped_lines p l = map (skipped_line p) l.new

-- the declarations that were left out, on all platforms
abbrev pub skipped_text : List Platform → List LeftOut → List ℕ
skipped_text ps ls = unlines (by_platform skipped_lines ps ls)

-- the line of how many were left out of a tree on a platform
abbrev pub count_line : Side → Platform → ℕ → List ℕ
count_line s p n = codes "skipped " ++ side_name s ++ codes " " ++ name_of p ++ codes " " ++ decimal n

-- that, where some were
abbrev pub count_lines : Side → Platform → ℕ → List (List ℕ)
count_lines s p zero = []
count_lines s p (suc n) = count_line s p (suc n) ∷ []

-- of the old tree and of the new one
abbrev pub counted_lines : Platform → LeftOut → List (List ℕ)
counted_lines p l = count_lines side.Old p l.old ++ count_lines side.New p (length l.new)

-- how many were left out, on all platforms
abbrev pub counted_text : List Platform → List LeftOut → List ℕ
counted_text ps ls = unlines (by_platform counted_lines ps ls)

-- ---- verdicts

-- the word for a verdict, by whether something is broken
abbrev pub verdict_word : Bool → List ℕ
verdict_word true = codes "incompatible"
verdict_word false = codes "compatible"

-- the line of what is broken on a platform
abbrev pub break_line : Platform → Broken → List ℕ
break_line p b = codes "break " ++ name_of p ++ codes " " ++ break_text b

-- a platform's verdict, and what is broken there
abbrev pub platform_lines : Platform → Verdict → List (List ℕ)
platform_lines p v = (codes "judge " ++ name_of p ++ codes ": " ++ verdict_word (has_break v)) ∷ map (break_line p) v.breaks

-- those of all platforms
abbrev pub verdict_lines : List Platform → List Verdict → List (List ℕ)
verdict_lines = by_platform platform_lines

-- the word for a class, and its line
abbrev pub class_name : Class → List ℕ
class_name class.Major = codes "major"
class_name class.Minor = codes "minor"
class_name class.Patch = codes "patch"

abbrev pub class_line : Class → List ℕ
class_line c = codes "class " ++ class_name c

-- the class alone
abbrev pub class_text : Class → List ℕ
class_text c = unlines (class_line c ∷ [])

-- how many declarations were left out, and then the class
abbrev pub counted_class_text : List Platform → List LeftOut → Class → List ℕ
counted_class_text ps ls c = counted_text ps ls ++ class_text c

-- the verdicts on all platforms, and then that
abbrev pub judge_text : List Platform → List Verdict → List LeftOut → List ℕ
judge_text ps vs ls = unlines (verdict_lines ps vs) ++ counted_class_text ps ls (class_of vs)

-- ---- versions

-- the `v` in front of a version, where it is written so
abbrev pub v_of : List ℕ → List ℕ
v_of [] = []
v_of (b ∷ bytes) = if nat_eq b 118 then codes "v" else []

-- the three numbers of a release
abbrev pub release_text : Release → List ℕ
release_text r = decimal r.major ++ codes "." ++ decimal r.minor ++ codes "." ++ decimal r.patch

-- the version that is advised, written as the last one was
abbrev pub version_text : List ℕ → Release → List ℕ
version_text last r = unlines ((codes "version " ++ v_of last ++ release_text r) ∷ [])

-- ---- the generator's trees

-- how much is broken on all platforms
abbrev pub count_breaks : List Verdict → ℕ
count_breaks [] = 0
count_breaks (v ∷ vs) = length v.breaks + count_breaks vs

-- the numbers of packages, of feature lines and of what is broken
abbrev pub made_text : ℕ → ℕ → ℕ → List ℕ
made_text packages lines breaks = unlines ((codes "packages " ++ decimal packages) ∷ (codes "lines " ++ decimal lines) ∷ (codes "breaks " ++ decimal breaks) ∷ [])
