-- Verdicts that are shown the same have one class and the same texts.
use Rattle.std.proofs.Common.{◌≡◌, ℕ, ◌+◌, ◌==◌, not, Bool, ◌||◌, if◌then◌else◌, List, [], ◌∷◌, ◌++◌, length, map, refl, sym, ap, ◌∙◌}
use Rattle.std.proofs.lemmas.List.{length-map}
use Rattle.std.specs.List.{list_any}
use Rattle.api_advice.specs.declared.class.Class.TheVariants as class
use Rattle.api_findings.specs.Findings.{Shown, shown}
use Rattle.api_judge.specs.Verdicts.{class_of, has_break, is_changed}
use Rattle.api_judge.specs.declared.verdict.Verdict.{Verdict}
use Rattle.api_reports.specs.Reports.{break_line, count_breaks, counted_class_text, judge_text, platform_lines, unlines, verdict_lines, verdict_word}
use Rattle.api_subjects.specs.Told.{printed}
use Rattle.api_subjects.specs.declared.broken.Broken.{Broken}
use Rattle.api_texts.specs.declared.left_out.LeftOut.{LeftOut}
use Rattle.go_model.specs.declared.files.platform.Platform.{Platform}
use Rattle.std.specs.Prelude.{codes}
use Rattle.go_model.specs.files.Platforms.{name_of}

-- ---- one verdict

texts_of : (v w : Verdict) → shown v ≡ shown w → map printed v.breaks ≡ map printed w.breaks
texts_of v w e = (λ i. (e i).breaks)

number_by : (v w : Verdict) → shown v ≡ shown w → length v.breaks ≡ length w.breaks
number_by v w e = sym (length-map v.breaks printed) ∙ ap length (texts_of v w e) ∙ length-map w.breaks printed

break_by : (v w : Verdict) → shown v ≡ shown w → has_break v ≡ has_break w
break_by v w e = let number = number_by v w e in (λ i. not (number i == 0))

change_by : (v w : Verdict) → shown v ≡ shown w → v.changed ≡ w.changed
change_by v w e = (λ i. (e i).changed)

lines_by : (p : Platform) (bs cs : List Broken) → map printed bs ≡ map printed cs → map (break_line p) bs ≡ map (break_line p) cs
lines_by p [] [] e = refl
lines_by p [] (c ∷ cs) e = absurd (cc)
lines_by p (x ∷ bs) [] e = absurd (cc)
lines_by p (x ∷ bs) (c ∷ cs) e =
    let head : printed x ≡ printed c = cc in
    let rest : map (break_line p) bs ≡ map (break_line p) cs = lines_by p bs cs (let k : map printed bs ≡ map printed cs = cc in k) in
    (λ i. (codes "break " ++ name_of p ++ codes " " ++ head i) ∷ rest i)

platform_by : (p : Platform) (v w : Verdict) → shown v ≡ shown w → platform_lines p v ≡ platform_lines p w
platform_by p v w e =
    let some : has_break v ≡ has_break w = break_by v w e in
    let rest : map (break_line p) v.breaks ≡ map (break_line p) w.breaks = lines_by p v.breaks w.breaks (texts_of v w e) in
    (λ i. (codes "judge " ++ name_of p ++ codes ": " ++ verdict_word (some i)) ∷ rest i)

-- ---- all verdicts

pub breaks_by : (vs ws : List Verdict) → map shown vs ≡ map shown ws → list_any has_break vs ≡ list_any has_break ws
breaks_by [] [] e = refl
breaks_by [] (w ∷ ws) e = absurd (cc)
breaks_by (v ∷ vs) [] e = absurd (cc)
breaks_by (v ∷ vs) (w ∷ ws) e =
    let here : has_break v ≡ has_break w = break_by v w (let k : shown v ≡ shown w = cc in k) in
    let rest : list_any has_break vs ≡ list_any has_break ws = breaks_by vs ws (let k : map shown vs ≡ map shown ws = cc in k) in
    (λ i. here i || rest i)

changes_by : (vs ws : List Verdict) → map shown vs ≡ map shown ws → list_any is_changed vs ≡ list_any is_changed ws
changes_by [] [] e = refl
changes_by [] (w ∷ ws) e = absurd (cc)
changes_by (v ∷ vs) [] e = absurd (cc)
changes_by (v ∷ vs) (w ∷ ws) e =
    let here : v.changed ≡ w.changed = change_by v w (let k : shown v ≡ shown w = cc in k) in
    let rest : list_any is_changed vs ≡ list_any is_changed ws = changes_by vs ws (let k : map shown vs ≡ map shown ws = cc in k) in
    (λ i. here i || rest i)

pub class_by : (vs ws : List Verdict) → map shown vs ≡ map shown ws → class_of vs ≡ class_of ws
class_by vs ws e =
    let broken : list_any has_break vs ≡ list_any has_break ws = breaks_by vs ws e in
    let changed : list_any is_changed vs ≡ list_any is_changed ws = changes_by vs ws e in
    (λ i. if broken i then class.Major else (if changed i then class.Minor else class.Patch))

verdicts_by : (ps : List Platform) (vs ws : List Verdict) → map shown vs ≡ map shown ws → verdict_lines ps vs ≡ verdict_lines ps ws
verdicts_by [] vs ws e = refl
verdicts_by (p ∷ ps) [] [] e = refl
verdicts_by (p ∷ ps) [] (w ∷ ws) e = absurd (cc)
verdicts_by (p ∷ ps) (v ∷ vs) [] e = absurd (cc)
verdicts_by (p ∷ ps) (v ∷ vs) (w ∷ ws) e =
    let here : platform_lines p v ≡ platform_lines p w = platform_by p v w (let k : shown v ≡ shown w = cc in k) in
    let rest : verdict_lines ps vs ≡ verdict_lines ps ws = verdicts_by ps vs ws (let k : map shown vs ≡ map shown ws = cc in k) in
    (λ i. here i ++ rest i)

pub judge_by : (ps : List Platform) (vs ws : List Verdict) (ls : List LeftOut) → map shown vs ≡ map shown ws → judge_text ps vs ls ≡ judge_text ps ws ls
judge_by ps vs ws ls e =
    let lines : verdict_lines ps vs ≡ verdict_lines ps ws = verdicts_by ps vs ws e in
    let class : class_of vs ≡ class_of ws = class_by vs ws e in
    (λ i. unlines (lines i) ++ counted_class_text ps ls (class i))

pub count_by : (vs ws : List Verdict) → map shown vs ≡ map shown ws → count_breaks vs ≡ count_breaks ws
count_by [] [] e = refl
count_by [] (w ∷ ws) e = absurd (cc)
count_by (v ∷ vs) [] e = absurd (cc)
count_by (v ∷ vs) (w ∷ ws) e =
    let here : length v.breaks ≡ length w.breaks = number_by v w (let k : shown v ≡ shown w = cc in k) in
    let rest : count_breaks vs ≡ count_breaks ws = count_by vs ws (let k : map shown vs ≡ map shown ws = cc in k) in
    (λ i. here i + rest i)
