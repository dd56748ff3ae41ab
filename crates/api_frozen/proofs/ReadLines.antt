-- Lines of a file that are read one after another.
use Rattle.std.proofs.Common.{◌≡◌, ℕ, suc, ◌+◌, ◌<◌, ◌≤◌, true, false, List, [], ◌∷◌, ◌++◌, map, length, take, drop, get_or, sym, ap, subst, arith}
use Rattle.std.specs.Str.Lines.{lines, lines_of_parts}
use denote.Ref.{Bor}
use Rattle.std.specs.Prelude.{◌==◌}
use Rattle.std.proofs.lemmas.List.{length-map}
use Rattle.std.specs.List.{slice_split}
use Rattle.std.proofs.lemmas.List.Sums.{count_by-le-length}
use Rattle.std.proofs.lemmas.List.Splits.{length-slice_split}
use Rattle.go_base.proofs.Lists.{split_at, length_take}
use Rattle.api_lines.proofs.Growing.{taken}
use Rattle.api_frozen.specs.LineShapes.{IsFeatureLine}
use Rattle.api_frozen.specs.FrozenFiles.{is_skipped, AreFrozen, frozen_none, frozen_skipped, frozen_line, IsCut, IsBad, IsFirstBad}
use Rattle.api_frozen.specs.inner.Readings.{AddsLine}

skipped_back : {lines texts : List (List ℕ)} (line : List ℕ) → AreFrozen lines texts → is_skipped line ≡ true → AreFrozen (lines ++ line ∷ []) texts
skipped_back line frozen_none s = frozen_skipped s frozen_none
skipped_back line (frozen_skipped t d) s = frozen_skipped t (skipped_back line d s)
skipped_back line (frozen_line t u v d) s = frozen_line t u v (skipped_back line d s)

line_back : {lines texts : List (List ℕ)} (line text : List ℕ) → AreFrozen lines texts → is_skipped line ≡ false → IsCut line text → IsFeatureLine text → AreFrozen (lines ++ line ∷ []) (texts ++ text ∷ [])
line_back line text frozen_none s c f = frozen_line s c f frozen_none
line_back line text (frozen_skipped t d) s c f = frozen_skipped t (line_back line text d s c f)
line_back line text (frozen_line t u v d) s c f = frozen_line t u v (line_back line text d s c f)

pub adds_skipped : (line : List ℕ) (texts : List (List ℕ)) → is_skipped line ≡ true → AddsLine line texts texts true
adds_skipped line texts s before d = skipped_back line d s

pub adds_line : (line text : List ℕ) (old new : List (List ℕ)) → is_skipped line ≡ false → IsCut line text → IsFeatureLine text → new ≡ old ++ text ∷ [] → AddsLine line old new true
adds_line line text old new s c f e before d = subst (AreFrozen (before ++ line ∷ [])) (sym e) (line_back line text d s c f)

pub frozen_next : (all : List (List ℕ)) (i : ℕ) (line : List ℕ) (old new : List (List ℕ)) → i < length all → line ≡ get_or all i line → AreFrozen (take i all) old → AddsLine line old new true → AreFrozen (take (i + 1) all) new
frozen_next all i line old new h is d a = subst (λ (w : List (List ℕ)). AreFrozen w new) (sym (taken all i line h is)) (a (take i all) d)

pub first_bad : (all : List (List ℕ)) (i : ℕ) (line : List ℕ) (texts : List (List ℕ)) → i < length all → line ≡ get_or all i line → AreFrozen (take i all) texts → IsBad line → IsFirstBad all (i + 1)
first_bad all i line texts h is d b =
    (take i all, line, drop (suc i) all, texts, split_at i all line line h (sym is), d, b, ap (λ n. n + 1) (sym (length_take i all (omega arith))))

parts_shorter : (parts : List (List ℕ)) → length (lines_of_parts parts) ≤ length parts
parts_shorter [] = omega arith
parts_shorter (x ∷ []) = grind arith
parts_shorter (x ∷ y ∷ more) = let k = parts_shorter (y ∷ more) in omega (arith, k)

pub lines_within : (bytes : List ℕ) → length (lines bytes) ≤ length bytes + 1
lines_within bytes = omega (arith, parts_shorter (slice_split (λ b. b == 10) bytes), length-slice_split (λ b. b == 10) bytes, count_by-le-length (λ b. b == 10) bytes)

-- a file has few lines
pub few_lines : (bytes text : List ℕ) (items all : List (Bor (List ℕ))) → length bytes ≤ 16777216 → text ≡ bytes → map (λ line. line.now) items ≡ lines text → all ≡ items → length all < 4294967296
few_lines bytes text items all h e m a = omega (arith, h, ap length e, ap length m, ap length a, length-map items (λ (line : Bor (List ℕ)). line.now), lines_within text)
