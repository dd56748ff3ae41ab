-- What verdicts say is one thing.
use Rattle.std.proofs.Common.{◌≡◌, ◌≢◌, ℕ, Bool, List, map, sym, ◌∙◌, subst}
use Rattle.std.specs.Prelude.{Decides}
use Rattle.std.specs.Bool.{one_answer}
use Rattle.go_base.specs.Lists.{Has}
use Rattle.go_model.specs.worlds.Worlds.{Packages}
use Rattle.api_features.specs.Features.{IsFeature}
use Rattle.api_judge.specs.Verdicts.{AreBreaks, HasFeature, HaveSameFeatures, IsVerdict}
use Rattle.api_judge.specs.declared.verdict.Verdict.{Verdict}
use Rattle.api_judge.proofs.SortedTexts.{same_lists}
use Rattle.api_lines.proofs.OrderedTexts.{has_map, map_has}
use Rattle.api_lines.specs.Lines.{IsListing, printed as line_text}
use Rattle.api_lines.specs.declared.line.Line.{Line}
use Rattle.api_subjects.specs.Told.{printed}
use Rattle.api_subjects.specs.declared.broken.Broken.{Broken}

-- the texts of a listing are those of the features

listed : (w : Packages) (lines : List Line) → IsListing (IsFeature w) lines → (text : List ℕ) → HasFeature w text → Has (map line_text lines) text
listed w lines l text h = let k = l.complete h.0 h.1 in subst (Has (map line_text lines)) (k.2 ∙ h.2) (has_map line_text lines k.0 k.1)

shown : (w : Packages) (lines : List Line) → IsListing (IsFeature w) lines → (text : List ℕ) → Has (map line_text lines) text → HasFeature w text
shown w lines l text h = let k = map_has line_text lines text h in (k.0, l.sound k.0 k.1, k.2)

module _ (old new : Packages) (before after : List Line) (a : IsListing (IsFeature old) before) (b : IsListing (IsFeature new) after) where
  same_texts : HaveSameFeatures old new → map line_text before ≡ map line_text after
  same_texts same =
      same_lists (map line_text before) (map line_text after) a.ordered b.ordered
      (λ text h. listed new after b text ((same text).0 (shown old before a text h)))
      (λ text h. listed old before a text ((same text).1 (shown new after b text h)))

  same_features : map line_text before ≡ map line_text after → HaveSameFeatures old new
  same_features e text = (
    (λ h. shown new after b text (subst (λ (w : List (List ℕ)). Has w text) e (listed old before a text h))),
    (λ h. shown old before a text (subst (λ (w : List (List ℕ)). Has w text) (sym e) (listed new after b text h))),
  )

  -- features differ exactly where their lists do
  pub decided : (changed : Bool) → Decides changed (map line_text before ≢ map line_text after) → Decides changed (HaveSameFeatures old new → ⊥)
  decided changed d = ((λ e same. d.0 e (same_texts same)), (λ apart. d.1 (λ e. apart (same_features e))))

covered : (old new : Packages) (xs ys : List Broken) → AreBreaks old new xs → AreBreaks old new ys → (text : List ℕ) → Has (map printed xs) text → Has (map printed ys) text
covered old new xs ys a b text h =
    let k = map_has printed xs text h in
    let p = b.complete k.0 (a.sound k.0 k.1) in
    subst (Has (map printed ys)) (p.2 ∙ k.2) (has_map printed ys p.0 p.1)

pub one_verdict : (old new : Packages) (v w : Verdict) → IsVerdict old new v → IsVerdict old new w → (map printed v.breaks ≡ map printed w.breaks) × (v.changed ≡ w.changed)
one_verdict old new v w a b = (
  same_lists (map printed v.breaks) (map printed w.breaks) a.breaks.ordered b.breaks.ordered (covered old new v.breaks w.breaks a.breaks b.breaks) (covered old new w.breaks v.breaks b.breaks a.breaks),
  one_answer v.changed w.changed a.changed b.changed,
)
