-- Two worlds have a verdict.
use Rattle.std.proofs.Common.{◌≡◌, ◌↔◌, ◌⊎◌, Bool, true, false, List, [], ◌∷◌, refl, sym, inl, inr}
use mathlib.Core.Bool.{true≢false}
use Rattle.std.specs.Prelude.{Decides}
use Rattle.api_break_outcomes.proofs.HeldPairs.{pairs_held}
use Rattle.api_break_outcomes.proofs.Kept.{all_kept}
use Rattle.api_break_outcomes.proofs.ToldBreaks.{breaks_listed}
use Rattle.api_breaks.specs.Breaks.{IsBreak}
use Rattle.api_breaks.specs.declared.broken.Break.{Break}
use Rattle.api_correspond.specs.Rules.{Compatible}
use Rattle.api_further_breaks.proofs.NoBreak.{kept_whole}
use Rattle.api_judge.specs.Verdicts.{AreBreaks, HaveSameFeatures, IsVerdict}
use Rattle.api_judge.specs.declared.verdict.Verdict.{Verdict}
use Rattle.api_subjects.specs.Told.{IsTold}
use Rattle.api_subjects.specs.declared.broken.Broken.{Broken}
use Rattle.go_existence.specs.Existence.{NotNone}
use Rattle.go_existence.proofs.DoubleNegation.{bind, decided, so, sure}
use Rattle.go_model.specs.worlds.Worlds.{Packages}

told_by : (A : Type 0) → NotNone ((b : Bool) × Decides b A)
told_by A = so (decided A) (λ d. elim d [ inl a ↦ (true, ((λ e. a), (λ k. refl))) | inr never ↦ (false, ((λ e. absurd (true≢false (sym e))), (λ k. absurd (never k)))) ])

some_cons : (b : Broken) (bs : List Broken) → b ∷ bs ≡ [] → ⊥
some_cons b bs e = cc

module _ (one : (old new : Packages) (b : Break) (x y : Broken) → IsTold old new b x → IsTold old new b y → x ≡ y)
    (told : (old new : Packages) (b : Break) → (x : Broken) × IsTold old new b x) (old new : Packages) where
  none_told : AreBreaks old new [] → (b : Break) → IsBreak old new b → ⊥
  none_told a b k = let t = told old new b in (a.complete t.0 (b, k, t.1)).1

  exactly : (breaks : List Broken) → AreBreaks old new breaks → NotNone ((breaks ≡ []) ↔ Compatible old new)
  exactly [] a = so (all_kept old new (none_told a)) (λ c. ((λ e. c), (λ k. refl)))
  exactly (b ∷ bs) a = sure ((λ e. absurd (some_cons b bs e)), (λ c. absurd (let t = a.sound b (inl refl) in kept_whole old new c t.0 t.1)))

  pub verdict_there : NotNone ((v : Verdict) × IsVerdict old new v)
  verdict_there =
      bind (breaks_listed one old new) (λ a. bind (exactly a.0 a.1) (λ c. bind (pairs_held old new) (λ h. so (told_by (HaveSameFeatures old new → ⊥)) (λ d.
      (record { breaks = a.0; changed = d.0 }, record { breaks = a.1; compatible = c; held = h; changed = d.1 })))))
