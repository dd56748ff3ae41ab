-- What is broken has a list, as it is told.
use Rattle.std.proofs.Common.{◌≡◌, List, refl, sym}
use Rattle.api_break_outcomes.proofs.BreakSets.{breaks_finite}
use Rattle.api_breaks.specs.Breaks.{IsBreak}
use Rattle.api_breaks.specs.declared.broken.Break.{Break}
use Rattle.api_judge.specs.Verdicts.{AreBreaks, IsToldBreak}
use Rattle.api_subjects.specs.Told.{IsTold, printed}
use Rattle.api_subjects.specs.declared.broken.Broken.{Broken}
use Rattle.go_existence.specs.Existence.{AreFinite, NotNone}
use Rattle.go_existence.proofs.DoubleNegation.{so}
use Rattle.go_existence.proofs.FiniteSets.{finite_one, finite_over}
use Rattle.go_existence.proofs.OrderedTexts.{in_order, strictly}
use Rattle.go_model.specs.worlds.Worlds.{Packages}

module _ (one : (old new : Packages) (b : Break) (x y : Broken) → IsTold old new b x → IsTold old new b y → x ≡ y) (old new : Packages) where
  told_finite : AreFinite (IsToldBreak old new)
  told_finite = finite_over (IsBreak old new) (IsTold old new) (breaks_finite old new) (λ b h. finite_one (IsTold old new b) (one old new b))

  pub breaks_listed : NotNone ((breaks : List Broken) × AreBreaks old new breaks)
  breaks_listed = so (in_order printed (IsToldBreak old new) told_finite) (λ k. (k.0, record { sound = k.1.sound; complete = k.1.complete; ordered = strictly printed k.0 k.2 }))
