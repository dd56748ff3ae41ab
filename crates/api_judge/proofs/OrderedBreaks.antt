-- What is broken is told, and put in the order of its texts, each text once.
use Rattle.std.proofs.Common.{◌≡◌, ◌↔◌, List, [], sym, subst, inl, inr}
use Rattle.go_base.specs.Growing.{Grows}
use Rattle.go_base.specs.Lists.{Has}
use Rattle.go_model.specs.worlds.Worlds.{Packages}
use Rattle.go_selectors.proofs.Lists.{has_none}
use Rattle.api_breaks.specs.Breaks.{IsBreak}
use Rattle.api_breaks.specs.declared.broken.Break.{Break}
use Rattle.api_correspond.specs.Rules.{Compatible}
use Rattle.api_judge.specs.Verdicts.{AreBreaks}
use Rattle.api_judge.specs.inner.Listings.{IsToldOf}
use Rattle.api_lines.specs.OrderedTexts.{IsArranged}
use Rattle.api_lines.proofs.Growing.{grows_as}
use Rattle.api_subjects.proofs.EachTold.{told_some}
use Rattle.api_subjects.specs.Told.{IsTold, printed}
use Rattle.api_subjects.specs.declared.broken.Broken.{Broken}

-- what is told is all that can be told of it
pub grows_told : (old new : Packages) (k : Break) (told : Broken) (before after : List Broken) → IsTold old new k told → ((x : Broken) → IsTold old new k x → told ≡ x)
    → Grows (λ b. told ≡ b) before after → Grows (IsTold old new k) before after
grows_told old new k told before after is one g = grows_as (λ b. told ≡ b) (IsTold old new k) before after (λ x e. subst (IsTold old new k) e is) one g

pub all_told : (old new : Packages) (found : List Break) (all breaks : List Broken) → ((b : Break) → Has found b ↔ IsBreak old new b) → Grows (IsToldOf old new found) [] all → IsArranged printed all breaks
    → AreBreaks old new breaks
all_told old new found all breaks exact g l = record {
  sound = λ b h. elim (g.sound b (l.sound b h)) [ inl n ↦ absurd n | inr t ↦ (t.0, (exact t.0).0 t.1, t.2) ];
  complete = λ b t. let s = l.complete b (g.complete b (t.0, (exact t.0).1 t.1, t.2)) in (s.0, s.1, sym s.2);
  ordered = l.ordered;
}

-- each break has a text in the list, so the list is empty exactly where there is no break
pub none_untold : (old new : Packages) (found : List Break) (all breaks : List Broken) → Grows (IsToldOf old new found) [] all → IsArranged printed all breaks
    → (found ≡ []) ↔ Compatible old new → (breaks ≡ []) ↔ Compatible old new
none_untold old new found all breaks g l k = (to, back)
  where
    shown : (b : Break) → Has found b → (told : Broken) × Has breaks told
    shown b h = let t = told_some old new b in let s = l.complete t.0 (g.complete t.0 (b, h, t.1)) in (s.0, s.1)

    to : breaks ≡ [] → Compatible old new
    to e = k.0 (has_none found (λ b h. (let s = shown b h in subst (λ (w : List Broken). Has w s.0) e s.1)))

    none : found ≡ [] → (b : Broken) → Has all b → ⊥
    none e b h = elim (g.sound b h) [ inl n ↦ n | inr t ↦ subst (λ (w : List Break). Has w t.0) e t.1 ]

    back : Compatible old new → breaks ≡ []
    back c = has_none breaks (λ b h. none (k.1 c) b (l.sound b h))
