-- Lines that are put in the order of their texts, each text once.
use Rattle.std.proofs.Common.{◌≡◌, ℕ, List, ◌++◌, length, take, drop, refl, sym, ap, ◌∙◌, arith}
use Rattle.std.specs.List.Sorted.{IsPermutation}
use Rattle.std.proofs.lemmas.List.{append-nil}
use Rattle.std.proofs.lemmas.List.Sorted.{Contains-permutation, IsPermutation-sym, length_permutation}
use Rattle.go_base.specs.Lists.{Has}
use Rattle.go_base.proofs.Lists.{drop_past, take_past}
use Rattle.api_lines.specs.declared.line.Line.{Line}
use Rattle.api_lines.specs.Lines.{printed, AreInOrder, IsListing}
use Rattle.api_lines.specs.OrderedTexts.{IsArranged}
use Rattle.api_lines.proofs.OrderedTexts.{contains_has, has_contains}

-- lines that were arranged by their texts
pub arranged_listing : (old new : List Line) → IsArranged printed old new → IsListing (Has old) new
arranged_listing old new a = record { sound = a.sound; complete = λ l h. let b = a.complete l h in (b.0, b.1, sym b.2); ordered = a.ordered }

module _ (old new : List Line) (moved : IsPermutation old new) where
  had : (l : Line) → Has new l → Has old l
  had l h = contains_has old l (Contains-permutation new old l (IsPermutation-sym old new moved) (has_contains new l h))

  has : (l : Line) → Has old l → Has new l
  has l h = contains_has new l (Contains-permutation old new l moved (has_contains old l h))

  -- lines that were moved and are in order
  pub moved_in_order : AreInOrder new → IsListing (Has old) new
  moved_in_order o = record { sound = had; complete = λ l h. (l, has l h, refl); ordered = o }

  -- the order in which lines come makes no difference
  pub listed_moved : (lines : List Line) → IsListing (Has new) lines → IsListing (Has old) lines
  listed_moved lines k = record { sound = λ l h. had l (k.sound l h); complete = λ l h. k.complete l (has l h); ordered = k.ordered }

-- a list after all its items were moved
pub moved_whole : (old new : List Line) (n : ℕ) → IsPermutation old new → n ≡ length old → take n (new ++ drop (length new) old) ≡ new
moved_whole old new n moved e =
    let same : length new ≡ length old = length_permutation old new moved in
    ap (λ w. take n (new ++ w)) (drop_past (length new) old (omega (arith, same))) ∙ ap (λ w. take n w) (append-nil new) ∙ take_past n new (omega (arith, same, e))
