-- What comes of platforms that are looked at apart from each other.
use Rattle.std.specs.Prelude.{◌≡◌, ◌<◌, ◌+◌, ◌++◌, ℕ, Bool, true, false, List, [], ◌∷◌, Option, Result, Ok, Err}
use Rattle.api_findings.specs.Findings.{Finds, IsLeftOut}
use Rattle.api_findings.specs.declared.outcomes.Outcome.{Outcome}
use Rattle.api_findings.specs.declared.outcomes.Outcome.TheVariants as outcome
use Rattle.api_findings.specs.inner.Found.{IsError, verdicts_of}
use Rattle.go_base.specs.declared.memory.NoMemory.{NoMemory}
use Rattle.go_model.specs.declared.files.platform.Platform.{Platform}
use Rattle.go_model.specs.declared.files.tree.Tree.{Tree}

abbrev pub has_ended : Outcome → Bool
has_ended outcome.Alike = false
has_ended (outcome.Sought found) = false
has_ended (outcome.Ended e) = true

-- both, one after the other, where both are there
abbrev pub AreAppended : Result (List Outcome) NoMemory → Result (List Outcome) NoMemory → Result (List Outcome) NoMemory → Type 0
AreAppended (Err e) ours theirs = Unit {0}
AreAppended (Ok all) (Ok os) (Ok us) = all ≡ os ++ us
AreAppended (Ok all) ours theirs = ⊥

module _ (barred : List (List ℕ)) (old : Option Tree) (tree std_tree : Tree) where
  -- on the platform of a number, to which the first one that is alike has another: that it is alike to an earlier one, what is found, or an error
  abbrev pub IsOutcome : (first number : ℕ) → Platform → Outcome → Type 0
  IsOutcome first number p outcome.Alike = first < number
  IsOutcome first number p (outcome.Sought found) = Finds barred old tree std_tree p found.lines (verdicts_of found) × IsLeftOut barred std_tree old tree p found.left_out
  IsOutcome first number p (outcome.Ended e) = IsError barred old tree std_tree p e

  -- one of each of the platforms from a number on; behind an error there may be whatever
  abbrev pub AreOutcomes : ℕ → List ℕ → List Platform → List Outcome → Type 0
  AreOutcomes number [] [] os = os ≡ []
  AreOutcomes number (first ∷ firsts) (p ∷ ps) (outcome.Ended e ∷ os) = IsError barred old tree std_tree p e
  AreOutcomes number (first ∷ firsts) (p ∷ ps) (o ∷ os) = IsOutcome first number p o × AreOutcomes (number + 1) firsts ps os
  AreOutcomes number firsts ps os = ⊥
