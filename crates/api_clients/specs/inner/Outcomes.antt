-- What comes of platforms that are looked at apart from each other.
use Rattle.std.specs.Prelude.{◌≡◌, ◌≢◌, ◌<◌, ◌+◌, ◌++◌, ℕ, Bool, true, false, List, [], ◌∷◌, Result, Ok, Err}
use Rattle.api_clients.specs.ClientAnswers.{IsAnsweredOn}
use Rattle.api_clients.specs.declared.outcomes.Outcome.{Outcome}
use Rattle.api_clients.specs.declared.outcomes.Outcome.TheVariants as outcome
use Rattle.api_clients.specs.inner.ClientSteps.{IsErrorOn}
use Rattle.go_base.specs.Lists.{Has}
use Rattle.go_base.specs.declared.memory.NoMemory.{NoMemory}
use Rattle.go_model.specs.declared.files.platform.Platform.{Platform}
use Rattle.go_model.specs.declared.files.tree.Tree.{Tree}
use Rattle.go_model.specs.files.Trees.{IsTree}

abbrev pub has_ended : Outcome → Bool
has_ended outcome.Alike = false
has_ended (outcome.Answered a) = false
has_ended (outcome.Ended e) = true

-- both, one after the other, where both are there
abbrev pub AreAppended : Result (List Outcome) NoMemory → Result (List Outcome) NoMemory → Result (List Outcome) NoMemory → Type 0
AreAppended (Err e) ours theirs = Unit {0}
AreAppended (Ok all) (Ok os) (Ok us) = all ≡ os ++ us
AreAppended (Ok all) ours theirs = ⊥

module _ (barred : List (List ℕ)) (tree std_tree client : Tree) where
  -- a module's tree, whose path is barred, the standard library's and a client's
  pub record AreTrees : Type 0 where
    pub is_tree : IsTree tree
    pub is_std : IsTree std_tree
    pub is_client : IsTree client
    pub is_named : tree.module ≢ []
    pub is_barred : Has barred tree.module

  -- on the platform of a number, to which the first one that is alike has another: that it is alike to an earlier one, what is told, or an error
  abbrev pub IsOutcome : (first number : ℕ) → Platform → Outcome → Type 0
  IsOutcome first number p outcome.Alike = first < number
  IsOutcome first number p (outcome.Answered a) = IsAnsweredOn barred tree std_tree client p a
  IsOutcome first number p (outcome.Ended e) = IsErrorOn barred tree std_tree client p e

  -- one of each of the platforms from a number on; behind an error there may be whatever
  abbrev pub AreOutcomes : ℕ → List ℕ → List Platform → List Outcome → Type 0
  AreOutcomes number [] [] os = os ≡ []
  AreOutcomes number (first ∷ firsts) (p ∷ ps) (outcome.Ended e ∷ os) = IsErrorOn barred tree std_tree client p e
  AreOutcomes number (first ∷ firsts) (p ∷ ps) (o ∷ os) = IsOutcome first number p o × AreOutcomes (number + 1) firsts ps os
  AreOutcomes number firsts ps os = ⊥
