-- What a run did to its store and to its two sinks: what each tells and counts before and after.
-- Own: this project's reports and exit statuses.
use Rattle.std.specs.Prelude.{◌≤◌, ◌-◌, ◌^◌, min, ◌⊎◌, ℕ, List, Option}
use Rattle.go_outside.specs.Faults.{Rose}
use Rattle.go_outside.specs.Sinks.{Takes, TakesSome}
use Rattle.go_outside.specs.Stores.{Contents}

-- what an object tells, where it does, and its count of faults, before and after
pub record Change (A : Type 0) : Type 0 where
  pub told_before : Option A
  pub told_after : Option A
  pub faults_before : ℕ
  pub faults_after : ℕ

-- the change from one state of an object to another, by what it tells and counts
abbrev pub change : {A X : Type 0} → (X → Option A) → (X → ℕ) → X → X → Change A
change told faults before after = record { told_before = told before; told_after = told after; faults_before = faults before; faults_after = faults after }

-- the count of faults rose, or stands at the last value of its type
abbrev pub Failed : {A : Type 0} → Change A → Type 0
Failed c = Rose c.faults_before c.faults_after

-- the count of faults didn't fall, up to the last value of its type
abbrev pub NeverFell : {A : Type 0} → Change A → Type 0
NeverFell c = min c.faults_before (2 ^ 64 - 1) ≤ c.faults_after

-- a sink took these bytes whole, where it tells what it takes
abbrev pub Took : Change (List ℕ) → List ℕ → Type 0
Took c bytes = Takes c.told_before bytes c.told_after

-- a sink took a prefix of these bytes
abbrev pub TookSome : Change (List ℕ) → List ℕ → Type 0
TookSome c bytes = TakesSome c.told_before bytes c.told_after

-- the changes of the store, of the output and of the error output
pub record Effects : Type 0 where
  pub store : Change Contents
  pub output : Change (List ℕ)
  pub error_output : Change (List ℕ)

-- the effects with these changes
abbrev pub effects : Change Contents → Change (List ℕ) → Change (List ℕ) → Effects
effects store output error_output = record { store = store; output = output; error_output = error_output }

-- the store or a sink failed
abbrev pub AnyFailed : Effects → Type 0
AnyFailed run = Failed run.store ⊎ Failed run.output ⊎ Failed run.error_output
