-- What a run writes, how it is delivered to the two sinks, and with which status the run ends.
-- Own: this project's reports and exit statuses.
use Rattle.std.specs.Prelude.{◌≡◌, ◌<◌, ◌⊎◌, ℕ, Some, None, List, length}
use Rattle.go_outside.specs.Faults.{Told}
use Rattle.go_outside.specs.Stores.{Contents}
use Rattle.api_gate.specs.declared.status.Status.{Status}
use Rattle.api_gate.specs.declared.status.Status.TheVariants as status
use Rattle.api_texts.specs.FixedLines.{memory_line, read_line, write_line}
use Rattle.api_words.specs.Words.{IsRequest}
use Rattle.api_words.specs.declared.request.Request.{Request}
use Rattle.api_gate.specs.runs.Effects.{AnyFailed, Change, Effects, Failed, Took, TookSome}
use Rattle.api_gate.specs.runs.Outcomes.{EndsWith, Outcome, fault_alone}

-- what a run may write: what the definitions give for the words over the store; for good words that the store failed, where it did, but
-- where the trees are made; and at any time that no memory was left
pub data MayWrite (words : List (List ℕ)) (store : Change Contents) : Outcome → Type 0 where
  defined : {o : Outcome} → EndsWith words store.told_before o → MayWrite words store o
  store_failed : (r : Request) → IsRequest words r → r.made ≡ None → Failed store → MayWrite words store (fault_alone status.ReadFault read_line)
  no_memory : MayWrite words store (fault_alone status.NoMemory memory_line)

-- both texts were written whole
pub record Writes (o : Outcome) (out err : Change (List ℕ)) (got : Status) : Type 0 where
  pub ended : got ≡ o.status
  pub output : Took out o.output
  pub fault_line : Took err o.fault_line

-- a sink took a text whole, or failed after a prefix of it
abbrev pub Tried : Change (List ℕ) → List ℕ → Type 0
Tried sink text = Took sink text ⊎ (Failed sink × TookSome sink text)

-- how an outcome reaches the sinks: whole; or the output fails after a prefix of its text, and the line of a write fault is
-- tried; or the error output fails after a prefix of the fault line. What failed wasn't empty
pub data Delivers (o : Outcome) (out err : Change (List ℕ)) (got : Status) : Type 0 where
  whole : Writes o out err got → Delivers o out err got
  output_failed : got ≡ status.WriteFault → Failed out → 0 < length o.output → TookSome out o.output → Tried err write_line → Delivers o out err got
  line_failed : got ≡ status.WriteFault → Failed err → 0 < length o.fault_line → Took out o.output → TookSome err o.fault_line → Delivers o out err got

-- how a run with these words ends
abbrev pub Ends : List (List ℕ) → Effects → Status → Type 0
Ends words run got = (o : Outcome) × MayWrite words run.store o × Delivers o run.output run.error_output got

-- where the store tells its files and neither it nor a sink failed, what the definitions give for them was written whole,
-- or no memory was left
abbrev pub IsComplete : List (List ℕ) → Effects → Status → Type 0
IsComplete words run got =
    Told run.store.told_before (λ m. (o : Outcome) → EndsWith words (Some m) o → (AnyFailed run → ⊥) → Writes o run.output run.error_output got ⊎ (got ≡ status.NoMemory))
