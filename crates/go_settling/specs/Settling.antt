-- How the declarations of a package are settled: one that has no entry gets the one that it is given under those that are had.
-- Own.
use Rattle.std.specs.Prelude.{◌≡◌, ◌≢◌, ℕ, Bool, true, false, None, Some, Result, Ok, Err}
use Rattle.go_base.specs.declared.memory.NoMemory.{NoMemory}
use Rattle.go_typings.specs.Assignments.{At, Below}
use Rattle.go_typings.specs.Declarations.{declarations}
use Rattle.go_typings.specs.PackageEnvironments.{Entries, Entry}
use Rattle.go_typings.specs.Sources.{PackageSource, Setting}
use Rattle.go_typings.specs.Typings.{given}
use Rattle.go_soundness.specs.Settled.{is_had}

-- no entry
abbrev pub no_entries : Entries
no_entries n = None

module _ (s : Setting) (u : PackageSource) where
  -- all that is had is had from below
  abbrev pub AreFromBelow : Entries → Type 0
  AreFromBelow a = Below (given s u) (declarations u) (is_had a) a

  -- a declaration that has no entry is given none
  abbrev pub IsStuck : Entries → ℕ → Type 0
  IsStuck a n = a n ≡ None → At (declarations u) n (λ d. (x : Entry) × given s u a d x) → ⊥

  -- a declaration that had no entry has the one that it is given under the old ones, and the others are as they were
  pub record Gains (old : Entries) (n : ℕ) (new : Entries) : Type 0 where
    pub had_none : old n ≡ None
    pub gained : At (declarations u) n (λ d. (x : Entry) × (new n ≡ Some x) × given s u old d x)
    pub others : (m : ℕ) → m ≢ n → new m ≡ old m

  -- what an attempt to settle a declaration does, by its answer
  abbrev pub Attempts : Entries → ℕ → Result Bool NoMemory → Entries → Type 0
  Attempts old n (Ok true) new = Gains old n new
  Attempts old n (Ok false) new = (new ≡ old) × IsStuck old n
  Attempts old n (Err e) new = new ≡ old
