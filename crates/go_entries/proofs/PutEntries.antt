-- One more entry that is had.
use Rattle.std.proofs.Common.{◌≡◌, ◌≢◌, ◌<◌, ℕ, Bool, true, false, List, Option, None, Some, arith, get_or, get_or-set_same, get_or-set_other, length, nat_eq, set, refl, sym, ap, ◌∙◌, subst, ◌⊎◌, inl, inr}
use Rattle.std.proofs.lemmas.Bool.Decides.{nat_tests}
use Rattle.std.specs.Prelude.{if◌then◌else◌}
use Rattle.go_entries.specs.Entries.{entry_of}
use Rattle.go_entries.specs.declared.entry.Entry.{Entry as Had}
use Rattle.go_entries.specs.HadEntries.{entries_at, given}
use Rattle.go_package_scopes.specs.KeptScopes.{with_entry}

pub either : (b : Bool) → (b ≡ true) ⊎ (b ≡ false)
either true = inl refl
either false = inr refl

pub same : (m n : ℕ) → nat_eq m n ≡ true → m ≡ n
same m n e = grind (arith, nat_tests, e)

pub other : (m n : ℕ) → nat_eq m n ≡ false → m ≢ n
other m n e = λ s. absurd (grind (arith, nat_tests, e, s))

module _ (xs : List (Option Had)) (n : ℕ) (x : Had) (within : n < length xs) where
  put_by : (m : ℕ) (b : Bool) → nat_eq m n ≡ b → given (get_or (set xs n (Some x)) m None) ≡ (if b then Some (entry_of x) else given (get_or xs m None))
  put_by m true e = subst (λ k. given (get_or (set xs n (Some x)) k None) ≡ Some (entry_of x)) (sym (same m n e)) (ap given (get_or-set_same xs n (Some x) None within))
  put_by m false e = ap given (get_or-set_other xs n m (Some x) None (other m n e))

  put_at : (m : ℕ) → given (get_or (set xs n (Some x)) m None) ≡ (if nat_eq m n then Some (entry_of x) else given (get_or xs m None))
  put_at m = elim (either (nat_eq m n)) [
    | inl e ↦ put_by m true e ∙ ap (λ b. if b then Some (entry_of x) else given (get_or xs m None)) (sym e)
    | inr e ↦ put_by m false e ∙ ap (λ b. if b then Some (entry_of x) else given (get_or xs m None)) (sym e)
  ]

  pub put_entry : entries_at (set xs n (Some x)) ≡ with_entry (entries_at xs) n (entry_of x)
  put_entry i m = put_at m i
