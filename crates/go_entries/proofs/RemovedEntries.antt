-- One entry fewer that is had.
use Rattle.std.proofs.Common.{◌≡◌, ◌<◌, ℕ, Bool, true, false, List, Option, None, Some, get_or, get_or-set_same, get_or-set_other, length, nat_eq, set, sym, ap, ◌∙◌, subst, ◌⊎◌, inl, inr}
use Rattle.std.specs.Prelude.{if◌then◌else◌}
use Rattle.go_entries.specs.declared.entry.Entry.{Entry as Had}
use Rattle.go_entries.specs.HadEntries.{given}
use Rattle.go_entries.proofs.PutEntries.{either, other, same}
use Rattle.go_typings.specs.PackageEnvironments.{Entry}

module _ (xs : List (Option Had)) (n : ℕ) (within : n < length xs) where
  removed_by : (m : ℕ) (b : Bool) → nat_eq m n ≡ b → given (get_or (set xs n None) m None) ≡ (if b then None else given (get_or xs m None))
  removed_by m true e = subst (λ k. given (get_or (set xs n None) k None) ≡ None) (sym (same m n e)) (ap given (get_or-set_same xs n None None within))
  removed_by m false e = ap given (get_or-set_other xs n m None None (other m n e))

  pub removed_entry : (m : ℕ) → given (get_or (set xs n None) m None) ≡ (if nat_eq m n then None else given (get_or xs m None))
  removed_entry m = elim (either (nat_eq m n)) [
    | inl e ↦ removed_by m true e ∙ ap (λ b. if b then None else given (get_or xs m None)) (sym e)
    | inr e ↦ removed_by m false e ∙ ap (λ b. if b then None else given (get_or xs m None)) (sym e)
  ]
