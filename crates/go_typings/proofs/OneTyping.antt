-- Typings agree where both are, and each rule holds under all entries.
use Rattle.std.proofs.Common.{◌≡◌, ℕ, Bool, true, Some}
use Rattle.go_typings.specs.Assignments.{At, before}
use Rattle.go_typings.specs.PackageEnvironments.{Entries, Entry, environment}
use Rattle.go_typings.specs.Declarations.{declarations}
use Rattle.go_typings.specs.Sources.{PackageSource, Setting}
use Rattle.go_typings.specs.Typings.{Typing, given}
use Rattle.go_typings.proofs.Agree.{GivesOne, Grows, agree, same}
use Rattle.go_typings.proofs.Cells.{before_within}
use Rattle.go_typings.proofs.GrowEnvironments.{environment_more}
use Rattle.go_typings.proofs.GrowRules.{gives_more}
use Rattle.go_typings.proofs.OneEntry.{gives_once}

module _ (s : Setting) (u : PackageSource) where
  pub grows : Grows (given s u)
  grows a b h d x g = gives_more (environment s u a d) (environment s u b d) (environment_more a b h s u d) g

  pub one : GivesOne (given s u)
  one a d x y g k = gives_once (environment s u a d) g k

  pub typings_agree : (S T : ℕ → Bool) (a b : Entries) → Typing s u S a → Typing s u T b → (n : ℕ) → S n ≡ true → T n ≡ true → a n ≡ b n
  typings_agree S T a b t r = agree (given s u) grows one (declarations u) S a t.had T b r.had

  -- each entry is given where all are had
  pub all_hold : (S : ℕ → Bool) (a : Entries) (n : ℕ) → Typing s u S a → S n ≡ true → At (declarations u) n (λ d. (x : Entry) × (a n ≡ Some x) × given s u a d x)
  all_hold S a n t i =
      let k = t.had.below n i in
      (k.0, k.1, (k.2.0, k.2.1, grows (before t.had.order (t.had.order n) a) a (before_within t.had.order (t.had.order n) a) k.0 k.2.0 k.2.2))

  pub one_typing : (S : ℕ → Bool) (a b : Entries) → Typing s u S a → Typing s u S b → (n : ℕ) → a n ≡ b n
  one_typing S a b t r = same (given s u) grows one (declarations u) S a b t.had r.had
