-- The entries of a package's typing are all that can be had, and a sieve lets all of its declarations through.
use Rattle.std.proofs.Common.{◌≡◌, ℕ, ◌<◌, true, false, Option, Some, None, length, refl, sym, arith}
use Rattle.std.specs.Prelude.{is_some}
use Rattle.std.proofs.lemmas.Bool.Decides.{nat_tests}
use Rattle.std.proofs.lemmas.Option.{slice_get_within}
use Rattle.go_typings.proofs.go_rules_proofs.OneKind.{no_truth}
use Rattle.go_typings.specs.Assignments.{all_of}
use Rattle.go_typings.specs.Declarations.{declarations}
use Rattle.go_typings.specs.PackageEnvironments.{Entries, Entry}
use Rattle.go_typings.specs.Sources.{PackageSource, Setting}
use Rattle.go_typings.specs.Typings.{IsTyping, given}
use Rattle.go_typings.proofs.Agree.{held}
use Rattle.go_typings.proofs.Cells.{none_some}
use Rattle.go_typings.proofs.OneTyping.{grows, one}
use Rattle.go_soundness.specs.Settled.{AreAll, AreSifted}

had_some : (c : Option Entry) → is_some c ≡ true → (x : Entry) × (c ≡ Some x)
had_some (Some x) e = (x, refl)
had_some None e = absurd (no_truth (sym e))

had_none : (c : Option Entry) → is_some c ≡ false → c ≡ None
had_none (Some x) e = absurd (no_truth e)
had_none None e = refl

module _ (s : Setting) (u : PackageSource) (a : Entries) (T : IsTyping s u a) where
  within : (n : ℕ) → n < length (declarations u) → all_of (declarations u) n ≡ true
  within n l = grind (arith, nat_tests, l)

  declared : (n : ℕ) (x : Entry) → a n ≡ Some x → all_of (declarations u) n ≡ true
  declared n x e = held (given s u) (grows s u) (one s u) (declarations u) (all_of (declarations u)) a T.had n x e

  pub all_had : AreAll s u a
  all_had = record {
    had = record { only = λ n e. had_none (a n) e; order = T.had.order; below = λ n i. (let k = had_some (a n) i in T.had.below n (declared n k.0 k.1)) };
    stuck = λ n e k. (let g = T.had.below n (within n (slice_get_within (declarations u) n k.0 k.1)) in none_some (a n) g.2.0 e g.2.1);
  }

  pub all_through : AreSifted s u a (λ n. false)
  all_through = record {
    marked = λ n l e. absurd (no_truth (sym e));
    entered = λ n l e. (let g = T.had.below n (within n l) in (g.2.0, g.2.1));
    rank = T.rank;
    falls = λ m n e k. T.falls m n (within m (slice_get_within (declarations u) m k.0 k.1)) k;
    straight = λ m n e k r. T.lengths m n (within m (slice_get_within (declarations u) m k.0 k.1)) k r;
    meets = λ n l e. T.asks n (within n l);
    closed = λ m n e k. refl;
  }
