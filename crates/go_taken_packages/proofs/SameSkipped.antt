-- Under settings that are the same in all that a package reaches, the same is left out of it, for the same causes.
use Rattle.std.proofs.Common.{ℕ, Bool, List, inl, inr}
use Rattle.go_rules.specs.Environments.{Env}
use Rattle.go_typings.specs.Declarations.{Form, Declaration}
use Rattle.go_typings.specs.PackageEnvironments.{Entries, environment}
use Rattle.go_typings.specs.ReachedPackages.{HoldImports, ReachesSame}
use Rattle.go_typings.specs.Sources.{PackageSource, Setting}
use Rattle.go_typings.specs.Typings.{Typing}
use Rattle.go_typings.proofs.SameTypings.{turned, typing_same}
use Rattle.go_exposed.specs.BeyondProfile.{HasInexactType, HasInexactValue, HoldsTyped, IsBeyond}
use Rattle.go_exposed.specs.Causes.{IsInexactConstant}
use Rattle.go_exposed.specs.SkippedDeclarations.{AreSkippedFrom, skipped_none, skipped_kept, skipped_more, Skipped}
use Rattle.go_exposed.specs.SkippedWorlds.{IsSkipped}
use Rattle.go_exposed.proofs.OneSkipped.{cause_same}
use Rattle.go_exposed.proofs.SameImports.{beyond_same, kept_same, type_there, value_there}

module _ (u : PackageSource) (s t : Setting) (m : ReachesSame u s t) (all : HoldImports u m.reached) where
  holds_there : (P : Env → Form → Type 0) (n : ℕ) → ((S : ℕ → Bool) (a : Entries) → Typing s u S a → (d : Declaration) → P (environment s u a d) d.form → P (environment t u a d) d.form) → HoldsTyped s u P n → HoldsTyped t u P n
  holds_there P n h k = record {
    within = k.within;
    entries = k.entries;
    closed = k.closed;
    typing = typing_same u s t m all k.within k.entries k.typing;
    needed = k.needed;
    holds = (k.holds.0, k.holds.1, h k.within k.entries k.typing k.holds.0 k.holds.2);
  }

  inexact_there : (n : ℕ) → IsInexactConstant s u n → IsInexactConstant t u n
  inexact_there n (inl k) = inl (holds_there HasInexactType n (λ S a T d h. type_there u s t m all S a T d d.form h) k)
  inexact_there n (inr k) = inr (holds_there HasInexactValue n (λ S a T d h. value_there u s t m all S a T d d.form h) k)

  beyond_there : (n : ℕ) → IsBeyond s u n → IsBeyond t u n
  beyond_there n k = beyond_same u s t m all k

module _ (u : PackageSource) (s t : Setting) (m : ReachesSame u s t) (all : HoldImports u m.reached) where
  abbrev back : ReachesSame u t s
  back = turned u s t m

  skipped_from : (within : ℕ → Bool) {n : ℕ} {ds : List Declaration} {xs : List Skipped} → AreSkippedFrom s u within n ds xs → AreSkippedFrom t u within n ds xs
  skipped_from within skipped_none = skipped_none
  skipped_from within (skipped_kept i a) = skipped_kept i (skipped_from within a)
  skipped_from within (skipped_more {n = n} {c = c} i h a) =
      skipped_more i (cause_same u (IsInexactConstant s u) (IsBeyond s u) (IsInexactConstant t u) (IsBeyond t u) (inexact_there u s t m all) (inexact_there u t s back all) (beyond_there u s t m all) (beyond_there u t s back all) n c h) (skipped_from within a)

  pub skipped_same : (xs : List Skipped) → IsSkipped s u xs → IsSkipped t u xs
  skipped_same xs k = record { within = k.within; entries = k.entries; kept = kept_same u s t m all k.within k.entries k.kept; skipped = skipped_from k.within k.skipped }
