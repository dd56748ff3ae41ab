-- Of a package that has a typing nothing is left out.
use Rattle.std.proofs.Common.{◌≡◌, ◌<◌, ◌+◌, ℕ, zero, suc, true, List, [], ◌∷◌, arith, length}
use Rattle.std.proofs.lemmas.Bool.Decides.{nat_tests}
use Rattle.std.specs.Prelude.{nat_lt}
use Rattle.go_exposed.specs.KeptDeclarations.{LeavesOut}
use Rattle.go_exposed.specs.SkippedDeclarations.{AreSkippedFrom, skipped_kept, skipped_none}
use Rattle.go_exposed.specs.SkippedWorlds.{IsSkipped}
use Rattle.go_typings.specs.Assignments.{all_of}
use Rattle.go_typings.specs.Declarations.{Declaration, declarations}
use Rattle.go_typings.specs.PackageEnvironments.{Entries}
use Rattle.go_typings.specs.Sources.{PackageSource, Setting}

is_less : (m n : ℕ) → m < n → nat_lt m n ≡ true
is_less m n h = grind (arith, nat_tests, h)

module _ (s : Setting) (u : PackageSource) where
  none_from : (n : ℕ) (ds : List Declaration) → n + length ds ≡ length (declarations u) → AreSkippedFrom s u (all_of (declarations u)) n ds []
  none_from n [] h = skipped_none
  none_from n (d ∷ ds) h = skipped_kept (is_less n (length (declarations u)) (omega (arith, h))) (none_from (suc n) ds (omega (arith, h)))

  pub nothing_left_out : (a : Entries) → LeavesOut s u (all_of (declarations u)) a → IsSkipped s u []
  nothing_left_out a k = record { within = all_of (declarations u); entries = a; kept = k; skipped = none_from 0 (declarations u) (omega arith) }
