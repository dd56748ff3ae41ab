-- Which declarations are beyond the profile, as flags.
-- Own: words of the contracts.
use Rattle.std.specs.Prelude.{ℕ, Bool, length}
use Rattle.go_exposed.specs.Causes.{IsOfMissing, IsOfNumber, IsToldInexact}
use Rattle.go_exposed.specs.ToldBeyond.{IsToldBeyond}
use Rattle.go_graphs.specs.Flags.{AreFlagsOf}
use Rattle.go_left_out.specs.declared.told.Told.{Told}
use Rattle.go_typings.specs.Declarations.{declarations}
use Rattle.go_typings.specs.PackageEnvironments.{Entries}
use Rattle.go_typings.specs.Sources.{PackageSource, Setting}

-- the flags tell it, where these entries are had and these declarations are lost
pub record AreTold (s : Setting) (u : PackageSource) (a : Entries) (lost : ℕ → Bool) (t : Told) : Type 0 where
  pub numbers : AreFlagsOf (length (declarations u)) (IsOfNumber u (IsToldInexact s u a lost) (IsToldBeyond s u a lost)) t.numbers.items
  pub inexact : AreFlagsOf (length (declarations u)) (IsToldInexact s u a lost) t.inexact.items
  pub missing : AreFlagsOf (length (declarations u)) (IsOfMissing u (IsToldInexact s u a lost) (IsToldBeyond s u a lost)) t.missing.items
  pub beyond : AreFlagsOf (length (declarations u)) (IsToldBeyond s u a lost) t.beyond.items
