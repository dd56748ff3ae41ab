use Rattle.std.proofs.Common.{◌≡◌}
use Rattle.go_declarations.specs.Listings.{declarations_of}
use Rattle.go_graphs.specs.Flags.{is_flagged}
use Rattle.go_left_out.proofs.SkippedSoFar.{SoFar}
use Rattle.go_left_out.specs.Told.{AreTold}
use Rattle.go_sifting.specs.Graphs.{AreRows}
use Rattle.go_soundness.specs.Apart.{IsApart}
use Rattle.go_soundness.specs.LostDeclarations.{Depends}
use Rattle.go_soundness.specs.Settled.{AreAll, AreSifted}
use Rattle.go_typings.specs.Declarations.{declarations}
use Rattle.go_typings.specs.PackageEnvironments.{Entries}
use Rattle.go_typings.specs.Sources.{PackageSource, Setting}
use Rattle.go_left_out.proofs.skipped.skipped.Given as goal

abbrev pub invariant-loop-number : goal.invariant-loop-number
invariant-loop-number l =
    (s : Setting) (u : PackageSource) (a : Entries) → declarations u ≡ declarations_of l.declarations → IsApart s u → AreAll s u a → AreSifted s u a (is_flagged l.lost) → AreRows s u a (Depends s u a) l.depends → AreTold s u a (is_flagged l.lost) l.told
    → SoFar s u l.lost l.number l.skipped
