-- Where nothing is had, all that is had is had from below.
use Rattle.std.proofs.Common.{◌≡◌, zero, true, false, refl}
use Rattle.go_typings.specs.Sources.{PackageSource, Setting}
use Rattle.go_settling.specs.Settling.{AreFromBelow, no_entries}

pub nothing_had : (s : Setting) (u : PackageSource) → AreFromBelow s u no_entries
nothing_had s u = record { only = λ n e. refl; order = λ n. zero; below = λ n e. let f : false ≡ true = e in absurd (cc) }
