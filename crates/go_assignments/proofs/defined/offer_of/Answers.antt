use Rattle.std.proofs.Common.{refl}
use Rattle.go_assignments.proofs.defined.offer_of.Goals as goal

pub returns : goal.returns
returns c = record { named = refl; typed = c.in_ok-term.ensures; fits = c.in_ok-fits.ensures }
