use Rattle.api_worlds.proofs.KeptPackages.{GoesBehind}
use Rattle.api_worlds.proofs.left_out.place_for.Given as goal

abbrev pub invariant-loop-at : goal.invariant-loop-at
invariant-loop-at l = GoesBehind l.packages l.path l.at
